-- `read_lookup::axes::first_fields` meets its contract: what was found of each field, or else what the lines left give it, is the answer.
use Prim.Native.Nat.{◌+◌, ◌-◌}
use mathlib.Core.Path.{◌≡◌}
use native.Mathlib.Omega.{arith}
use Rattle.read_lookup.proofs.Finding.{left_starts, left_short, left_not_past}
use Rattle.read_lookup.proofs.AxisLaws.{axes_next, axes_end}
use Rattle.read_lookup.proofs.axes.first_fields.Goals as goal

pub line_at-requires : goal.line_at-requires
line_at-requires c = let w = c.loop.invariant in (left_starts w (omega arith), left_short w (omega arith))

pub returns-in_default : goal.returns-in_default
returns-in_default c = absurd (left_not_past c.loop.invariant (omega arith) c.in_default.ensures)

pub loop-preserved : goal.loop-preserved
loop-preserved c =
    let l = c.loop in
    let a = c.args in
    let e : a.count - l.counter - 1 ≡ a.count - (l.counter + 1) = omega arith in
    rw (c.keep-places.ensures, ← e) (axes_next l.places l.invariant (omega arith) c.in-Some.ensures _ c.field_given.ensures)

pub returns-after-loop : goal.returns-after-loop
returns-after-loop c = axes_end _ c.loop.invariant (omega arith)
