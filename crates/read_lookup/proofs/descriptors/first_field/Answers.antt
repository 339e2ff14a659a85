-- `read_lookup::descriptors::first_field` meets its contract: what the lines left give is the answer.
use Prim.Native.Nat.{◌+◌, ◌-◌}
use mathlib.Core.Path.{◌≡◌, sym, ◌∙◌}
use native.Mathlib.Omega.{arith}
use Rattle.read_lookup.proofs.Finding.{found_some, left_starts, left_short, left_not_past, field_found, field_on, field_end}
use Rattle.read_lookup.proofs.descriptors.first_field.Goals as goal

pub line_at-requires : goal.line_at-requires
line_at-requires c = let w = c.loop.invariant in (left_starts w (omega arith), left_short w (omega arith))

pub returns-in_default : goal.returns-in_default
returns-in_default c = absurd (left_not_past c.loop.invariant (omega arith) c.in_default.ensures)

pub returns-then-is_some : goal.returns-then-is_some
returns-then-is_some c =
    field_found c.args.field c.loop.invariant (omega arith) c.in-Some.ensures _ c.field_in-place.ensures (found_some c.field_in-place.result ∙ sym c.if-is_some.ensures)

pub loop-preserved : goal.loop-preserved
loop-preserved c =
    let l = c.loop in
    let a = c.args in
    let e : a.count - l.counter - 1 ≡ a.count - (l.counter + 1) = omega arith in
    rw (← e) (field_on a.field l.invariant (omega arith) c.in-Some.ensures _ c.field_in-place.ensures (found_some c.field_in-place.result ∙ sym c.if-is_some.ensures))

pub returns : goal.returns
returns c = field_end c.args.field c.loop.invariant (omega arith)
