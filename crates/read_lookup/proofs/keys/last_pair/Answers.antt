-- `read_lookup::keys::last_pair` meets its contract: what the lines left give, or else what was found before them, is the answer.
use Prim.Native.Nat.{◌+◌, ◌-◌}
use mathlib.Core.Path.{◌≡◌, refl, ap, ◌∙◌}
use Rattle.format.specs.Answers.{place_found}
use native.Mathlib.Omega.{arith}
use Rattle.read_lookup.proofs.Finding.{latest_is, left_starts, left_short, left_not_past, key_next, key_end}
use Rattle.read_lookup.proofs.keys.last_pair.Goals as goal

pub line_at-requires : goal.line_at-requires
line_at-requires c = let w = c.loop.invariant in (left_starts w (omega arith), left_short w (omega arith))

pub returns-in_default : goal.returns-in_default
returns-in_default c = absurd (left_not_past c.loop.invariant (omega arith) c.in_default.ensures)

pub loop-preserved : goal.loop-preserved
loop-preserved c =
    let l = c.loop in
    let a = c.args in
    let e : a.count - l.counter - 1 ≡ a.count - (l.counter + 1) = omega arith in
    rw (← e) (key_next _ _ l.invariant (omega arith) c.in-Some.ensures _ _ _ refl c.pair_in-here.ensures (ap place_found c.or-found.ensures ∙ latest_is l.found c.pair_in-here.result))

pub returns : goal.returns
returns c = key_end _ _ c.loop.invariant (omega arith)
