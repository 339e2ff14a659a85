-- `write_parts::decimals::put_two` meets its contract. Assumes nothing.
use Prim.Native.Nat.{◌+◌, ◌/◌, ◌%◌}
use mathlib.Core.Path.{◌≡◌, refl, ◌∙◌}
use mathlib.Core.List.{[], ◌∷◌}
use native.Mathlib.Omega.{arith}
use lib.ListN.{set, length-set}
use Rattle.write_parts.proofs.Runs.{set_then}
use Rattle.write_parts.specs.Stored.{digits}
use Rattle.write_parts.proofs.decimals.put_two.Goals as goal

pub bounds-out-at-2 : goal.bounds-out-at-2
bounds-out-at-2 c = simp length-set (omega arith)

pub returns : goal.returns
unfolding digits
returns c =
    let a = c.args in
    let e : a.n / 10 % 10 ≡ a.n / 10 = omega (arith, c.requires) in
    (record { place = refl; stored = set_then (set a.out.now a.at (48 + a.n / 10)) [] (a.at + 1) (48 + a.n % 10) ∙ rw (e) (set_then a.out.now ((48 + a.n % 10) ∷ []) a.at (48 + a.n / 10)) })
