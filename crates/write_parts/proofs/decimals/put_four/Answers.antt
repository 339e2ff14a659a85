-- `write_parts::decimals::put_four` meets its contract: `digits_stored` of Digits.antt. Assumes nothing.
use Prim.Native.Nat.{ℕ, ◌%◌, ◌^◌}
use mathlib.Core.Path.{ap, ◌∙◌}
use mathlib.Core.List.{List}
use native.Mathlib.Omega.{arith}
use lib.Seq.{sets}
use Rattle.write_parts.specs.Stored.{digits}
use Rattle.write_parts.proofs.Digits.{digits_stored}
use Rattle.write_parts.proofs.decimals.put_four.Goals as goal

pub returns : goal.returns
returns c =
    let a = c.args in
    let p = c.put_two-o in
    let q = c.put_two in
    (record { place = omega (arith, p.ensures.place, q.ensures.place); stored = q.ensures.stored ∙ ap (λ (d : List ℕ). sets d p.result (digits 2 (a.n % 10 ^ 2))) p.ensures.stored ∙ digits_stored 2 a.n a.out.now a.at p.result 2 p.ensures.place })
