-- `write_parts::decimals::put_eight` meets its contract: `digits_stored` of Digits.antt. Assumes nothing.
use Prim.Native.Nat.{ℕ, ◌%◌, ◌^◌}
use mathlib.Core.Path.{ap, ◌∙◌}
use mathlib.Core.List.{List}
use native.Mathlib.Omega.{arith}
use lib.Seq.{sets}
use Rattle.write_parts.specs.Stored.{digits}
use Rattle.write_parts.proofs.Digits.{digits_stored}
use Rattle.write_parts.proofs.decimals.put_eight.Goals as goal

pub returns : goal.returns
returns c =
    let a = c.args in
    let p = c.put_four-o in
    let q = c.put_four in
    (record { place = omega (arith, p.ensures.place, q.ensures.place); stored = q.ensures.stored ∙ ap (λ (d : List ℕ). sets d p.result (digits 4 (a.n % 10 ^ 4))) p.ensures.stored ∙ digits_stored 4 a.n a.out.now a.at p.result 4 p.ensures.place })
