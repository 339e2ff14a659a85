-- `write_file::head::put_number` meets its contract. Assumes nothing.
use Prim.Native.Nat.{ℕ}
use mathlib.Core.Path.{ap, ◌∙◌}
use mathlib.Core.List.{List}
use native.Mathlib.Omega.{arith}
use lib.ListN.{set, length-set}
use lib.Seq.{sets}
use Rattle.format.specs.Writer.{decimal}
use Rattle.write_parts.proofs.Digits.{at_most_20}
use Rattle.write_file.proofs.Header.{value_length, value_stored}
use Rattle.write_file.proofs.head.put_number.Goals as goal

pub put_decimal-e-requires : goal.put_decimal-e-requires
put_decimal-e-requires c = omega (arith, at_most_20 c.args.n c.ranges.n.fits, c.put_bytes-a.ensures.place)

pub shape_of-out : goal.shape_of-out
shape_of-out c = simp length-set (c.put_decimal-e.auto.out ∙ c.put_bytes-a.auto.out)

pub returns : goal.returns
returns c =
    let a = c.args in
    let p = c.put_bytes-a in
    let q = c.put_decimal-e in
    let name = a.name.now in
    let value = decimal a.n in (record {
      place = omega (arith, p.ensures.place, q.ensures.place.0, value_length name value);
      stored = ap (λ (d : List ℕ). set d q.result 10) (q.ensures.stored ∙ ap (λ (d : List ℕ). sets d p.result value) p.ensures.stored)
          ∙ value_stored a.out.now name value a.at p.result q.result p.ensures.place q.ensures.place.0;
      long = omega (arith, p.ensures.place, q.ensures.place.1);
    })
