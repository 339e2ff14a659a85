-- `write_file::head::put_sizes` meets its contract. Assumes nothing.
use Prim.Native.Nat.{ℕ}
use mathlib.Core.Path.{ap, ◌∙◌}
use mathlib.Core.List.{List, flat_map}
use native.Mathlib.Omega.{arith}
use lib.ListN.{set, length-set}
use lib.Seq.{sets}
use Rattle.format.specs.Bytes.{bytes}
use Rattle.write_file.specs.Stored.{after_space}
use Rattle.write_file.proofs.Header.{value_length, value_stored}
use Rattle.write_file.proofs.head.put_sizes.Goals as goal

pub shape_of-out : goal.shape_of-out
shape_of-out c = simp length-set (c.put_spaced-e.auto.out ∙ c.put_bytes-a.auto.out)

pub returns : goal.returns
returns c =
    let a = c.args in
    let p = c.put_bytes-a in
    let q = c.put_spaced-e in
    let name = bytes "sizes:" in
    let value = flat_map after_space a.sizes.now in (record {
      place = omega (arith, p.ensures.place, q.ensures.place, value_length name value);
      stored = ap (λ (d : List ℕ). set d q.result 10) (q.ensures.stored ∙ ap (λ (d : List ℕ). sets d p.result value) p.ensures.stored)
          ∙ value_stored a.out.now name value a.at p.result q.result p.ensures.place q.ensures.place;
      long = omega (arith, p.ensures.place, q.ensures.long);
    })
