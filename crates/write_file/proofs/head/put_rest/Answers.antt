-- `write_file::head::put_rest` meets its contract. Assumes nothing.
use Prim.Native.Nat.{ℕ}
use mathlib.Core.Path.{ap, ◌∙◌}
use mathlib.Core.List.{List, flat_map}
use native.Mathlib.Omega.{arith}
use lib.Seq.{sets}
use Rattle.format.specs.Bytes.{bytes}
use lib.ListN.{set, length-set}
use Rattle.format.specs.Codes.{encoding_code}
use Rattle.format.specs.Descriptors.{encodings}
use Rattle.format.specs.Writer.{name_at}
use Rattle.write_file.specs.Stored.{value_line, after_space}
use Rattle.write_file.specs.Arrays.{endian_text_of}
use Rattle.write_file.proofs.Header.{four_stored, four_length}
use Rattle.write_file.proofs.head.put_rest.Goals as goal

pub shape_of-out : goal.shape_of-out
shape_of-out c = simp length-set (c.put_endian-e.auto.out ∙ c.put_line-b.auto.out ∙ c.put_sizes-a.auto.out)

pub returns : goal.returns
returns c =
    let a = c.args.array.now in
    let d = c.args.out.now in
    let at = c.args.at in
    let p = c.put_sizes-a in
    let e = c.encoding_name.ensures in
    let q = rw e.is at c.put_line-b.ensures in
    let b = c.put_line-b.result in
    let r = c.put_endian-e in
    let u = value_line (bytes "sizes:") (flat_map after_space a.sizes.now) in
    let v = value_line (bytes "encoding: ") (name_at encodings (encoding_code a.coding.encoding)) in
    let x = endian_text_of a.coding in (record {
      place = omega (arith, p.ensures.place, q.place, r.ensures.place, four_length d u v x at p.result b p.ensures.place q.place);
      stored = ap (λ (s : List ℕ). set s r.result 10) (r.ensures.stored ∙ ap (λ (s : List ℕ). sets s b x) (q.stored ∙ ap (λ (s : List ℕ). sets s p.result v) p.ensures.stored))
          ∙ four_stored d u v x at p.result b p.ensures.place q.place r.result r.ensures.place;
      long = omega (arith, p.ensures.long, c.put_line-b.ensures.long, e.short, r.ensures.long);
    })
