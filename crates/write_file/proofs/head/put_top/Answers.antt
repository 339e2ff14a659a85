-- `write_file::head::put_top` meets its contract. Assumes nothing.
use Prim.Native.Nat.{ℕ}
use mathlib.Core.Path.{ap, ◌∙◌}
use mathlib.Core.List.{List}
use native.Mathlib.Omega.{arith}
use lib.Seq.{sets}
use Rattle.format.specs.Bytes.{bytes}
use lib.ListN.{length}
use Rattle.format.specs.Codes.{type_code}
use Rattle.format.specs.Descriptors.{type_at, type_name}
use Rattle.format.specs.Writer.{decimal}
use Rattle.write_file.specs.Stored.{value_line}
use Rattle.write_file.proofs.Header.{three_stored, three_length}
use Rattle.write_file.proofs.head.put_top.Goals as goal

pub returns : goal.returns
returns c =
    let a = c.args.array.now in
    let d = c.args.out.now in
    let p = c.put_number-a in
    let e = c.type_name.ensures in
    let q = rw e.is at c.put_line-b.ensures in
    let r = c.put_number in
    let u = value_line (bytes "NRRD000") (decimal a.version) in
    let v = value_line (bytes "type: ") (bytes (type_name (type_at (type_code a.coding.sample_type)))) in
    let x = value_line (bytes "dimension: ") (decimal (length a.sizes.now)) in (record {
      place = omega (arith, p.ensures.place, q.place, r.ensures.place, three_length d u v x 0 p.result c.put_line-b.result p.ensures.place q.place);
      stored = r.ensures.stored ∙ ap (λ (s : List ℕ). sets s c.put_line-b.result x) (q.stored ∙ ap (λ (s : List ℕ). sets s p.result v) p.ensures.stored)
          ∙ three_stored d u v x 0 p.result c.put_line-b.result p.ensures.place q.place;
      long = omega (arith, p.ensures.long, c.put_line-b.ensures.long, e.short, r.ensures.long);
    })
