-- `write_file::head::put_header` meets its contract. Assumes nothing.
use Prim.Native.Nat.{ℕ}
use mathlib.Core.Path.{ap, ◌∙◌}
use mathlib.Core.List.{List}
use native.Mathlib.Omega.{arith}
use lib.ListN.{length, length-append}
use lib.Seq.{sets}
use Rattle.write_file.specs.Arrays.{top_of, rest_of}
use Rattle.format.specs.Codes.{type_code, encoding_code, endian_code}
use Rattle.format.proofs.Stores.{sets_then}
use Rattle.write_file.proofs.Header.{header_is}
use Rattle.write_file.proofs.head.put_header.Goals as goal

pub put_top-at-requires : goal.put_top-at-requires
put_top-at-requires c = omega (arith, c.requires)

pub put_rest-requires : goal.put_rest-requires
put_rest-requires c =
    let a = c.args.array.now in
    omega (arith, c.requires, a.axes_to, c.put_top-at.ensures.long, c.put_top-at.auto.out)

pub returns : goal.returns
returns c =
    let a = c.args.array.now in
    let d = c.args.out.now in
    let p = c.put_top-at in
    let q = c.put_rest in
    let u = top_of a in
    let v = rest_of a in
    let t = type_code a.coding.sample_type in
    let e = header_is a.version a.sizes.now t (encoding_code a.coding.encoding) (endian_code a.coding.endian) a.axes_from in (record {
      place = omega (arith, p.ensures.place, q.ensures.place, length-append u v, ap length e);
      stored = q.ensures.stored ∙ ap (λ (r : List ℕ). sets r p.result v) p.ensures.stored ∙ sets_then d u v 0 p.result (omega (arith, p.ensures.place)) ∙ ap (sets d 0) e;
      long = omega (arith, p.ensures.long, q.ensures.long, a.axes_to);
    })
