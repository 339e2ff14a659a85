-- `write_vectors::vectors::put_vector` meets its contract. Assumes nothing.
use mathlib.Core.Path.{◌≡◌, sym, ap}
use mathlib.Core.List.{List, [], ◌∷◌, ◌++◌, map}
use native.Mathlib.Omega.{arith}
use lib.ListN.{take, length-set, length-take}
use Rattle.format.specs.declared.Decimal.{Decimal}
use Rattle.format.specs.Bytes.{OPEN, CLOSE, COMMA}
use Rattle.format.specs.HeaderWriter.{component_text, joined, vector_text}
use Rattle.write_vectors.proofs.Pieces.{put_is, enclosed_put}
use Rattle.write_vectors.proofs.vectors.put_vector.Goals as goal

vector_is : (u v : List Decimal) → u ≡ v → OPEN ∷ joined COMMA (map component_text v) ++ CLOSE ∷ [] ≡ vector_text u
unfolding vector_text
vector_is u v e = ap vector_text (sym e)

pub put_components-end-requires : goal.put_components-end-requires
put_components-end-requires c = (omega (arith, c.requires, length-take c.count_components-n.result c.args.v.now), simp length-set (omega (arith, c.requires)))

pub bounds-out-end : goal.bounds-out-end
bounds-out-end c =
    let p = c.put_components-end in
    omega (arith, c.requires, p.ensures.long, simp length-set at p.auto.out)

pub shape_of-out : goal.shape_of-out
shape_of-out c = simp length-set (simp length-set at c.put_components-end.auto.out)

pub returns : goal.returns
returns c =
    let a = c.args in
    let k = c.count_components-n in
    let p = c.put_components-end in
    let e = enclosed_put a.out.now a.at (joined COMMA (map component_text (take k.result a.v.now))) p.ensures.place p.ensures.stored in
    let put = put_is a.out.now a.at (vector_is _ _ k.ensures.counted) e.0 e.1 in
    record { place = put.0; stored = put.1; long = omega (arith, p.ensures.long) }
