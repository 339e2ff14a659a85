-- `write_vectors::vectors::put_components` meets its contract: `Joining` of Joining.antt. Assumes nothing.
use Rattle.std.proofs.Common.{[], map, arith, ap, length}
use lib.Seq.{take-length}
use Rattle.format.specs.Bytes.{COMMA}
use Rattle.format.specs.HeaderWriter.{component_text, joined}
use Rattle.write_vectors.proofs.Joining.{joining_none, joining_more, joining_done}
use Rattle.write_vectors.proofs.Pieces.{put_is}
use Rattle.write_vectors.proofs.vectors.put_components.Goals as goal

pub loop-i-init : goal.loop-i-init
loop-i-init c =
    let a = c.args in
    (joining_none component_text COMMA a.v.now (length a.v.now) a.out.now a.at (omega arith), omega arith)

pub loop-i-preserved : goal.loop-i-preserved
loop-i-preserved c =
    let l = c.loop-i in
    let g = c.put_gap-from.ensures in
    let p = c.put_component-o.ensures in
    (joining_more l.invariant.0 _ c.loop-i-test.true _ _ _ _ g.stored g.place p.stored p.place, omega (arith, l.invariant.1, g.long, p.long))

pub shape_of-out : goal.shape_of-out
shape_of-out c = c.loop-i.invariant.0.putting.long

pub returns : goal.returns
returns c =
    let a = c.args in
    let l = c.loop-i in
    let all = joining_done l.invariant.0 c.loop-i-test.false in
    let put = put_is a.out.now a.at (ap (λ l. joined COMMA (map component_text l)) (take-length a.v.now)) all.0 all.1 in
    record { place = put.0; stored = put.1; long = omega (arith, l.invariant.1, l.invariant.0.few, c.requires) }
