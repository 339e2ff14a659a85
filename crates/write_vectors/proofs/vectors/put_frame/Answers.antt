-- `write_vectors::vectors::put_frame` meets its contract: `Joining` of Joining.antt. Assumes nothing.
use Rattle.std.proofs.Common.{[], map, arith, ap, length}
use lib.Seq.{take-length}
use Rattle.format.specs.Bytes.{SPACE}
use Rattle.format.specs.HeaderWriter.{vector_text, frame_text, vector_of}
use Rattle.write_vectors.proofs.Joining.{joining_none, joining_more, joining_done_of}
use Rattle.write_vectors.proofs.Pieces.{put_is}
use Rattle.write_vectors.proofs.vectors.put_frame.Goals as goal

pub loop-i-init : goal.loop-i-init
loop-i-init c =
    let a = c.args in
    (joining_none (λ x. vector_text (vector_of a.n x)) SPACE a.columns.now (length a.columns.now) a.out.now a.at (omega arith), omega arith)

pub loop-i-preserved : goal.loop-i-preserved
loop-i-preserved c =
    let l = c.loop-i in
    let g = c.put_gap-from.ensures in
    let p = c.put_vector-o.ensures in
    (joining_more l.invariant.0 [] c.loop-i-test.true _ _ _ _ g.stored g.place p.stored p.place, omega (arith, l.invariant.1, g.long, p.long))

pub shape_of-out : goal.shape_of-out
shape_of-out c = c.loop-i.invariant.0.putting.long

pub returns : goal.returns
returns c =
    let a = c.args in
    let l = c.loop-i in
    let all = joining_done_of vector_text (vector_of a.n) l.invariant.0 c.loop-i-test.false in
    let put = put_is a.out.now a.at (ap (λ l. frame_text (map (vector_of a.n) l)) (take-length a.columns.now)) all.0 all.1 in
    record { place = put.0; stored = put.1; long = omega (arith, l.invariant.1, l.invariant.0.few, c.requires) }
