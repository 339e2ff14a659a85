-- `write_data::put_text` meets its contract: `Putting` of Runs.antt. Assumes nothing.
use Rattle.std.proofs.Common.{◌+◌, arith, pos, get_or, drop}
use mathlib.Core.List.{flat_map}
use Rattle.format.specs.Writer.{text_data}
use Rattle.write_parts.specs.Stored.{text_line}
use Rattle.write_parts.proofs.Runs.{putting_none, putting_room, putting_more, putting_done, putting_end}
use Rattle.write_data.proofs.Parts.{flat_next, flat_over}
use Rattle.write_data.proofs.Samples.{flat_text}
use Rattle.write_data.proofs.put_text.Goals as goal

pub loop-i-init : goal.loop-i-init
loop-i-init g c =
    let a = c.args in
    let zs = g.S.Source.samples a.samples.now in
    putting_none (text_data zs) a.out.now a.at (flat_map text_line zs) (flat_text zs)

pub put_text_line-o-requires : goal.put_text_line-o-requires
put_text_line-o-requires g c =
    let zs = g.S.Source.samples c.args.samples.now in
    let l = c.loop-i in
    rw c.bits_at.ensures (omega (arith, l.invariant.long, c.requires, putting_room l.invariant (text_line (get_or zs l.i (pos 0))) (flat_map text_line (drop (l.i + 1) zs)) (flat_next text_line zs l.i (pos 0) (omega (arith, c.count-i-end.ensures, c.loop-i-test.true)))))

pub loop-i-preserved : goal.loop-i-preserved
loop-i-preserved g c =
    let zs = g.S.Source.samples c.args.samples.now in
    let l = c.loop-i in
    let p = c.put_text_line-o in
    let e = c.bits_at.ensures in
    putting_more l.invariant (text_line (get_or zs l.i (pos 0))) (flat_map text_line (drop (l.i + 1) zs)) (flat_next text_line zs l.i (pos 0) (omega (arith, c.count-i-end.ensures, c.loop-i-test.true))) _ _ (rw e at p.ensures.stored) (rw e at p.ensures.place)

pub shape_of-out : goal.shape_of-out
shape_of-out g c = c.loop-i.invariant.long

pub returns : goal.returns
returns g c =
    let zs = g.S.Source.samples c.args.samples.now in
    let l = c.loop-i in
    let e = flat_over text_line zs l.i (omega (arith, c.count-i-end.ensures, c.loop-i-test.false)) in
    record { place = putting_end l.invariant e; stored = putting_done l.invariant e }
