-- `write_data::put_low` meets its contract: `Putting` of Runs.antt. Assumes nothing.
use Rattle.std.proofs.Common.{◌+◌, ◌<◌, length, arith, pos, get_or, drop, refl, ap, ◌∙◌}
use mathlib.Core.List.{flat_map}
use Rattle.std.proofs.lemmas.List.Edits.{sets}
use Rattle.write_parts.proofs.Runs.{putting_none, putting_room, putting_more, putting_done, putting_end}
use Rattle.write_data.specs.Data.{low_bytes}
use Rattle.write_data.proofs.Parts.{flat_next, flat_over}
use Rattle.write_data.proofs.Samples.{low_size, low_length, bits_low}
use Rattle.write_data.proofs.put_low.Goals as goal

pub loop-i-init : goal.loop-i-init
loop-i-init g c =
    let a = c.args in
    let run = flat_map (low_bytes g.row.W a.endian) (g.S.Source.samples a.samples.now) in
    putting_none run a.out.now a.at run refl

pub put_word-o-requires : goal.put_word-o-requires
put_word-o-requires g c =
    let a = c.args in
    let zs = g.S.Source.samples a.samples.now in
    let endian = a.endian in
    let f = low_bytes g.row.W endian in
    let l = c.loop-i in
    let z = get_or zs l.i (pos 0) in
    let h : l.i < length zs = omega (arith, c.count-i-end.ensures, c.loop-i-test.true) in
    omega (arith, l.invariant.long, c.requires, putting_room l.invariant (f z) (flat_map f (drop (l.i + 1) zs)) (flat_next f zs l.i (pos 0) h), low_size g.row.W endian z, low_length g.row.W endian zs)

pub loop-i-preserved : goal.loop-i-preserved
loop-i-preserved g c =
    let a = c.args in
    let zs = g.S.Source.samples a.samples.now in
    let endian = a.endian in
    let f = low_bytes g.row.W endian in
    let l = c.loop-i in
    let z = get_or zs l.i (pos 0) in
    let p = c.put_word-o in
    let x = c.bits_at in
    putting_more l.invariant (f z) (flat_map f (drop (l.i + 1) zs)) (flat_next f zs l.i (pos 0) (omega (arith, c.count-i-end.ensures, c.loop-i-test.true))) _ _
    (p.ensures.stored ∙ ap (sets l.out l.o) (bits_low x.result x.type_inv g.row.W endian z x.ensures)) (omega (arith, p.ensures.place, low_size g.row.W endian z))

pub shape_of-out : goal.shape_of-out
shape_of-out g c = c.loop-i.invariant.long

pub returns : goal.returns
returns g c =
    let a = c.args in
    let zs = g.S.Source.samples a.samples.now in
    let endian = a.endian in
    let l = c.loop-i in
    let e = flat_over (low_bytes g.row.W endian) zs l.i (omega (arith, c.count-i-end.ensures, c.loop-i-test.false)) in
    record { place = omega (arith, putting_end l.invariant e, low_length g.row.W endian zs); stored = putting_done l.invariant e }
