-- `write_data::put_hex` meets its contract: `Putting` of Runs.antt, a part of the samples at a time. Assumes nothing.
use Rattle.std.proofs.Common.{◌≡◌, ◌+◌, ◌≤◌, arith, rules, refl, ap, length, length-take, take, drop}
use Rattle.std.proofs.Math.Seq.{slice}
use mathlib.Core.List.{flat_map}
use Rattle.format.specs.Writer.{hex_text}
use Rattle.format.proofs.Writer.{hex_length}
use Rattle.write_parts.proofs.Runs.{putting_none, putting_room, putting_more, putting_done, putting_end}
use Rattle.lent_numbers.proofs.WidthLaws.{width_le}
use Rattle.write_data.specs.Data.{low_bytes}
use Rattle.write_data.proofs.Parts.{flat_over}
use Rattle.write_data.proofs.Samples.{hex_parts, hex_whole, part_end, part_room, part_stored}
use Rattle.write_data.proofs.put_hex.Goals as goal

pub loop-i-init : goal.loop-i-init
loop-i-init g c =
    let run = hex_text (flat_map (low_bytes c.args.w c.args.endian) (g.S.Source.samples c.args.samples.now)) in
    (putting_none run c.args.out.now c.args.at run refl, omega arith, refl)

pub put_raw-used-requires-clause-room : goal.put_raw-used-requires-clause-room
put_raw-used-requires-clause-room g c =
    let l = c.loop-i in
    rw c.part.ensures (omega (arith, l.invariant.2, part_room l.i c.min.result c.count-n.result (g.S.Source.samples c.args.samples.now) c.min.ensures c.count-n.ensures l.invariant.1 c.args.w (width_le _ c.requires.width)))

pub slice_bounds-part-end : goal.slice_bounds-part-end
slice_bounds-part-end g c =
    let l = c.loop-i in
    omega (arith, c.type_inv.part, rw c.part.ensures at c.put_raw-used.ensures.place, part_room l.i c.min.result c.count-n.result (g.S.Source.samples c.args.samples.now) c.min.ensures c.count-n.ensures l.invariant.1 c.args.w (width_le _ c.requires.width))

pub slice_bounds-put_hex_bytes-end : goal.slice_bounds-put_hex_bytes-end
slice_bounds-put_hex_bytes-end g c =
    let l = c.loop-i in
    omega (arith, length-take c.put_raw-used.result c.put_raw-used.new.out, c.put_raw-used.auto.out, l.invariant.2, rw c.part.ensures at c.put_raw-used.ensures.place, part_room l.i c.min.result c.count-n.result (g.S.Source.samples c.args.samples.now) c.min.ensures c.count-n.ensures l.invariant.1 c.args.w (width_le _ c.requires.width))

pub put_hex_bytes-o-requires : goal.put_hex_bytes-o-requires
put_hex_bytes-o-requires g c =
    let a = c.args in
    let zs = g.S.Source.samples c.args.samples.now in
    let l = c.loop-i in
    let to = l.i + c.min.result in
    let w = a.w in
    let endian = a.endian in
    let f = low_bytes w endian in
    let p = c.put_raw-used in
    let m : to ≤ length zs = part_end l.i c.min.result c.count-n.result zs c.min.ensures c.count-n.ensures l.invariant.1 in
    let room = part_room l.i c.min.result c.count-n.result zs c.min.ensures c.count-n.ensures l.invariant.1 w (width_le w c.requires.width) in
    let s : take p.result p.new.out ≡ flat_map f (slice l.i to zs) = part_stored w endian p.result (slice l.i to zs) p.new.out l.part (rw c.part.ensures at p.ensures.stored) (rw c.part.ensures at p.ensures.place) (omega (arith, room, l.invariant.2)) in
    let k = putting_room l.invariant.0 (hex_text (flat_map f (slice l.i to zs))) (hex_text (flat_map f (drop to zs))) (hex_parts f zs l.i to (omega arith) m) in
    rw s (omega (arith, l.invariant.0.long, c.requires.room, k, hex_length (flat_map f (slice l.i to zs)), hex_whole w endian zs))

pub loop-i-smaller : goal.loop-i-smaller
loop-i-smaller g c = omega (arith, c.min.ensures, c.loop-i-test.true)

pub loop-i-preserved : goal.loop-i-preserved
loop-i-preserved g c =
    let a = c.args in
    let zs = g.S.Source.samples c.args.samples.now in
    let l = c.loop-i in
    let to = l.i + c.min.result in
    let w = a.w in
    let endian = a.endian in
    let f = low_bytes w endian in
    let p = c.put_raw-used in
    let m : to ≤ length zs = part_end l.i c.min.result c.count-n.result zs c.min.ensures c.count-n.ensures l.invariant.1 in
    let room = part_room l.i c.min.result c.count-n.result zs c.min.ensures c.count-n.ensures l.invariant.1 w (width_le w c.requires.width) in
    let s : take p.result p.new.out ≡ flat_map f (slice l.i to zs) = part_stored w endian p.result (slice l.i to zs) p.new.out l.part (rw c.part.ensures at p.ensures.stored) (rw c.part.ensures at p.ensures.place) (omega (arith, room, l.invariant.2)) in
    let q = c.put_hex_bytes-o in (
      putting_more l.invariant.0 (hex_text (flat_map f (slice l.i to zs))) (hex_text (flat_map f (drop to zs))) (hex_parts f zs l.i to (omega arith) m) _ _
          (rw s at q.ensures.stored) (omega (arith, rw s at q.ensures.place, hex_length (flat_map f (slice l.i to zs)))),
      m,
      search rules,
    )

pub shape_of-out : goal.shape_of-out
shape_of-out g c = c.loop-i.invariant.0.long

pub returns : goal.returns
unfolding hex_text
returns g c =
    let a = c.args in
    let zs = g.S.Source.samples c.args.samples.now in
    let w = a.w in
    let endian = a.endian in
    let l = c.loop-i in
    let e = ap hex_text (flat_over (low_bytes w endian) zs l.i (omega (arith, c.count-n.ensures, c.loop-i-test.false))) in
    record { place = omega (arith, putting_end l.invariant.0 e, hex_whole w endian zs); stored = putting_done l.invariant.0 e }
