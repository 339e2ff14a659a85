-- `fill_blocks` meets its contract. The invariant: the samples before `at` stand in front.
use Rattle.std.proofs.Common.{◌+◌, ◌-◌, ◌*◌, ◌≤◌, length, take, drop, refl, le_trans, mul-le-mul_right, arith, length-take, length-drop}
use Rattle.lent_numbers.specs.Widths.{kind_by, endian_by}
use Rattle.lent_numbers.proofs.WidthLaws.{width_pos}
use Rattle.data_hex.proofs.LoopLaws.{storing, place_more, taken_samples, filling_none, filling_more, filling_done, block_size}
use borrow.Author.Rules.{rules}
use Rattle.data_hex.proofs.blocks.fill_blocks.Goals as goal

pub nonzero_div-most : goal.nonzero_div-most
nonzero_div-most g c = width_pos _ c.requires.width

pub loop-k-init : goal.loop-k-init
loop-k-init g c = let a = c.args in (filling_none (storing g.C.Cell.stores) (kind_by a.signed) a.w (endian_by a.big) a.n a.s.now a.dst.now, (refl, refl))

pub place-from-requires : goal.place-from-requires
place-from-requires g c = omega (arith, place_more (storing g.C.Cell.stores) c.loop-k.k c.args.n (omega arith), c.requires.room, c.loop-k.invariant.0.long)

pub next_bytes-at-requires : goal.next_bytes-at-requires
next_bytes-at-requires g c =
    let m = c.min-m.ensures in
    let b = block_size _ c.requires.width in
    record { at_within = c.loop-k.invariant.0.within; j_up_to_128 = le_trans (mul-le-mul_right _ (omega (arith, m))) b.1; buffer_of_256 = search rules; block_of_128 = search rules }

pub loop-k-smaller : goal.loop-k-smaller
loop-k-smaller g c =
    let b = block_size _ c.requires.width in
    omega (arith, c.min-m.ensures)

pub loop-k-preserved : goal.loop-k-preserved
loop-k-preserved g c =
    let a = c.args in
    let i = c.loop-k in
    let f = storing g.C.Cell.stores in
    let m = c.min-m.result in
    let few = c.min-m.ensures in
    let n = c.next_bytes-at.ensures in
    let long : m * a.w ≤ 128 = le_trans (mul-le-mul_right _ (omega (arith, few))) (block_size _ c.requires.width).1 in
    let from = c.place-from.result in
    let room : g.C.Cell.place m ≤ length (take (length i.dst - from) (drop from i.dst)) = simp (length-take, length-drop) (omega (arith, i.invariant.0.long, c.place-from.ensures, g.C.Cell.stores.more i.k m, place_more f (i.k + m) a.n (omega (arith, few)), c.requires.room)) in
    let filled = c.fill.ensures.fills c.requires.width (omega (arith, long)) (g.C.Cell.stores.holds m _ room) in (
      filling_more f (kind_by a.signed) a.w (endian_by a.big) a.n a.s.now a.dst.now i.invariant.0 m (omega (arith, few)) c.next_bytes-at.result n.within _ c.place-from.ensures _
          (λ e. ((n.taken e).rest, rw (taken_samples (kind_by a.signed) a.w (endian_by a.big) a.s.now m i.at _ _ (omega (arith, long)) e (n.taken e)) at filled)) (search rules),
      (search rules, search rules),
    )

pub shape_of-dst : goal.shape_of-dst
shape_of-dst g c = c.loop-k.invariant.0.long

pub returns : goal.returns
returns g c =
    let a = c.args in
    filling_done (storing g.C.Cell.stores) (kind_by a.signed) a.w (endian_by a.big) a.n a.s.now a.dst.now c.loop-k.invariant.0 c.loop-k-test.false
