-- `list::put_narrow` meets its contract: the samples before the end of the block before are stored.
use borrow.Author.Rules.{rules}
use Rattle.std.proofs.Common.{arith}
use Rattle.data_raw.proofs.BlockLaws.{storing, place_more}
use Rattle.data_raw.proofs.NarrowLaws.{narrow_none, narrow_long, narrow_within, narrow_room, narrow_more, narrow_done}
use Rattle.data_raw.proofs.cells.put_narrow.Goals as goal

pub put-requires : goal.put-requires
put-requires g c = record { width = c.requires.width; bytes_there = c.requires.bytes_there; room = c.requires.room }

pub returns-then-n-lt64 : goal.returns-then-n-lt64
returns-then-n-lt64 g c = c.put.ensures

pub loop-k-init : goal.loop-k-init
loop-k-init g c =
    let a = c.args in
    narrow_none (storing g.C.Cell.stores) a.s.now a.n a.w a.signed a.big c.shift-up.result a.dst.now _ (omega arith) (omega arith)

pub overflow_mul-k : goal.overflow_mul-k
overflow_mul-k g c =
    let a = c.args in
    omega (arith, narrow_room (storing g.C.Cell.stores) a.s.now a.n a.w a.signed a.big c.shift-up.result a.dst.now _ c.loop-k.invariant c.requires.bytes_there)

pub lift-requires : goal.lift-requires
lift-requires g c =
    let a = c.args in
    record { width = c.requires.width; narrow_shift = (c.requires.narrow, c.shift-up.ensures.within); bytes_there = narrow_room (storing g.C.Cell.stores) a.s.now a.n a.w a.signed a.big c.shift-up.result a.dst.now _ c.loop-k.invariant c.requires.bytes_there }

pub put_lifted-requires : goal.put_lifted-requires
put_lifted-requires g c =
    let a = c.args in
    omega (arith, place_more (storing g.C.Cell.stores) _ a.n (narrow_within (storing g.C.Cell.stores) a.s.now a.n a.w a.signed a.big c.shift-up.result a.dst.now _ c.loop-k.invariant), narrow_long (storing g.C.Cell.stores) a.s.now a.n a.w a.signed a.big c.shift-up.result a.dst.now _ c.loop-k.invariant, c.requires.room)

pub shape_of-dst-then-k-last : goal.shape_of-dst-then-k-last
shape_of-dst-then-k-last g c =
    let a = c.args in
    omega (arith, narrow_long (storing g.C.Cell.stores) a.s.now a.n a.w a.signed a.big c.shift-up.result a.dst.now _ c.loop-k.invariant)

pub returns-then-k-last : goal.returns-then-k-last
returns-then-k-last g c =
    let a = c.args in
    narrow_done (storing g.C.Cell.stores) a.s.now a.n a.w a.signed a.big c.shift-up.result a.dst.now _ c.loop-k.invariant c.lift.ensures c.put_lifted.ensures c.requires.width c.requires.narrow c.shift-up.ensures (λ i. search rules) c.requires.bytes_there c.if-k-last.true

pub overflow_add-k : goal.overflow_add-k
overflow_add-k g c = omega (arith, c.loop-k.invariant.most)

pub loop-k-smaller : goal.loop-k-smaller
loop-k-smaller g c = omega (arith, c.loop-k.invariant.most, c.min-k.ensures, c.if-k-last.false)

pub loop-k-preserved : goal.loop-k-preserved
loop-k-preserved g c =
    let a = c.args in
    narrow_more (storing g.C.Cell.stores) a.s.now a.n a.w a.signed a.big c.shift-up.result a.dst.now _ c.loop-k.invariant c.lift.ensures c.put_lifted.ensures _ c.min-k.ensures
