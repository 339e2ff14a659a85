-- `put` meets its contract. The invariant: the samples before k are stored.
use mir.Syntax.{w64}
use Rattle.std.proofs.Common.{◌∙◌, arith, to_z-of_z}
use borrow.Author.Rules.{sfits_of}
use Rattle.data_raw.proofs.BlockLaws.{storing}
use Rattle.data_raw.proofs.RawLaws.{within, filling_none, filling_place, filling_more, filling_done}
use Rattle.lent_numbers.specs.Widths.{kind_by, endian_by}
use Rattle.data_raw.proofs.cells.put.Goals as goal

pub loop-k-init : goal.loop-k-init
loop-k-init g c = let a = c.args in filling_none (kind_by a.signed) a.w (endian_by a.big) a.n a.s.now (storing g.C.Cell.stores) a.dst.now

pub overflow_mul-k : goal.overflow_mul-k
overflow_mul-k g c = let a = c.args in omega (arith, within (kind_by a.signed) a.w (endian_by a.big) a.n a.s.now c.loop-k-test.true c.requires.bytes_there)

pub sample_at-requires : goal.sample_at-requires
sample_at-requires g c = let a = c.args in record { width = c.requires.width; bytes_there = within (kind_by a.signed) a.w (endian_by a.big) a.n a.s.now c.loop-k-test.true c.requires.bytes_there }

pub put-requires : goal.put-requires
put-requires g c = let a = c.args in filling_place (kind_by a.signed) a.w (endian_by a.big) a.n a.s.now (storing g.C.Cell.stores) a.dst.now c.loop-k.invariant c.loop-k-test.true c.requires.room

pub loop-k-preserved : goal.loop-k-preserved
loop-k-preserved g c =
    let a = c.args in
    filling_more (kind_by a.signed) a.w (endian_by a.big) a.n a.s.now (storing g.C.Cell.stores) a.dst.now c.loop-k.invariant c.loop-k-test.true _ c.put.new.cells c.put.ensures (λ i. to_z-of_z {w = w64} (sfits_of c.sample_at.type_inv) ∙ c.sample_at.ensures i)

pub shape_of-dst : goal.shape_of-dst
shape_of-dst g c = c.loop-k.invariant.long

pub returns : goal.returns
returns g c = let a = c.args in filling_done (kind_by a.signed) a.w (endian_by a.big) a.n a.s.now (storing g.C.Cell.stores) a.dst.now c.loop-k.invariant c.loop-k-test.false c.requires.room
