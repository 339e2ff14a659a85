-- `put_lifted` meets its contract: the samples before j are stored.
use mir.Syntax.{w64}
use Rattle.std.proofs.Common.{◌≡◌, ◌+◌, refl, ◌∙◌, ap, arith, to_z-of_z}
use borrow.Author.Rules.{sfits_of}
use Rattle.data_raw.specs.Bits.{lows}
use Rattle.data_raw.proofs.BlockLaws.{storing, run_none, place_more}
use Rattle.data_raw.proofs.NarrowLaws.{lowering_more, lowering_done}
use Rattle.data_raw.proofs.cells.put_lifted.Goals as goal

pub loop-j-init : goal.loop-j-init
loop-j-init g c = let a = c.args in let cell = g.C.Cell in run_none (storing cell.stores) (lows a.signed a.up a.a) a.dst.now (cell.place a.k) (cell.place (a.k + 0)) (ap cell.place (omega arith))

pub overflow_add-k : goal.overflow_add-k
overflow_add-k g c = omega (arith, c.requires, c.loop-j-test.true, g.C.Cell.stores.least (c.args.k + 64))

pub put-requires : goal.put-requires
put-requires g c =
    let cell = g.C.Cell in
    omega (arith, c.requires, c.loop-j.invariant.long, place_more (storing cell.stores) (c.args.k + c.loop-j.j + 1) (c.args.k + 64) (omega (arith, c.loop-j-test.true)))

pub loop-j-preserved : goal.loop-j-preserved
loop-j-preserved g c =
    let a = c.args in
    let cell = g.C.Cell in
    let j = c.loop-j.j in
    let on : a.k + (j + 1) ≡ a.k + j + 1 = omega arith in
    lowering_more (storing cell.stores) a.signed a.up 64 a.a c.well_formed.0.1.0.1 a.dst.now (cell.place a.k) c.loop-j.invariant c.loop-j-test.true _ (to_z-of_z {w = w64} (sfits_of c.lowered.type_inv) ∙ c.lowered.ensures) _ c.put.new.cells refl c.put.ensures (cell.place (a.k + (j + 1))) (ap cell.place on ∙ cell.stores.more (a.k + j) 1)

pub shape_of-dst : goal.shape_of-dst
shape_of-dst g c = c.loop-j.invariant.long

pub returns : goal.returns
returns g c =
    let a = c.args in
    lowering_done (storing g.C.Cell.stores) a.signed a.up 64 a.a c.well_formed.0.1.0.1 a.dst.now (g.C.Cell.place a.k) c.loop-j.invariant c.loop-j-test.false
