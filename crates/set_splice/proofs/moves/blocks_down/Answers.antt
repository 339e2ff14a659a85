-- The first j bytes are moved.
use Rattle.std.proofs.Common.{◌∙◌, arith}
use Rattle.set_splice.proofs.Sets.{down_turn}
use Rattle.set_splice.proofs.moves.blocks_down.Goals as goal

pub loop-j-preserved : goal.loop-j-preserved
loop-j-preserved g c =
    let a = c.args in
    let l = c.loop-j in
    (omega (arith, c.loop-j-test.true, l.invariant.0), c.block.ensures ∙ down_turn a.d.now l.d a.to a.from l.j g.row.N c.requires.down (omega (arith, c.requires.within, l.invariant.0)) l.invariant.1)
