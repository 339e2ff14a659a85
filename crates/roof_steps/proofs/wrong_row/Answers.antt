-- `wrong_row` meets its contract: a block whose steps are right is passed.
use Rattle.roof_steps.proofs.Stamps.{begun}
use Rattle.roof_steps.proofs.wrong_row.Goals as goal

pub loop-i-init : goal.loop-i-init
loop-i-init g c =
    let a = c.args in
    let some = c.requires.positive.0 in
    (some, begun (g.C.Lent.samples a.samples.now) a.rows a.m a.largest c.stamp_at-before.result some c.stamp_at-before.ensures)
