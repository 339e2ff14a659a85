-- `put_pair` meets its contract: a number, and the number after it.
use Rattle.lent_axes.proofs.AxisLaws.{pair_stored}
use Rattle.lent_axes.proofs.put_pair.Goals as goal

pub returns : goal.returns
returns c =
    pair_stored c.args.d.now c.args.at c.args.x c.args.y c.store.ensures c.store-2.ensures
