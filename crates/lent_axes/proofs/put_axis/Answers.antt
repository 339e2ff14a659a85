-- `put_axis` meets its contract: the size, then three pairs.
use Rattle.lent_axes.proofs.AxisLaws.{axis_stored}
use Rattle.lent_axes.proofs.put_axis.Goals as goal

pub returns : goal.returns
returns c =
    axis_stored c.args.d.now c.args.at c.args.a c.store.ensures c.put_pair.ensures c.put_pair-2.ensures c.put_pair-3.ensures
