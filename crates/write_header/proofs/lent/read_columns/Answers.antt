-- `lent::read_columns` meets its contract. Assumes nothing.
use Rattle.std.proofs.Common.{arith}
use Rattle.write_header.proofs.Filling.{filling_none, filling_more, filling_done}
use Rattle.write_header.proofs.lent.read_columns.Goals as goal

pub loop-i-init : goal.loop-i-init
loop-i-init g c = filling_none g.row.N c.args.at c.args.s.now c.args.columns.now c.told-columns

pub loop-i-preserved : goal.loop-i-preserved
loop-i-preserved g c = filling_more c.loop-i.invariant c.loop-i-test.true c.column_at.ensures

pub returns : goal.returns
returns g c = filling_done c.loop-i.invariant c.loop-i-test.false
