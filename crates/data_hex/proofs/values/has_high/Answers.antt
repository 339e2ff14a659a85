-- `has_high` meets its contract. The invariant: the flag tells it of the samples before i.
use Rattle.std.proofs.Common.{arith}
use Rattle.data_hex.proofs.HighLaws.{high_none, high_more, high_done}
use Rattle.data_hex.proofs.values.has_high.Goals as goal

pub loop-i-init : goal.loop-i-init
loop-i-init c = high_none c.args.top c.args.bytes.now

pub loop-i-preserved : goal.loop-i-preserved
loop-i-preserved c = high_more c.args.top c.args.bytes.now c.loop-i.i c.loop-i.invariant

pub returns : goal.returns
returns c = high_done c.args.top c.args.bytes.now c.loop-i.i c.args.m (omega arith) c.loop-i-test.false c.loop-i.invariant
