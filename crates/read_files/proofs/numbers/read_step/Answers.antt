-- `numbers::read_step` meets its contract.
use Rattle.read_files.proofs.FileLaws.{step_wrong, step_right}
use Rattle.read_files.proofs.numbers.read_step.Goals as goal

pub returns-then-size-eq0 : goal.returns-then-size-eq0
returns-then-size-eq0 c = step_wrong c.args.w.now c.begins-minus.ensures c.read_size-size.ensures c.if-size-eq0.true

pub returns : goal.returns
returns c = step_right c.args.w.now c.begins-minus.ensures c.read_size-size.ensures c.if-size-eq0.false
