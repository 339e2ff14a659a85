-- `names::read_width` meets its contract.
use native.Mathlib.Omega.{arith}
use Rattle.read_files.proofs.PatternLaws.{some_byte, width_small}
use Rattle.read_files.proofs.FileLaws.{width_needed, width_left_out, width_wrong, width_right}
use Rattle.read_files.proofs.names.read_width.Goals as goal

pub returns-then-zeros : goal.returns-then-zeros
returns-then-zeros c = width_needed c.args.zeros c.args.s.now c.read_digits-digits.ensures c.if-length-eq0.true c.if-zeros.true

pub returns-else-zeros : goal.returns-else-zeros
returns-else-zeros c = width_left_out c.args.zeros c.args.s.now c.read_digits-digits.ensures c.if-length-eq0.true c.if-zeros.false

pub bounds-s-0 : goal.bounds-s-0
bounds-s-0 c = some_byte c.args.zeros c.args.s.now c.read_digits-digits.ensures c.if-length-eq0.false

-- the width is at most the largest
pub overflow_cast-result : goal.overflow_cast-result
overflow_cast-result c =
    omega (arith, width_small c.args.zeros c.args.s.now c.read_digits-digits.ensures c.if-length-eq0.false c.if-s-n.true)

pub returns-then-s-n : goal.returns-then-s-n
returns-then-s-n c = width_right c.args.zeros c.args.s.now c.read_digits-digits.ensures c.if-length-eq0.false c.if-s-n.true

pub returns : goal.returns
returns c = width_wrong c.args.zeros c.args.s.now c.read_digits-digits.ensures c.if-length-eq0.false c.if-s-n.false
