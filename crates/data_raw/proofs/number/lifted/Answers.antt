-- `lifted` meets its contract, by the width.
use Rattle.std.proofs.Common.{arith}
use Rattle.data_raw.proofs.NarrowLaws.{range_1, range_2}
use Rattle.data_raw.proofs.number.lifted.Goals as goal

pub overflow_cast-x : goal.overflow_cast-x
overflow_cast-x c = omega (arith, range_2 _ c.if-w-eq2.true)

pub overflow_cast-x-else-w-eq2 : goal.overflow_cast-x-else-w-eq2
overflow_cast-x-else-w-eq2 c = omega (arith, range_1 _ c.if-w-eq2.false)

pub overflow_cast-up : goal.overflow_cast-up
overflow_cast-up c = omega (arith, range_1 _ c.if-w-eq2.false)

pub returns-then-w-eq2 : goal.returns-then-w-eq2
returns-then-w-eq2 c = rw (range_2 _ c.if-w-eq2.true) c.wrapping_add_u16.ensures.value

pub returns-else-w-eq2 : goal.returns-else-w-eq2
returns-else-w-eq2 c = rw (range_1 _ c.if-w-eq2.false) c.wrapping_add_u8.ensures.value
