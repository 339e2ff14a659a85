-- `read_decimals::power_of` meets its contract.
use borrow.Author.Tests.{lt-ltb, le-ltb}
use Rattle.read_decimals.proofs.power_of.Goals as goal

pub returns-then-minus : goal.returns-then-minus
returns-then-minus c = rw c.if-minus.true

pub returns-then-size-folded : goal.returns-then-size-folded
returns-then-size-folded c = rw (c.if-minus.false, lt-ltb _ _ c.if-size-folded.true)

pub returns-else-size-folded : goal.returns-else-size-folded
returns-else-size-folded c = rw (c.if-minus.false, le-ltb _ _ c.if-size-folded.false)
