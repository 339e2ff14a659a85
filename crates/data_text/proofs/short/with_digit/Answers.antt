-- `short::with_digit` meets its contract.
use native.Mathlib.Omega.{arith}
use mathlib.Core.Path.{refl}
use Rattle.data_text.proofs.TokenLaws.{digit_low}
use Rattle.data_text.proofs.short.with_digit.Goals as goal

pub overflow_sub-result : goal.overflow_sub-result
overflow_sub-result c = omega (arith, digit_low c.args.b (c.requires.1 c.if-more.true))

pub returns-then-more : goal.returns-then-more
returns-then-more c = rw c.if-more.true (omega (arith, digit_low c.args.b (c.requires.1 c.if-more.true)))

pub returns-else-more : goal.returns-else-more
returns-else-more c = rw c.if-more.false refl
