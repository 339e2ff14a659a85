-- `reader::with_digit` meets its contract: below the test nothing wraps, and from it on the sum is at least 2^63 + 1.
use native.Mathlib.Omega.{arith}
use Rattle.data_text.proofs.TokenLaws.{digit_low, digit_high}
use Rattle.data_text.proofs.reader.with_digit.Goals as goal

pub overflow_sub-result : goal.overflow_sub-result
overflow_sub-result c = omega (arith, digit_low c.args.b c.requires)

pub returns-then-m-lt922337203685477581 : goal.returns-then-m-lt922337203685477581
returns-then-m-lt922337203685477581 c = omega (arith, digit_high c.args.b c.requires)
