-- `short::front` meets its contract: what is counted are digits, but for a sign in front.
use native.Mathlib.Omega.{arith}
use mathlib.Core.Bool.{◌&&◌}
use Rattle.data_text.proofs.ShortLaws.{bit_le, counting_one, counting_more, counted}
use Rattle.data_text.proofs.short.front.Goals as goal

pub loop-j-init : goal.loop-j-init
loop-j-init c = counting_one _ _ _ _ c.is_sign.ensures c.is_digit.ensures

pub overflow_add-n : goal.overflow_add-n
overflow_add-n c = omega (arith, bit_le (c.loop-j.more && c.is_digit-more.result))

pub loop-j-preserved : goal.loop-j-preserved
loop-j-preserved c =
    counting_more _ _ c.loop-j-test.true _ _ c.loop-j.invariant c.is_digit-more.ensures

pub returns : goal.returns
returns c = counted c.loop-j.invariant
