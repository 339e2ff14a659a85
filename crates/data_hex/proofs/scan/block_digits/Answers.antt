-- `block_digits` meets its contract. The invariant: what is counted are the digits of the bytes passed, where there was nothing else than digits and blanks.
use native.Mathlib.Omega.{arith}
use mathlib.Core.Path.{◌≡◌, refl}
use Rattle.data_hex.proofs.DigitLaws.{counting_none, counting_more}
use Rattle.data_hex.proofs.scan.block_digits.Goals as goal

pub loop-j-init : goal.loop-j-init
loop-j-init c = counting_none c.args.s.now c.args.at

pub loop-j-preserved : goal.loop-j-preserved
loop-j-preserved c =
    let a = c.args in
    counting_more a.s.now a.at c.loop-j.invariant (omega arith) _ _ c.is_digit-d.ensures.ranges c.is_blank.ensures _ c.one_if-digits.ensures

pub returns-then-fine : goal.returns-then-fine
returns-then-fine c =
    let i = c.loop-j in
    let j : i.j ≡ 64 = omega arith in
    λ n. (omega (arith, i.invariant.few), rw j at (i.invariant.good c.if-fine.true))

pub returns-else-fine : goal.returns-else-fine
returns-else-fine c = λ n. absurd (n refl)
