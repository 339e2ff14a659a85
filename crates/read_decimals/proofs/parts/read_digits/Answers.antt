-- `parts::read_digits` meets its contract.
use Rattle.std.proofs.Common.{rules, arith, sym, ◌∙◌, ◌≡◌, length}
use Rattle.read_decimals.proofs.DigitLaws.{digits_next, digits_stop, digits_end}
use Rattle.read_decimals.proofs.parts.read_digits.Goals as goal

pub returns-then-not-is_ascii_digit : goal.returns-then-not-is_ascii_digit
returns-then-not-is_ascii_digit c =
    let l = c.loop-i in
    digits_stop c.args.before c.args.s.now l.m l.i l.invariant c.loop-i-test.true (sym c.is_ascii_digit.ensures.value ∙ c.if-not-is_ascii_digit.true)

pub loop-i-preserved : goal.loop-i-preserved
loop-i-preserved c =
    let l = c.loop-i in
    let d = sym c.is_ascii_digit.ensures.value ∙ c.if-not-is_ascii_digit.false in
    digits_next c.args.before c.args.s.now l.m l.i l.invariant c.with_digit-m.result c.loop-i-test.true d c.with_digit-m.ensures

pub returns : goal.returns
returns c =
    let l = c.loop-i in
    let k : length c.args.s.now ≡ l.i = omega arith in
    rw k (digits_end c.args.before c.args.s.now l.m l.i l.invariant c.loop-i-test.false)
