-- `value` meets its contract: the byte is of the first range, of one of the others, or of none.
use mathlib.Core.Path.{sym, ◌∙◌}
use native.Mathlib.Omega.{arith}
use Rattle.data_hex_digits.proofs.Ranges.{decimal_least, of_decimal, of_letter, of_other}
use Rattle.data_hex_digits.proofs.value.Goals as goal

pub overflow_sub-result : goal.overflow_sub-result
overflow_sub-result c = omega (arith, decimal_least c.args.b c.ranges.b.fits (sym c.is_decimal.ensures ∙ c.if-is_decimal.true))

pub returns-then-is_decimal : goal.returns-then-is_decimal
returns-then-is_decimal c =
    let h = of_decimal c.args.b c.ranges.b.fits (sym c.is_decimal.ensures ∙ c.if-is_decimal.true) in
    record { ranges = h.0; named = h.1 }

pub returns-then-is_letter : goal.returns-then-is_letter
returns-then-is_letter c =
    let h = of_letter c.args.b c.ranges.b.fits (sym c.is_letter.ensures ∙ c.if-is_letter.true) in
    record { ranges = h.0; named = h.1 }

pub returns : goal.returns
returns c =
    let h = of_other c.args.b c.ranges.b.fits (sym c.is_decimal.ensures ∙ c.if-is_decimal.false) (sym c.is_letter.ensures ∙ c.if-is_letter.false) in
    record { ranges = h.0; named = h.1 }
