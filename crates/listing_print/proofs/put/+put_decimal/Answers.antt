-- `listing_print::put::put_decimal` meets its contract: the digits of n / 10, then the last digit. The measure is n.
use native.Mathlib.Omega.{arith}
use mathlib.Core.Path.{sym}
use Rattle.write_parts.proofs.Digits.{decimal_one, decimal_more, length_more, at_most_20}
use Rattle.listing_print.proofs.Printing.{printed_then, printed_is, printed_short}
use Rattle.listing_print.proofs.put.+put_decimal.Goals as goal

pub returns-then-n-lt10 : goal.returns-then-n-lt10
returns-then-n-lt10 t c =
    let n = c.args.n in
    printed_short (printed_is c.put_byte.ensures (sym (decimal_one n c.if-n-lt10.true))) 20 (at_most_20 n (omega arith))

pub put_byte-requires-2 : goal.put_byte-requires-2
put_byte-requires-2 t c =
    let n = c.args.n in
    omega (arith, c.put_decimal-o.ensures.place, length_more n c.if-n-lt10.false, at_most_20 n (omega arith), c.requires)

pub returns : goal.returns
returns t c =
    let n = c.args.n in
    let p = printed_then c.put_decimal-o.ensures c.put_byte-2.ensures in
    printed_short (printed_is p (sym (decimal_more n c.if-n-lt10.false))) 20 (at_most_20 n (omega arith))
