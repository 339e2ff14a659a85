-- `write_parts::decimals::decimal_length` meets its contract: `decimal_long` of Digits.antt. Assumes nothing.
use native.Mathlib.Omega.{arith}
use Rattle.write_parts.proofs.Digits.{decimal_long}
use Rattle.write_parts.proofs.decimals.decimal_length.Goals as goal

pub returns-else-n-lt100000000-clause-digits : goal.returns-else-n-lt100000000-clause-digits
returns-else-n-lt100000000-clause-digits c = omega (arith, c.length_to_12.ensures, decimal_long 8 c.args.n c.if-n-lt100000000.false)
