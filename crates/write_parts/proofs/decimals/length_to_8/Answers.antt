-- `write_parts::decimals::length_to_8` meets its contract: `decimal_long` of Digits.antt. Assumes nothing.
use native.Mathlib.Omega.{arith}
use Rattle.write_parts.proofs.Digits.{decimal_long}
use Rattle.write_parts.proofs.decimals.length_to_8.Goals as goal

pub returns-else-n-lt10000-clause-digits : goal.returns-else-n-lt10000-clause-digits
returns-else-n-lt10000-clause-digits c = omega (arith, c.length_to_4-else-n-lt10000.ensures, decimal_long 4 c.args.n c.if-n-lt10000.false)
