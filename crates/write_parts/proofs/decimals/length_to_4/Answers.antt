-- `write_parts::decimals::length_to_4` meets its contract, by the number of digits. Assumes nothing.
use mathlib.Core.Path.{sym}
use native.Mathlib.Omega.{arith}
use Rattle.write_parts.proofs.Digits.{length_one, length_whole}
use Rattle.write_parts.proofs.decimals.length_to_4.Goals as goal

pub returns-in-0-to-9-clause-digits : goal.returns-in-0-to-9-clause-digits
returns-in-0-to-9-clause-digits c = sym (length_one c.args.n (omega arith))

pub returns-in-10-to-99-clause-digits : goal.returns-in-10-to-99-clause-digits
returns-in-10-to-99-clause-digits c = sym (length_whole 1 c.args.n (omega arith) (omega arith))

pub returns-in-100-to-999-clause-digits : goal.returns-in-100-to-999-clause-digits
returns-in-100-to-999-clause-digits c = sym (length_whole 2 c.args.n (omega arith) (omega arith))

pub returns-in_default-clause-digits : goal.returns-in_default-clause-digits
returns-in_default-clause-digits c = sym (length_whole 3 c.args.n (omega arith) (omega (arith, c.requires)))
