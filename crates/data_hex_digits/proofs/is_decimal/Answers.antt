-- `is_decimal` meets its contract.
use Rattle.data_hex_digits.proofs.Ranges.{decimal_told}
use Rattle.data_hex_digits.proofs.is_decimal.Goals as goal

pub returns : goal.returns
returns c = decimal_told c.args.b c.ranges.b.fits
