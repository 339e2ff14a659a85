-- `is_letter` meets its contract.
use Rattle.data_hex_digits.proofs.Ranges.{letter_told}
use Rattle.data_hex_digits.proofs.is_letter.Goals as goal

pub returns : goal.returns
returns c = letter_told c.args.b c.ranges.b.fits
