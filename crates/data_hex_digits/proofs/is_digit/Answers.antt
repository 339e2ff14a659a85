-- `is_digit` meets its contract.
use Rattle.data_hex_digits.proofs.Ranges.{told}
use Rattle.data_hex_digits.proofs.is_digit.Goals as goal

pub returns : goal.returns
returns c =
    let h = told c.args.b c.ranges.b.fits _ _ c.is_decimal.ensures c.is_letter.ensures in
    record { ranges = h.0; named = h.1 }
