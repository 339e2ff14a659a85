-- `format::hex_digits` meets its contract, which is the statement about all 256 bytes.
use Rattle.format.proofs.HexDigits.{hex_digits}
use Rattle.format.proofs.hex_digits.Goals as goal

pub returns : goal.returns
returns c = hex_digits
