-- `write_parts::names::encoding_name` meets its contract. Assumes nothing.
use Rattle.std.proofs.Common.{refl}
use Rattle.write_parts.proofs.names.encoding_name.Goals as goal

pub returns-in-Raw-clause-is : goal.returns-in-Raw-clause-is
returns-in-Raw-clause-is c = rw c.in-Raw.is refl

pub returns-in-Text-clause-is : goal.returns-in-Text-clause-is
returns-in-Text-clause-is c = rw c.in-Text.is refl

pub returns-in-Hex-clause-is : goal.returns-in-Hex-clause-is
returns-in-Hex-clause-is c = rw c.in-Hex.is refl
