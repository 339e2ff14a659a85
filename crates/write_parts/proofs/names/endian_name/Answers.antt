-- `write_parts::names::endian_name` meets its contract. Assumes nothing.
use Rattle.std.proofs.Common.{refl}
use Rattle.write_parts.proofs.names.endian_name.Goals as goal

pub returns-in-Little-clause-is : goal.returns-in-Little-clause-is
returns-in-Little-clause-is c = rw c.in-Little.is refl

pub returns-in-Big-clause-is : goal.returns-in-Big-clause-is
returns-in-Big-clause-is c = rw c.in-Big.is refl
