-- `write_parts::names::type_name` meets its contract, type by type. Assumes nothing.
use Rattle.std.proofs.Common.{refl}
use Rattle.format.specs.Descriptors.{type_at}
use Rattle.write_parts.proofs.names.type_name.Goals as goal

pub returns-in-Int8-clause-is : goal.returns-in-Int8-clause-is
unfolding type_at
returns-in-Int8-clause-is c = rw c.in-Int8.is refl

pub returns-in-Uint8-clause-is : goal.returns-in-Uint8-clause-is
unfolding type_at
returns-in-Uint8-clause-is c = rw c.in-Uint8.is refl

pub returns-in-Int16-clause-is : goal.returns-in-Int16-clause-is
unfolding type_at
returns-in-Int16-clause-is c = rw c.in-Int16.is refl

pub returns-in-Uint16-clause-is : goal.returns-in-Uint16-clause-is
unfolding type_at
returns-in-Uint16-clause-is c = rw c.in-Uint16.is refl

pub returns-in-Int32-clause-is : goal.returns-in-Int32-clause-is
unfolding type_at
returns-in-Int32-clause-is c = rw c.in-Int32.is refl

pub returns-in-Uint32-clause-is : goal.returns-in-Uint32-clause-is
unfolding type_at
returns-in-Uint32-clause-is c = rw c.in-Uint32.is refl

pub returns-in-Int64-clause-is : goal.returns-in-Int64-clause-is
unfolding type_at
returns-in-Int64-clause-is c = rw c.in-Int64.is refl

pub returns-in-Uint64-clause-is : goal.returns-in-Uint64-clause-is
unfolding type_at
returns-in-Uint64-clause-is c = rw c.in-Uint64.is refl

pub returns-in-Float-clause-is : goal.returns-in-Float-clause-is
unfolding type_at
returns-in-Float-clause-is c = rw c.in-Float.is refl

pub returns-in-Double-clause-is : goal.returns-in-Double-clause-is
unfolding type_at
returns-in-Double-clause-is c = rw c.in-Double.is refl
