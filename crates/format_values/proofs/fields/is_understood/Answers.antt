-- `fields::is_understood` meets its contract: the set is that of the table, by computation.
use mathlib.Core.Path.{refl}
use Rattle.format.specs.Fields.{is_meant}
use Rattle.format_values.specs.Packed.{packed}
use Rattle.format_values.proofs.fields.is_understood.Goals as goal

pub returns : goal.returns
unfolding packed
returns c = c.is_in.ensures is_meant refl refl
