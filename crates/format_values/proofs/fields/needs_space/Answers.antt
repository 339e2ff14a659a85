-- `fields::needs_space` meets its contract: the set is that of the table, by computation.
use mathlib.Core.Path.{refl}
use Rattle.format.specs.Fields.{space_before}
use Rattle.format_values.specs.Packed.{packed}
use Rattle.format_values.proofs.fields.needs_space.Goals as goal

pub returns : goal.returns
unfolding packed
returns c = c.is_in.ensures space_before refl refl
