-- `fields::needs_dimension` meets its contract: the set is that of the table, by computation.
use mathlib.Core.Path.{refl}
use Rattle.format.specs.Fields.{dimension_before}
use Rattle.format_values.specs.Packed.{packed}
use Rattle.format_values.proofs.fields.needs_dimension.Goals as goal

pub returns : goal.returns
unfolding packed
returns c = c.is_in.ensures dimension_before refl refl
