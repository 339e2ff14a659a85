-- `vector::blank_column` meets its contract.
use mathlib.Core.Path.{refl}
use Rattle.format.specs.Columns.{eight}
use Rattle.read_vectors.proofs.vector.blank_column.Goals as goal

pub returns : goal.returns
unfolding eight
returns c = refl
