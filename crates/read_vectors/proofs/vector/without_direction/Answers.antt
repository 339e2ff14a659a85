-- `vector::without_direction` meets its contract.
use Rattle.format.specs.Columns.{eight}
use Rattle.read_vectors.proofs.vector.without_direction.Goals as goal

pub returns : goal.returns
unfolding eight
returns c = rw c.blank_column-parts.ensures
