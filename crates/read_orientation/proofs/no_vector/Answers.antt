-- `no_vector` meets its contract.
use Rattle.read_orientation.proofs.no_vector.Goals as goal

pub returns : goal.returns
returns c = rw c.blank_column.ensures
