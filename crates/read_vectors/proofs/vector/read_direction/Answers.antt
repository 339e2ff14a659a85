-- `vector::read_direction` meets its contract.
use mathlib.Core.Path.{◌∙◌}
use Rattle.format.specs.Vectors.{direction_said}
use Rattle.read_vectors.proofs.VectorLaws.{direction_flagged, direction_flagged_none}
use Rattle.read_vectors.proofs.vector.read_direction.Goals as goal

pub returns-in-Some : goal.returns-in-Some
returns-in-Some c = let a = c.args in direction_flagged (direction_said a.n a.w.now) c.in-Some.parts c.in-Some.ensures

pub returns-in-None : goal.returns-in-None
returns-in-None c = let a = c.args in c.no_vector.ensures ∙ direction_flagged_none (direction_said a.n a.w.now) c.in-None.ensures
