-- `vector::read_vector` meets its contract.
use mathlib.Core.Path.{◌∙◌}
use Rattle.format.specs.Vectors.{vector_said}
use Rattle.read_vectors.proofs.VectorLaws.{vector_flagged, vector_flagged_none}
use Rattle.read_vectors.proofs.vector.read_vector.Goals as goal

pub returns-in-Some : goal.returns-in-Some
returns-in-Some c = let a = c.args in vector_flagged (vector_said a.n a.w.now) c.in-Some.parts c.in-Some.ensures

pub returns-in-None : goal.returns-in-None
returns-in-None c = let a = c.args in c.no_vector.ensures ∙ vector_flagged_none (vector_said a.n a.w.now) c.in-None.ensures
