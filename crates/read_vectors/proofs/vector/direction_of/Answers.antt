-- `vector::direction_of` meets its contract.
use mathlib.Core.Path.{sym, ◌∙◌}
use Rattle.format.specs.Vectors.{vector_said}
use Rattle.read_vectors.proofs.VectorLaws.{direction_without, direction_along, along_column}
use Rattle.read_vectors.proofs.vector.direction_of.Goals as goal

pub returns-then-is_alike : goal.returns-then-is_alike
returns-then-is_alike c =
    let a = c.args in
    let e = sym c.is_alike.ensures ∙ c.if-is_alike.true in
    rw (direction_without a.n a.w.now e) (rw c.without_direction.ensures)

pub returns : goal.returns
returns c =
    let a = c.args in
    let e = sym c.is_alike.ensures ∙ c.if-is_alike.false in
    rw (direction_along a.n a.w.now e) (c.vector_of.ensures ∙ along_column (vector_said a.n a.w.now))
