-- What is left after i components, stored from i on, is the vector.
use Rattle.std.proofs.Common.{◌≡◌, ◌≤◌, ◌-◌, ◌+◌, length}
use Rattle.format.specs.Vectors.{comma_parts, said_by, component_in}
use Rattle.read_vectors.specs.Answers.{vector_column}
use Rattle.read_vectors.proofs.VectorLaws.{parts_at, stored}
use Rattle.read_vectors.proofs.vector.read_parts.Given as goal

abbrev pub invariant-loop-i : goal.invariant-loop-i
invariant-loop-i l =
    (l.at ≤ length l.s + 1) × (vector_column (said_by l.n component_in (comma_parts l.s)) ≡ stored l.parts l.i (said_by (l.n - l.i) component_in (parts_at l.s l.at)))
