-- Internal to the library. What the functions on vectors answer.
use Rattle.std.specs.Prelude.{ℕ, Bool, true, false, List, [], ◌∷◌, map, if◌then◌else◌}
use Rattle.std.specs.Prelude.{Option as Maybe}
use Rattle.std.specs.Prelude.{Some, None}
use Rattle.std.proofs.Math.Option.{Option, none, some}
use Rattle.format.specs.declared.Decimal.{Decimal}
use Rattle.format.specs.Bytes.{is_some, or_default}
use Rattle.format.specs.Decimals.{marked, no_direction}
use Rattle.format.specs.Vectors.{Direction, without, along, along_said, vector_said, direction_said, vector_words}
use Rattle.read_vectors.specs.declared.vector.Vector.{Vector}
use Rattle.format.specs.Columns.{column, matrix}

-- a vector's components, all of them zero where there is no vector
abbrev pub vector_answer : Option (List Decimal) → Vector
vector_answer o = record { fine = is_some o; parts = column (or_default [] o) }

-- the same of an axis; one without a direction has a mark as its first component
abbrev pub direction_answer : Option Direction → Vector
direction_answer none = record { fine = false; parts = column [] }
direction_answer (some without) = record { fine = true; parts = column (marked no_direction ∷ []) }
direction_answer (some (along ds)) = record { fine = true; parts = column ds }

-- what a word says; the flag: `none` is taken
abbrev pub word_said : Bool → ℕ → List ℕ → Option Direction
word_said may n w = if may then direction_said n w else along_said (vector_said n w)

-- the vectors of a text as columns, with zeros for a word that is no vector
abbrev pub frame_said : ℕ → List ℕ → List (List Decimal)
frame_said n t = matrix (map (λ w. or_default [] (vector_said n w)) (vector_words t))

-- a vector's components, zeros after them
abbrev pub vector_column : Option (List Decimal) → Maybe (List Decimal)
vector_column none = None
vector_column (some ds) = Some (column ds)

-- the same of an axis; one without a direction has a mark as its first component
abbrev pub direction_column : Option Direction → Maybe (List Decimal)
direction_column none = None
direction_column (some without) = Some (column (marked no_direction ∷ []))
direction_column (some (along ds)) = Some (column ds)
