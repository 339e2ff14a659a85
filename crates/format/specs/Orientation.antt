-- The orientation that a header says, and the calls for it (W2): the whole answer of each, refused or not.
use Rattle.std.specs.Prelude.{ℕ, ◌-◌, ◌/◌, Bool, true, false, nat_lt, length, slice_index_or, replicate, if◌then◌else◌}
use mathlib.Core.List.{List, [], ◌∷◌, ◌++◌, flat_map}
use Rattle.std.proofs.Math.Option.{Option, none, some}
use Rattle.format.specs.declared.Decimal.{Decimal}
use Rattle.format.specs.declared.Refusal.{Refusal}
use Rattle.format.specs.declared.VectorAnswer.{VectorAnswer}
use Rattle.format.specs.declared.CountAnswer.{CountAnswer}
use Rattle.format.specs.Bytes.{or_default, over}
use Rattle.format.specs.Refusals.{lent_too_short, bad_coordinates, refusal, fine}
use Rattle.format.specs.Fields.{Given, descriptor_of, is_given, space_origin, space_directions, measurement_frame}
use Rattle.format.specs.Decimals.{marked, no_direction, nought}
use Rattle.format.specs.Vectors.{Direction, without, along, vectors_said, directions_said}
use Rattle.format.specs.Columns.{column, matrix}
use Rattle.format.specs.Descriptors.{meaning, dimension_of, space_size_of}
use Rattle.format.specs.Header.{Outcome, refused, accepted, header}
use Rattle.format.specs.Calls.{no_samples}
use Rattle.format.specs.Boundary.{decimal_width, decimals_bytes}

-- ---- what the fields given say; nothing where a field is not given

abbrev pub first_vector : Option (List (List Decimal)) → List Decimal
first_vector none = []
first_vector (some []) = []
first_vector (some (v ∷ vs)) = v

-- the components of the origin
unfoldable pub origin_of : List Given → List Decimal
origin_of gs = meaning [] (λ t. first_vector (vectors_said 1 (space_size_of gs) t)) (descriptor_of space_origin gs)

-- the direction of each axis
unfoldable pub directions_of : List Given → List Direction
directions_of gs = meaning [] (λ t. or_default [] (directions_said (dimension_of gs) (space_size_of gs) t)) (descriptor_of space_directions gs)

-- the columns of the measurement frame
unfoldable pub frame_of : List Given → List (List Decimal)
frame_of gs = meaning [] (λ t. or_default [] (vectors_said (space_size_of gs) (space_size_of gs) t)) (descriptor_of measurement_frame gs)

-- ---- read_orientation::origin, read_orientation::direction: a vector in an array of eight, zeros after it

abbrev pub no_vector : Refusal → VectorAnswer
no_vector r = record { refusal = r; given = false; count = 0; parts = column [] }

abbrev pub vector_given : List Decimal → VectorAnswer
vector_given ds = record { refusal = fine; given = true; count = length ds; parts = column ds }

abbrev pub origin_in : Outcome → VectorAnswer
origin_in (refused r) = no_vector r
origin_in (accepted es gs ls) = if is_given space_origin gs then vector_given (origin_of gs) else no_vector fine

abbrev pub origin_call : List ℕ → VectorAnswer
origin_call file = origin_in (header file)

-- an axis without a direction has no components, and a mark in the first place
abbrev pub direction_given : Direction → VectorAnswer
direction_given without = record { refusal = fine; given = true; count = 0; parts = column (marked no_direction ∷ []) }
direction_given (along ds) = vector_given ds

-- an axis that the header does not have is refused as coordinates are (23)
abbrev pub direction_in : ℕ → Outcome → VectorAnswer
direction_in axis (refused r) = no_vector r
direction_in axis (accepted es gs ls) =
    if nat_lt axis (dimension_of gs) then (if is_given space_directions gs then direction_given (slice_index_or (directions_of gs) axis without) else no_vector fine)
    else no_vector (refusal bad_coordinates)

abbrev pub direction_call : List ℕ → ℕ → VectorAnswer
direction_call file axis = direction_in axis (header file)

-- ---- read_orientation::frame: the matrix by value, a column for each vector, zeros past them; all zero where the header is refused or has no frame, which the reading tells

abbrev pub frame_in : Outcome → List (List Decimal)
frame_in (refused r) = matrix []
frame_in (accepted es gs ls) = matrix (frame_of gs)

abbrev pub frame_call : List ℕ → List (List Decimal)
frame_call file = frame_in (header file)

-- ---- the same in lent bytes, a decimal in 16, for callers in C: how many decimals there are, and the lent bytes as they return; 22 where they are too short

abbrev pub listed : List Decimal → List ℕ → CountAnswer × List ℕ
listed ds list =
    if nat_lt (length list / decimal_width) (length ds) then (no_samples (refusal lent_too_short), list)
    else (record { refusal = fine; count = length ds }, over (decimals_bytes ds) list)

abbrev pub origin_listed : List ℕ → Outcome → CountAnswer × List ℕ
origin_listed list (refused r) = (no_samples r, list)
origin_listed list (accepted es gs ls) = listed (origin_of gs) list

abbrev pub origin_entry : List ℕ → List ℕ → CountAnswer × List ℕ
origin_entry file list = origin_listed list (header file)

-- the decimals of a direction in a space of n dimensions: where there is none, a mark and zeros
abbrev pub direction_decimals : ℕ → Direction → List Decimal
direction_decimals n without = marked no_direction ∷ replicate (n - 1) nought
direction_decimals n (along ds) = ds

abbrev pub directions_listed : List ℕ → Outcome → CountAnswer × List ℕ
directions_listed list (refused r) = (no_samples r, list)
directions_listed list (accepted es gs ls) = listed (flat_map (direction_decimals (space_size_of gs)) (directions_of gs)) list

abbrev pub directions_entry : List ℕ → List ℕ → CountAnswer × List ℕ
directions_entry file list = directions_listed list (header file)

abbrev pub frame_listed : List ℕ → Outcome → CountAnswer × List ℕ
frame_listed list (refused r) = (no_samples r, list)
frame_listed list (accepted es gs ls) = listed (flat_map (λ c. c) (frame_of gs)) list

abbrev pub frame_entry : List ℕ → List ℕ → CountAnswer × List ℕ
frame_entry file list = frame_listed list (header file)
