-- Internal to this crate. Where a field of vectors lies in a file, and what is read and stored of it.
use Rattle.std.specs.Prelude.{ℕ, zero, suc, ◌-◌, ◌≤◌, ◌<◌, ◌≡◌, true, List, [], ◌∷◌, ◌++◌, Result, Ok, Err, Some, None, length, take, slice_index_or, if◌then◌else◌}
use Rattle.std.specs.Prelude.{Option as Maybe}
use Rattle.std.proofs.Math.Option.{Option, none, some}
use Rattle.format.specs.declared.Decimal.{Decimal}
use Rattle.format.specs.declared.VectorAnswer.{VectorAnswer}
use Rattle.format.specs.declared.reason.Refused.{Refused}
use Rattle.format.specs.Bytes.{bytes, alike}
use Rattle.format.specs.Limits.{max_header}
use Rattle.format.specs.Refusals.{fine}
use Rattle.format.specs.Reasons.{refusal_of}
use Rattle.format.specs.Lines.{Line}
use Rattle.format.specs.Fields.{Given, descriptor_of, needs_space}
use Rattle.format.specs.Spaces.{max_space}
use Rattle.format.specs.Decimals.{marked, no_direction}
use Rattle.format.specs.Vectors.{Direction, without, along, direction_said}
use Rattle.format.specs.Columns.{column}
use Rattle.format.specs.Descriptors.{may_describe, dimension_of, space_size_of}
use Rattle.format.specs.Header.{Entry, refused, accepted, header}
use Rattle.format.specs.Orientation.{no_vector}
use Rattle.read_vectors.specs.Outside.{part}
use Rattle.read_orientation.specs.declared.Column.{Column}
use Rattle.read_orientation.specs.declared.place.Field.{Field}
use Rattle.read_orientation.specs.declared.place.Said.{Said}

-- ---- where the field lies

-- the field f is there with a descriptor that it may have, in a header with the fields gs.
-- Its place is within the file and no longer than a header, and a vector has at most as many components as a space may have dimensions.
pub record Lies (file : List ℕ) (f : ℕ) (gs : List Given) (x : Field) : Type 0 where
  pub descriptor : List ℕ
  pub given : descriptor_of f gs ≡ some descriptor
  pub size_is : x.size ≡ space_size_of gs
  pub text : part x.from x.to file ≡ descriptor
  pub described : may_describe (dimension_of gs) (space_size_of gs) f descriptor ≡ true
  pub not_flat : needs_space f ≡ true → 1 ≤ space_size_of gs
  pub ordered : x.from ≤ x.to
  pub within : x.to ≤ length file
  pub short : x.to - x.from ≤ max_header
  pub few : x.size ≤ max_space

-- by the fields gs of its header
abbrev pub GivenBy : List ℕ → ℕ → List Given → Maybe Field → Type 0
GivenBy file f gs None = descriptor_of f gs ≡ none
GivenBy file f gs (Some x) = Lies file f gs x

-- what an accepted header says of the field f
pub record Says (file : List ℕ) (f : ℕ) (s : Said) : Type 0 where
  pub entries : List Entry
  pub fields : List Given
  pub after : List Line
  pub is : header file ≡ accepted entries fields after
  pub axes_are : s.axes ≡ dimension_of fields
  pub field_is : GivenBy file f fields s.field

-- what is told of the field f
abbrev pub Told : List ℕ → ℕ → Result Said Refused → Type 0
Told file f (Ok s) = Says file f s
Told file f (Err r) = header file ≡ refused (refusal_of r)

-- ---- a direction

-- how many components a word says: an axis without a direction has none
abbrev pub components_in : ℕ → List ℕ → ℕ
components_in n w = if alike w (bytes "none") then 0 else n

-- the components of a direction in an array of eight; one of an axis without a direction has a mark as its first component
abbrev pub direction_parts : Option Direction → List Decimal
direction_parts none = column []
(direction_parts (some without)) = column (marked no_direction ∷ [])
(direction_parts (some (along ds))) = column ds

-- the direction that a word is
abbrev pub direction_told : ℕ → List ℕ → Column
direction_told n w = record { count = components_in n w; parts = direction_parts (direction_said n w) }

-- ---- a vector as callers in C have it

abbrev pub vector_found : Maybe Column → VectorAnswer
vector_found (Some v) = record { refusal = fine; given = true; count = v.count; parts = v.parts }
vector_found None = no_vector fine

abbrev pub vector_answered : Result (Maybe Column) Refused → VectorAnswer
vector_answered (Ok v) = vector_found v
vector_answered (Err r) = no_vector (refusal_of r)

-- ---- several vectors, one after the other

-- the first k of what f gives, joined
unfoldable pub joined : (ℕ → List Decimal) → ℕ → List Decimal
joined f zero = []
joined f (suc k) = joined f k ++ f k

-- n decimals for each of k words
abbrev pub directions_in : ℕ → List (List ℕ) → ℕ → List Decimal
directions_in n ws k = joined (λ i. take n (direction_parts (direction_said n (slice_index_or ws i [])))) k

-- the first n entries of each of k columns
abbrev pub columns_in : ℕ → List (List Decimal) → ℕ → List Decimal
columns_in n m k = joined (λ c. take n (slice_index_or m c [])) k

-- each of the eight columns has eight entries
abbrev pub Columns : List (List Decimal) → Type 0
Columns m = (c : ℕ) → c < 8 → length (slice_index_or m c []) ≡ 8
