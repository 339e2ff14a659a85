-- The header writer (W2): the text of a header with its orientation, and the whole answer of the call.
use Rattle.std.specs.Prelude.{ℕ, ◌/◌, ◌%◌, Bool, true, false, not, ◌&&◌, List, [], ◌∷◌, ◌++◌, map, ◌==◌, nat_lt, nat_le, ℤ, length, take, if◌then◌else◌}
use Prim.Native.String.{String}
use Rattle.std.proofs.Math.Option.{Option, none, some}
use Rattle.format.specs.declared.Decimal.{Decimal}
use Rattle.format.specs.declared.Shape.{Shape}
use Rattle.format.specs.declared.Refusal.{Refusal}
use Rattle.format.specs.declared.WriteAnswer.{WriteAnswer}
use Rattle.format.specs.Bytes.{bytes, over, SPACE, OPEN, CLOSE, COMMA}
use Rattle.format.specs.Limits.{max_axes}
use Rattle.format.specs.Refusals.{not_in_version, bad_descriptor, lent_too_short, refusal, fine}
use Rattle.format.specs.Lines.{Line, unlines}
use Rattle.format.specs.Fields.{field_since, space, space_dimension, space_origin, space_directions, measurement_frame}
use Rattle.format.specs.Header.{Outcome, refused, accepted, header}
use Rattle.format.specs.Decimals.{numeric, nan, inf, minus_inf, no_direction}
use Rattle.format.specs.Spaces.{space_names, space_at, space_count, max_space}
use Rattle.format.specs.Vectors.{Direction, without, along}
use Rattle.format.specs.Writer.{decimal, signed_decimal, first_name, field_line, header_with, writable}

-- ---- a component: number, `e`, power; or a mark. What is no decimal becomes `none`, which no reading takes for a component

-- `e`
abbrev pub number_text : ℤ → ℤ → List ℕ
number_text n p = signed_decimal n ++ 101 ∷ signed_decimal p

unfoldable pub component_text : Decimal → List ℕ
component_text d =
    if d.kind == numeric then number_text d.number d.power
    else if d.kind == nan then bytes "nan"
    else if d.kind == inf then bytes "inf"
    else if d.kind == minus_inf then bytes "-inf"
    else bytes "none"

-- ---- vectors: one space between two of them, none inside

-- texts with a byte between each two
unfoldable pub joined : ℕ → List (List ℕ) → List ℕ
joined b [] = []
joined b (t ∷ []) = t
joined b (t ∷ u ∷ ts) = t ++ b ∷ joined b (u ∷ ts)

unfoldable pub vector_text : List Decimal → List ℕ
vector_text ds = OPEN ∷ joined COMMA (map component_text ds) ++ CLOSE ∷ []

abbrev pub direction_text : Direction → List ℕ
direction_text without = bytes "none"
direction_text (along ds) = vector_text ds

-- ---- the lines

-- what the header writer is given: a space by its number, a space's dimension, an origin, a direction for each axis, the columns of a measurement frame. Each may be missing
pub data Orientation : Type 0 where
  orientation : Option ℕ → Option ℕ → Option (List Decimal) → Option (List Direction) → Option (List (List Decimal)) → Orientation

-- a space by its full name
abbrev pub space_text : ℕ → List ℕ
space_text i = first_name (space_names (space_at i))

abbrev pub origin_text : List Decimal → List ℕ
origin_text = vector_text

abbrev pub directions_text : List Direction → List ℕ
directions_text ds = joined SPACE (map direction_text ds)

abbrev pub frame_text : List (List Decimal) → List ℕ
frame_text cs = joined SPACE (map vector_text cs)

-- the line of a field, if it is given
abbrev pub line_for : {A : Type 0} → String → (A → List ℕ) → Option A → List Line
line_for name show none = []
line_for name show (some a) = field_line name (show a) ∷ []

unfoldable pub orientation_lines : Orientation → List Line
orientation_lines (orientation i size origin directions frame) =
    line_for "space" space_text i
    ++ (line_for "space dimension" decimal size
    ++ (line_for "space origin" origin_text origin
    ++ (line_for "space directions" directions_text directions
    ++ line_for "measurement frame" frame_text frame)))

-- the writer's header with these lines before its empty line
unfoldable pub oriented_bytes : ℕ → List ℕ → ℕ → ℕ → ℕ → Orientation → List ℕ
oriented_bytes version sizes t e endian o = unlines (header_with version sizes t e endian (orientation_lines o))

-- ---- the arrays that the header writer is given

-- it stands for an axis without a direction
abbrev pub is_none : Decimal → Bool
is_none d = d.kind == no_direction

-- the decimals before the first that is none
unfoldable pub until_none : List Decimal → List Decimal
until_none [] = []
until_none (d ∷ ds) = if is_none d then [] else d ∷ until_none ds

-- a vector of n components at most: it ends before the first that is none
abbrev pub vector_of : ℕ → List Decimal → List Decimal
vector_of n v = until_none (take n v)

-- whether the first one is none
abbrev pub starts_none : List Decimal → Bool
starts_none [] = false
starts_none (d ∷ ds) = is_none d

-- the direction of an axis. Whether there is one is said by the first of v, not of the first n, so that n = 0 needs no case of its own
abbrev pub direction_of : ℕ → List Decimal → Direction
direction_of n v = if starts_none v then without else along (vector_of n v)

-- what is given: bit 0 of `given` says that there is a space, bit 1 a space's dimension, bit 2 an origin, bit 3 directions, bit 4 a frame. A vector has as many
-- components as `components` says, or fewer; `axes` and `columns` say how many directions and columns there are.
abbrev pub has : ℕ → ℕ → Bool
has given bit = given / bit % 2 == 1

abbrev pub if_given : {A : Type 0} → Bool → A → Option A
if_given x a = if x then some a else none

abbrev pub orientation_of : Shape → List Decimal → List (List Decimal) → List (List Decimal) → Orientation
orientation_of s origin directions frame =
    orientation (if_given (has s.given 1) s.space) (if_given (has s.given 2) s.spacedimension)
    (if_given (has s.given 4) (vector_of s.components origin))
    (if_given (has s.given 8) (map (direction_of s.components) (take s.axes directions)))
    (if_given (has s.given 16) (map (vector_of s.components) (take s.columns frame)))

-- its numbers are in their ranges (11)
abbrev pub shape_fine : Shape → Bool
shape_fine s = nat_lt s.given 32 && (nat_le s.components max_space && (nat_le s.axes max_axes && nat_le s.columns max_space))

-- ---- the call: the answer, and the lent buffer as it returns

-- a space that is given is in the list (11)
abbrev pub space_listed : Orientation → Bool
space_listed (orientation none size origin directions frame) = true
space_listed (orientation (some i) size origin directions frame) = nat_lt i space_count

-- the version has a field that is given (8)
abbrev pub since_for : {A : Type 0} → ℕ → ℕ → Option A → Bool
since_for version f none = true
since_for version f (some a) = nat_le (field_since f) version

unfoldable pub in_version : ℕ → Orientation → Bool
in_version version (orientation i size origin directions frame) =
    since_for version space i
    && (since_for version space_dimension size
    && (since_for version space_origin origin
    && (since_for version space_directions directions
    && since_for version measurement_frame frame)))

abbrev pub header_refused : Refusal → List ℕ → WriteAnswer × List ℕ
header_refused r out = (record { refusal = r; length = 0 }, out)

-- what a reading of the text says (its refusals with their lines), then 22
abbrev pub after_reading : Outcome → List ℕ → List ℕ → WriteAnswer × List ℕ
after_reading (refused r) text out = header_refused r out
after_reading (accepted es gs ls) text out =
    if nat_lt (length out) (length text) then header_refused (refusal lent_too_short) out
    else (record { refusal = fine; length = length text }, over text out)

unfoldable pub write_header : ℕ → List ℕ → ℕ → ℕ → ℕ → Bool → Orientation → List ℕ → WriteAnswer × List ℕ
write_header version sizes t e endian shaped o out =
    if not (writable version sizes t e endian && (shaped && space_listed o)) then header_refused (refusal bad_descriptor) out
    else if not (in_version version o) then header_refused (refusal not_in_version) out
    else after_reading (header (oriented_bytes version sizes t e endian o)) (oriented_bytes version sizes t e endian o) out

abbrev pub write_header_call : ℕ → List ℕ → ℕ → ℕ → ℕ → Shape → List Decimal → List (List Decimal) → List (List Decimal) → List ℕ → WriteAnswer × List ℕ
write_header_call version sizes t e endian s origin directions frame out =
    write_header version sizes t e endian (shape_fine s) (orientation_of s origin directions frame) out
