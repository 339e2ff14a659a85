-- Internal to this crate. What its parts store and refuse, in the words of their contracts. Each is tied to the definitions of `format` by a law of proofs/.
use Rattle.std.specs.Prelude.{ℕ, ◌≤◌, ◌<◌, ◌≡◌, Bool, true, not, ◌&&◌, ◌||◌, List, [], ◌++◌, map, ◌==◌, nat_le, nat_lt, length, take, drop, replicate, if◌then◌else◌}
use Rattle.format.specs.declared.Decimal.{Decimal}
use Rattle.format.specs.declared.Shape.{Shape}
use Rattle.format.specs.declared.WriteAnswer.{WriteAnswer}
use Rattle.format.specs.Bytes.{bytes, is_empty}
use Rattle.format.specs.Refusals.{not_in_version, bad_descriptor, refusal}
use Rattle.format.specs.Fields.{field_since, space, space_dimension, space_origin, space_directions, measurement_frame}
use Rattle.format.specs.Spaces.{space_count}
use Rattle.format.specs.Writer.{decimal, writable}
use Rattle.format.specs.HeaderWriter.{vector_text, directions_text, frame_text, space_text, vector_of, direction_of, has, shape_fine, header_refused, write_header_call}
use Rattle.format.specs.Columns.{column, matrix}
use Rattle.format.specs.Boundary.{decimals_lent}
use Rattle.format.specs.EntryPoints.{orientation_width, shape_lent, columns_lent, no_shape}
use Rattle.write_file.specs.Stored.{value_line}

-- ---- the text

-- enough for any header with its orientation
abbrev pub text_room : ℕ
text_room = 8192

-- a line, where it is given: the name with its mark, the value, LF
abbrev pub optional : Bool → List ℕ → List ℕ → List ℕ
optional given name value = if given then value_line name value else []

-- the lines of the orientation: n is how many components a vector has at most
abbrev pub space_line : Bool → ℕ → List ℕ
space_line given i = optional given (bytes "space: ") (space_text i)

abbrev pub size_line : Bool → ℕ → List ℕ
size_line given size = optional given (bytes "space dimension: ") (decimal size)

abbrev pub origin_line : Bool → ℕ → List Decimal → List ℕ
origin_line given n v = optional given (bytes "space origin: ") (vector_text (vector_of n v))

abbrev pub directions_line : Bool → ℕ → ℕ → List (List Decimal) → List ℕ
directions_line given n count m = optional given (bytes "space directions: ") (directions_text (map (direction_of n) (take count m)))

abbrev pub frame_line : Bool → ℕ → ℕ → List (List Decimal) → List ℕ
frame_line given n count m = optional given (bytes "measurement frame: ") (frame_text (map (vector_of n) (take count m)))

abbrev pub lines_text : Shape → List Decimal → List (List Decimal) → List (List Decimal) → List ℕ
lines_text s origin directions frame =
    space_line (has s.given 1) s.space
    ++ (size_line (has s.given 2) s.spacedimension
    ++ (origin_line (has s.given 4) s.components origin
    ++ (directions_line (has s.given 8) s.components s.axes directions
    ++ frame_line (has s.given 16) s.components s.columns frame)))

-- ---- the refusals before the text is made

-- a space that is given is in the list
abbrev pub space_fine : Shape → Bool
space_fine s = not (has s.given 1) || nat_lt s.space space_count

-- the version has the field, where it is given
abbrev pub field_fine : ℕ → Bool → ℕ → Bool
field_fine version given f = not given || nat_le (field_since f) version

abbrev pub version_fine : ℕ → ℕ → Bool
version_fine version given =
    field_fine version (has given 1) space
    && (field_fine version (has given 2) space_dimension
    && (field_fine version (has given 4) space_origin
    && (field_fine version (has given 8) space_directions
    && field_fine version (has given 16) measurement_frame)))

-- 11, 8, or 0
unfoldable pub asked_refusal : ℕ → List ℕ → ℕ → ℕ → ℕ → Shape → ℕ
asked_refusal version sizes t e endian s =
    if not (writable version sizes t e endian && (shape_fine s && space_fine s)) then bad_descriptor
    else if not (version_fine version s.given) then not_in_version
    else 0

-- the numbers of a shape that is not refused
pub record Shaped (s : Shape) : Type 0 where
  pub components_to : s.components ≤ 8
  pub axes_to : s.axes ≤ 16
  pub columns_to : s.columns ≤ 8
  pub space_in : has s.given 1 ≡ true → s.space < 12

-- ---- sizes as numbers and an orientation in lent bytes

unfoldable pub lent_call : ℕ → List ℕ → ℕ → ℕ → ℕ → List ℕ → List ℕ → WriteAnswer × List ℕ
lent_call version sizes t e endian lent out =
    if is_empty lent then write_header_call version sizes t e endian no_shape (column []) (replicate 16 (column [])) (matrix []) out
    else if length lent == orientation_width then
    write_header_call version sizes t e endian (shape_lent lent) (decimals_lent (take 128 (drop 32 lent))) (columns_lent 16 (drop 160 lent)) (columns_lent 8 (drop 2208 lent)) out
    else header_refused (refusal bad_descriptor) out
