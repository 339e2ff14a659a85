-- A header that is written with its orientation is read back (W2), as one statement: `HeadersReadBack`.
-- It speaks of `write_header`, the definition that the header writer's contract cites, and of the answers of the reading calls.
use Rattle.std.specs.Prelude.{ℕ, ◌≤◌, ◌<◌, ◌-◌, ◌≡◌, Bool, true, false, not, ◌&&◌, ◌||◌, List, [], ◌++◌, map, length, slice_index_or, replicate, if◌then◌else◌}
use Rattle.std.proofs.Math.Option.{Option, none, some}
use Rattle.format.specs.declared.Decimal.{Decimal}
use Rattle.format.specs.declared.ReadAnswer.{ReadAnswer}
use Rattle.format.specs.declared.VectorAnswer.{VectorAnswer}
use Rattle.format.specs.declared.WriteAnswer.{WriteAnswer}
use Rattle.format.specs.Bytes.{between, is_some, or_default, over}
use Rattle.format.specs.Limits.{max_file, max_axes, max_extent}
use Rattle.format.specs.Refusals.{fine}
use Rattle.format.specs.Lines.{lines}
use Rattle.format.specs.Fields.{Given}
use Rattle.format.specs.Spaces.{max_space, space_size}
use Rattle.format.specs.Vectors.{Direction, without, along}
use Rattle.format.specs.Columns.{matrix}
use Rattle.format.specs.Descriptors.{endian_needed, no_endian, no_space, extent}
use Rattle.format.specs.Header.{Entry, accepted, header}
use Rattle.format.specs.Calls.{read_header_call}
use Rattle.format.specs.Orientation.{origin_of, directions_of, frame_of, no_vector, vector_given, direction_given, origin_call, direction_call, frame_call}
use Rattle.format.specs.Writer.{header_with, writable}
use Rattle.format.specs.Room.{Enough}
use Rattle.format.specs.HeaderWriter.{Orientation, orientation, orientation_lines, oriented_bytes, space_listed, in_version, write_header}
use Rattle.theorem_orientation.specs.ReadBack.{kept, each, each_of, kept_vector, kept_direction, meant, meant_direction}

-- ---- the parts of an orientation, each given or not

abbrev pub space_given : Orientation → Option ℕ
space_given (orientation i size origin directions frame) = i

abbrev pub origin_given : Orientation → Option (List Decimal)
origin_given (orientation i size origin directions frame) = origin

abbrev pub directions_given : Orientation → Option (List Direction)
directions_given (orientation i size origin directions frame) = directions

abbrev pub frame_given : Orientation → Option (List (List Decimal))
frame_given (orientation i size origin directions frame) = frame

-- the dimension of its space: that of the space given, or the one given, or 0
abbrev pub size_by : Option ℕ → Option ℕ → ℕ
size_by (some i) size = space_size i
size_by none (some n) = n
size_by none none = 0

abbrev pub size_given : Orientation → ℕ
size_given (orientation i size origin directions frame) = size_by i size

-- ---- what is meant by an orientation: number and power of a decimal that is a mark are not written

abbrev pub mapped : {A B : Type 0} → (A → B) → Option A → Option B
mapped f none = none
mapped f (some a) = some (f a)

abbrev pub meant_orientation : Orientation → Orientation
meant_orientation (orientation i size origin directions frame) =
    orientation i size (mapped (map meant) origin) (mapped (map meant_direction) directions) (mapped (map (map meant)) frame)

-- the test holds, where something is given
abbrev pub if_there : {A : Type 0} → (A → Bool) → Option A → Bool
if_there p none = true
if_there p (some a) = p a

abbrev pub kept_along : Direction → Bool
kept_along without = true
kept_along (along ds) = each kept ds

-- every decimal of it is kept: a number and a power in their ranges, or a mark with number and power 0
abbrev pub kept_orientation : Orientation → Bool
kept_orientation (orientation i size origin directions frame) =
    if_there (each kept) origin && (if_there (each kept_along) directions && if_there (each (each kept)) frame)

-- ---- what the header writer accepts

-- there is a space, by its number or by its dimension
abbrev pub has_space : Option ℕ → Option ℕ → Bool
has_space i size = is_some i || is_some size

-- The parts fit together in a header of so many axes. A space's dimension is from 1 to 8, and no space is given beside it. The others lie in a space: an origin has a
-- component for each of its dimensions, there is a direction for each axis, and a frame has a column for each dimension. Every decimal is kept.
abbrev pub fitting : ℕ → Orientation → Bool
fitting axes (orientation i size origin directions frame) =
    if_there (λ n. not (is_some i) && between 1 max_space n) size
    && (if_there (λ ds. has_space i size && kept_vector (size_by i size) ds) origin
    && (if_there (λ ds. has_space i size && each_of axes (kept_direction (size_by i size)) ds) directions
    && if_there (λ cs. has_space i size && each_of (size_by i size) (kept_vector (size_by i size)) cs) frame))

-- there is nothing to refuse, where `room` bytes are lent
pub record Acceptable (version : ℕ) (sizes : List ℕ) (t e endian : ℕ) (shaped : Bool) (o : Orientation) (room : ℕ) : Type 0 where
  pub numbers : writable version sizes t e endian ≡ true
  pub shape : shaped ≡ true
  pub listed : space_listed o ≡ true
  pub known : in_version version o ≡ true
  pub fits : fitting (length sizes) (meant_orientation o) ≡ true
  pub small : extent sizes t ≤ max_extent
  pub enough : length (oriented_bytes version sizes t e endian o) ≤ room

-- no text that is accepted has more bytes
abbrev pub max_written : ℕ
max_written = 5_500

-- ---- the answers of the reading calls for what is given

-- the numbers are those that went in; the endian where it has to be written, none elsewhere; one file, its own
abbrev pub read_back : ℕ → List ℕ → ℕ → ℕ → ℕ → Orientation → ReadAnswer
read_back version sizes t e endian o =
    record {
      refusal = fine;
      reading = record {
        version = version;
        form = 0;
        dimension = length sizes;
        sampletype = t;
        encoding = e;
        endian = if endian_needed t e then endian else no_endian;
        sizes = sizes ++ replicate (max_axes - length sizes) 0;
        lineskip = 0;
        byteskip = 0;
        extent = extent sizes t;
        length = length (oriented_bytes version sizes t e endian o);
        lines = length (header_with version sizes t e endian (orientation_lines o));
        fromend = false;
        origin = is_some (origin_given o);
        directions = is_some (directions_given o);
        frame = is_some (frame_given o);
        space = or_default no_space (space_given o);
        spacedimension = size_given o;
        files = 1;
        fieldlines = length (header_with version sizes t e endian (orientation_lines o));
      };
    }

abbrev pub origin_by : Option (List Decimal) → VectorAnswer
origin_by none = no_vector fine
origin_by (some ds) = vector_given ds

abbrev pub origin_back : Orientation → VectorAnswer
origin_back o = origin_by (origin_given o)

abbrev pub direction_by : ℕ → Option (List Direction) → VectorAnswer
direction_by axis none = no_vector fine
direction_by axis (some ds) = direction_given (slice_index_or ds axis without)

abbrev pub direction_back : ℕ → Orientation → VectorAnswer
direction_back axis o = direction_by axis (directions_given o)

abbrev pub frame_back : Orientation → List (List Decimal)
frame_back o = matrix (or_default [] (frame_given o))

-- ---- the laws

-- A file that begins with the text of the header, with any bytes s after it. What is meant by what went in is read.
pub record ReadsBack (version : ℕ) (sizes : List ℕ) (t e endian : ℕ) (o : Orientation) (s : List ℕ) : Type 0 where
  -- the reading is accepted, and the lines after the header are those of s
  pub entries : List Entry
  pub fields : List Given
  pub header_is : header (oriented_bytes version sizes t e endian o ++ s) ≡ accepted entries fields (lines s)
  -- what the fields say; there is a direction for each axis
  pub origin_is : origin_of fields ≡ or_default [] (origin_given (meant_orientation o))
  pub directions_are : directions_of fields ≡ or_default [] (directions_given (meant_orientation o))
  pub frame_is : frame_of fields ≡ or_default [] (frame_given (meant_orientation o))
  pub one_each : (ds : List Direction) → directions_given o ≡ some ds → length ds ≡ length sizes
  -- the answers of the calls
  pub reading : read_header_call (oriented_bytes version sizes t e endian o ++ s) ≡ read_back version sizes t e endian o
  pub origin : origin_call (oriented_bytes version sizes t e endian o ++ s) ≡ origin_back (meant_orientation o)
  pub direction : (axis : ℕ) → axis < length sizes → direction_call (oriented_bytes version sizes t e endian o ++ s) axis ≡ direction_back axis (meant_orientation o)
  pub frame : frame_call (oriented_bytes version sizes t e endian o ++ s) ≡ frame_back (meant_orientation o)

-- the header writer's answer where nothing is refused: the text's length, and the text at the front of the lent buffer
abbrev pub answered : List ℕ → List ℕ → WriteAnswer × List ℕ
answered text out = (record { refusal = fine; length = length text }, over text out)

-- what holds where it answers 0
pub record Accepted (version : ℕ) (sizes : List ℕ) (t e endian : ℕ) (shaped : Bool) (o : Orientation) (out : List ℕ) : Type 0 where
  -- there was nothing to refuse, and the whole text is written
  pub acceptable : Acceptable version sizes t e endian shaped o (length out)
  pub written : write_header version sizes t e endian shaped o out ≡ answered (oriented_bytes version sizes t e endian o) out
  pub short : length (oriented_bytes version sizes t e endian o) ≤ max_written
  -- it is read back, with any bytes after it for which a file has room
  pub back : (s : List ℕ) → length (oriented_bytes version sizes t e endian o ++ s) ≤ max_file → ReadsBack version sizes t e endian o s

-- THE STATEMENT
pub record HeadersReadBack : Type 0 where
  pub holds : (version : ℕ) (sizes : List ℕ) (t e endian : ℕ) (shaped : Bool) (o : Orientation) (out : List ℕ)
      → (write_header version sizes t e endian shaped o out).0.refusal.number ≡ 0 → Accepted version sizes t e endian shaped o out
  -- where there is nothing to refuse it answers 0
  pub accepts : (version : ℕ) (sizes : List ℕ) (t e endian : ℕ) (shaped : Bool) (o : Orientation) (out : List ℕ)
      → Acceptable version sizes t e endian shaped o (length out) → (write_header version sizes t e endian shaped o out).0.refusal.number ≡ 0
  -- a buffer of `max_written` bytes is always enough
  pub enough : (version : ℕ) (sizes : List ℕ) (t e endian : ℕ) (shaped : Bool) (o : Orientation) (out : List ℕ)
      → max_written ≤ length out → Enough (write_header version sizes t e endian shaped o out).0.refusal
  -- where every decimal is kept, what is meant is what went in
  pub exact : (o : Orientation) → kept_orientation o ≡ true → meant_orientation o ≡ o
