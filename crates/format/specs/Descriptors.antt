-- Descriptors and what they mean (rules, "Lines and headers", point 5; "Understood fields", "Needed", "Types";
-- "Data and samples", extent; W1, byte skips, W2, orientation, W5, data files, and W6, what is said of axes).
use Rattle.std.specs.Prelude.{ℕ, ◌+◌, ◌-◌, ◌*◌, ◌%◌, min, Bool, true, false, not, ◌&&◌, ◌||◌, List, [], ◌∷◌, map, ◌==◌, nat_lt, length, drop, slice_index, slice_index_or, if◌then◌else◌}
use Prim.Native.String.{String}
use Rattle.std.proofs.Math.Option.{Option, none, some}
use Rattle.format.specs.Bytes.{bytes, between, same, row_of, is_some, or_default}
use Rattle.format.specs.Words.{trim_front, trim_end, number_in, value_of_number, words, numbers_in}
use Rattle.format.specs.Limits.{max_axes, max_size, max_skip, past_extent}
use Rattle.format.specs.Fields.{Given, descriptor_of, is_given, file_names, field_since, many_files_since, is_understood, dimension, type, encoding, endian, sizes, line_skip, byte_skip, data_file, space, space_dimension, space_origin, space_directions, measurement_frame, centers, labels, units, kinds}
use Rattle.format.specs.Spaces.{space_count, max_space, space_size, space_named}
use Rattle.format.specs.Vectors.{vectors_said, directions_said}
use Rattle.format.specs.Kinds.{centrings_said, kinds_said}
use Rattle.format.specs.Strings.{strings_said}
use Rattle.format.specs.DataFiles.{is_list, is_many_form, DataFile, data_file_said, files_said, cover_said, last_numbered}

-- ---- the text of a descriptor

-- what follows the mark of a field, from where its descriptor starts: in understood fields past the spaces and tabs
abbrev pub from_descriptor : ℕ → List ℕ → List ℕ
from_descriptor f rest = if is_understood f then trim_front rest else rest

-- the descriptor of a field in what follows its mark
unfoldable pub descriptor : ℕ → List ℕ → List ℕ
descriptor f rest = trim_end (from_descriptor f rest)

-- ---- byte skips (-1: W1)

-- so many bytes are skipped; or, for -1, the data is the last bytes of what the line skip leaves
pub data ByteSkip : Type 0 where
  forward : ℕ → ByteSkip
  from_end : ByteSkip

-- the text is exactly `-1`; `-01`, `- 1`, `-0` and `-2` are not
abbrev pub is_minus_one : List ℕ → Bool
is_minus_one t = same t (bytes "-1")

-- what a byte skip's descriptor says
abbrev pub byte_skip_said : List ℕ → ByteSkip
byte_skip_said t = if is_minus_one t then from_end else forward (value_of_number t)

-- the number of bytes to skip, 0 for -1
abbrev pub bytes_forward : ByteSkip → ℕ
bytes_forward (forward n) = n
bytes_forward from_end = 0

abbrev pub is_from_end : ByteSkip → Bool
is_from_end (forward n) = false
is_from_end from_end = true

-- ---- types, encodings, endians: numbered from 0 as listed, by names that ignore case

pub data NumberKind : Type 0 where
  signed unsigned floating : NumberKind

-- a type: its name before the colon, the bytes of a sample, its kind, and all its names
pub data SampleType : Type 0 where
  sample_type : String → ℕ → NumberKind → List String → SampleType

abbrev pub types : List SampleType
types =
    sample_type "int8" 1 signed ("signed char" ∷ "int8" ∷ "int8_t" ∷ [])
    ∷ sample_type "uint8" 1 unsigned ("uchar" ∷ "unsigned char" ∷ "uint8" ∷ "uint8_t" ∷ [])
    ∷ sample_type "int16" 2 signed ("short" ∷ "short int" ∷ "signed short" ∷ "signed short int" ∷ "int16" ∷ "int16_t" ∷ [])
    ∷ sample_type "uint16" 2 unsigned ("ushort" ∷ "unsigned short" ∷ "unsigned short int" ∷ "uint16" ∷ "uint16_t" ∷ [])
    ∷ sample_type "int32" 4 signed ("int" ∷ "signed int" ∷ "int32" ∷ "int32_t" ∷ [])
    ∷ sample_type "uint32" 4 unsigned ("uint" ∷ "unsigned int" ∷ "uint32" ∷ "uint32_t" ∷ [])
    ∷ sample_type "int64" 8 signed
    ("longlong" ∷ "long long" ∷ "long long int" ∷ "signed long long" ∷ "signed long long int" ∷ "int64" ∷ "int64_t" ∷ [])
    ∷ sample_type "uint64" 8 unsigned
    ("ulonglong" ∷ "unsigned long long" ∷ "unsigned long long int" ∷ "uint64" ∷ "uint64_t" ∷ [])
    ∷ sample_type "float" 4 floating ("float" ∷ [])
    ∷ sample_type "double" 8 floating ("double" ∷ [])
    ∷ []

abbrev pub encodings : List (List String)
encodings = ("raw" ∷ []) ∷ ("txt" ∷ "text" ∷ "ascii" ∷ []) ∷ ("hex" ∷ []) ∷ []

abbrev pub raw : ℕ
raw = 0

abbrev pub as_text : ℕ
as_text = 1

abbrev pub hex : ℕ
hex = 2

abbrev pub endians : List (List String)
endians = ("little" ∷ []) ∷ ("big" ∷ []) ∷ []

abbrev pub little : ℕ
little = 0

abbrev pub big : ℕ
big = 1

-- the endian that is not given
abbrev pub no_endian : ℕ
no_endian = 2

abbrev pub type_names : SampleType → List String
type_names (sample_type name n k ns) = ns

abbrev pub type_name : SampleType → String
type_name (sample_type name n k ns) = name

abbrev pub bytes_of_type : SampleType → ℕ
bytes_of_type (sample_type name n k ns) = n

abbrev pub number_kind_type : SampleType → NumberKind
number_kind_type (sample_type name n k ns) = k

-- the type of a number, and a stand-in past the list
unfoldable pub type_at : ℕ → SampleType
type_at t = slice_index_or types t (sample_type "int8" 1 signed [])

-- the bytes of a sample
abbrev pub sample_bytes : ℕ → ℕ
sample_bytes t = bytes_of_type (type_at t)

abbrev pub number_kind : ℕ → NumberKind
number_kind t = number_kind_type (type_at t)

abbrev pub is_floating : NumberKind → Bool
is_floating signed = false
is_floating unsigned = false
is_floating floating = true

abbrev pub is_signed : NumberKind → Bool
is_signed signed = true
is_signed unsigned = false
is_signed floating = false

abbrev pub type_named : List ℕ → Option ℕ
type_named w = row_of w (map type_names types)

abbrev pub encoding_named : List ℕ → Option ℕ
encoding_named w = row_of w encodings

abbrev pub endian_named : List ℕ → Option ℕ
endian_named w = row_of w endians

-- whether the order of a sample's bytes matters ("Needed"): raw or hex samples of several bytes
abbrev pub endian_needed : ℕ → ℕ → Bool
endian_needed t e = nat_lt 1 (sample_bytes t) && (e == raw || e == hex)

-- ---- what the given fields mean

-- the meaning of a field's descriptor, or d where the field is not given
abbrev pub meaning : {A : Type 0} → A → (List ℕ → A) → Option (List ℕ) → A
meaning d f none = d
meaning d f (some t) = f t

-- the space that is not given
abbrev pub no_space : ℕ
no_space = space_count

-- the number that a field's descriptor says: of a type, an encoding, an endian or a space the one of its name, of dimension, line skip and space dimension
-- their value, of a byte skip the number of bytes, of a data file the number of the last one where a pattern names them; 0 for a field that says none
abbrev pub number_said : ℕ → List ℕ → ℕ
number_said f t =
    if f == type then or_default 0 (type_named t)
    else if f == encoding then or_default 0 (encoding_named t)
    else if f == endian then or_default no_endian (endian_named t)
    else if f == dimension || f == line_skip then value_of_number t
    else if f == byte_skip then bytes_forward (byte_skip_said t)
    else if f == space then or_default no_space (space_named t)
    else if f == space_dimension then value_of_number t
    else if f == data_file then last_numbered (data_file_said t)
    else 0

-- the number of a field that is not given
abbrev pub number_absent : ℕ → ℕ
number_absent f = if f == endian then no_endian else if f == space then no_space else 0

-- the number of a field
abbrev pub number_of : ℕ → List Given → ℕ
number_of f gs = meaning (number_absent f) (number_said f) (descriptor_of f gs)

abbrev pub dimension_of : List Given → ℕ
dimension_of gs = number_of dimension gs

abbrev pub type_of : List Given → ℕ
type_of gs = number_of type gs

abbrev pub encoding_of : List Given → ℕ
encoding_of gs = number_of encoding gs

abbrev pub endian_of : List Given → ℕ
endian_of gs = number_of endian gs

abbrev pub line_skip_of : List Given → ℕ
line_skip_of gs = number_of line_skip gs

abbrev pub space_of : List Given → ℕ
space_of gs = number_of space gs

-- the dimension of the space, by its name or as it is given; 0 where neither is
abbrev pub space_size_of : List Given → ℕ
space_size_of gs = if is_given space gs then space_size (space_of gs) else number_of space_dimension gs

-- a byte skip that is not given skips nothing
abbrev pub byte_skip_of : List Given → ByteSkip
byte_skip_of gs = meaning (forward 0) byte_skip_said (descriptor_of byte_skip gs)

-- the sizes that a descriptor says
abbrev pub sizes_said : List ℕ → List ℕ
sizes_said t = map value_of_number (words t)

abbrev pub sizes_of : List Given → List ℕ
sizes_of gs = meaning [] sizes_said (descriptor_of sizes gs)

-- detached: the data file field is given
abbrev pub is_detached : List Given → Bool
is_detached gs = is_given data_file gs

-- ---- data files (W5; format, section 3)

-- what the data file field says, if it is given
abbrev pub data_file_of : List Given → Option DataFile
data_file_of gs = meaning none data_file_said (descriptor_of data_file gs)

-- the lines after these are names, whatever their text is: a data file of the form LIST is given
unfoldable pub names_follow : List Given → Bool
names_follow gs = meaning false is_list (descriptor_of data_file gs)

-- no name follows LIST
unfoldable pub list_empty : List Given → Bool
list_empty gs = names_follow gs && length (file_names gs) == 0

-- how many files hold the data: an attached header counts as one file
unfoldable pub file_count_of : List Given → ℕ
file_count_of gs = files_said (data_file_of gs) (length (file_names gs))

-- how many axes one file covers: none where that is not asked; else the number, if it is said
abbrev pub cover_of : List Given → Option (Option ℕ)
cover_of gs = cover_said (data_file_of gs)

-- the version from which a field may have the descriptor t: LIST and patterns, also bad ones, come later than the field
unfoldable pub since : ℕ → List ℕ → ℕ
since f t = if f == data_file && is_many_form t then many_files_since else field_since f

-- ---- the descriptor that a field may have (refusal 11)

-- as many sizes as the dimension
abbrev pub sizes_fine : ℕ → List (List ℕ) → Bool
sizes_fine n ws = length ws == n && numbers_in 1 max_size ws

-- the field may have the descriptor t in a header of dimension n, in a space of dimension m; a carried field may have any
unfoldable pub may_describe : ℕ → ℕ → ℕ → List ℕ → Bool
may_describe n m f t =
    if f == dimension then number_in 1 max_axes t
    else if f == type then is_some (type_named t)
    else if f == encoding then is_some (encoding_named t)
    else if f == endian then is_some (endian_named t)
    else if f == sizes then sizes_fine n (words t)
    else if f == line_skip then number_in 0 max_skip t
    else if f == byte_skip then is_minus_one t || number_in 0 max_skip t
    else if f == data_file then is_some (data_file_said t)
    else if f == space then is_some (space_named t)
    else if f == space_dimension then number_in 1 max_space t
    else if f == space_origin then is_some (vectors_said 1 m t)
    else if f == space_directions then is_some (directions_said n m t)
    else if f == measurement_frame then is_some (vectors_said m m t)
    else if f == centers then is_some (centrings_said n t)
    else if f == kinds then is_some (kinds_said n t)
    else if f == labels then is_some (strings_said n t)
    else if f == units then is_some (strings_said n t)
    else true

-- ---- what is needed (refusal 14), the encoding that a byte skip of -1 asks for (11 with line 0), and the extent

-- dimension, type, encoding and sizes are given, and endian where the order of bytes matters
unfoldable pub has_needed : List Given → Bool
has_needed gs =
    is_given dimension gs
    && (is_given type gs
    && (is_given encoding gs
    && (is_given sizes gs
    && (is_given endian gs || not (endian_needed (type_of gs) (encoding_of gs))))))

-- a byte skip of -1 stands with raw alone
unfoldable pub end_is_raw : List Given → Bool
end_is_raw gs = not (is_from_end (byte_skip_of gs)) || encoding_of gs == raw

unfoldable pub product : List ℕ → ℕ
product [] = 1
product (n ∷ ns) = n * product ns

-- the bytes that all samples take in raw
abbrev pub extent : List ℕ → ℕ → ℕ
extent ns t = product ns * sample_bytes t

abbrev pub extent_of : List Given → ℕ
extent_of gs = extent (sizes_of gs) (type_of gs)

-- ---- how many files there may be, and what each covers (11 with line 0)

-- k divides n
abbrev pub divides : ℕ → ℕ → Bool
divides k n = n % k == 0

-- Each of k files covers the c fastest of n axes. Where these are fewer than all, there is a file for every place on the others; where they are all, the files are slabs along the slowest.
-- And k divides the number of samples, which follows from either rule (law `files_divide`).
abbrev pub cover_fine : ℕ → List ℕ → ℕ → ℕ → Bool
cover_fine n ns k c =
    between 1 n c
    && ((if nat_lt c n then k == product (drop c ns) else divides k (slice_index ns (n - 1)))
    && divides k (product ns))

-- a number of axes that is left open is one less than the dimension; a single name and an attached header are held to nothing
abbrev pub files_fit : ℕ → List ℕ → ℕ → Option (Option ℕ) → Bool
files_fit n ns k none = true
files_fit n ns k (some axes) = cover_fine n ns k (or_default (n - 1) axes)

unfoldable pub files_fine : List Given → Bool
files_fine gs = files_fit (dimension_of gs) (sizes_of gs) (file_count_of gs) (cover_of gs)

-- a number, or the least that is no extent for all that are above it
abbrev pub capped : ℕ → ℕ
capped n = min n past_extent
