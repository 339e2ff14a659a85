-- The 30 fields: their names in either spelling, first versions and order
-- (rules, "Understood fields", "Carried fields", "Versions", "Order"; W2 and W6, those that became understood).
-- A field is a number from 0: its row in the table. The numbers are those that callers in C use: they stay when a field becomes understood.
use Rattle.std.specs.Prelude.{ℕ, Bool, true, false, not, ◌&&◌, ◌||◌, List, [], ◌∷◌, ◌++◌, map, ◌==◌, length, slice_index_or, if◌then◌else◌}
use Prim.Native.String.{String}
use Rattle.std.proofs.Math.Option.{Option, none, some}
use Rattle.format.specs.Bytes.{row_of, is_some}

-- ---- the table

-- what comes before a field ("Order"): nothing; dimension; space or space dimension; or both of these
pub data Before : Type 0 where
  anywhere after_dimension after_space after_both : Before

-- whether a field is understood ("Understood fields"), or kept as text ("Carried fields")
pub data Treatment : Type 0 where
  understood carried : Treatment

-- a field: its names, the first version that has it ("Versions"), what comes before it, and whether it is understood
pub data FieldRow : Type 0 where
  field_row : List String → ℕ → Before → Treatment → FieldRow

abbrev pub field_table : List FieldRow
field_table =
    field_row ("dimension" ∷ []) 1 anywhere understood
    ∷ field_row ("type" ∷ []) 1 anywhere understood
    ∷ field_row ("encoding" ∷ []) 1 anywhere understood
    ∷ field_row ("endian" ∷ []) 1 anywhere understood
    ∷ field_row ("sizes" ∷ []) 1 after_dimension understood
    ∷ field_row ("line skip" ∷ "lineskip" ∷ []) 1 anywhere understood
    ∷ field_row ("byte skip" ∷ "byteskip" ∷ []) 1 anywhere understood
    ∷ field_row ("data file" ∷ "datafile" ∷ []) 1 anywhere understood
    ∷ field_row ("block size" ∷ "blocksize" ∷ []) 1 anywhere carried
    ∷ field_row ("content" ∷ []) 1 anywhere carried
    ∷ field_row ("min" ∷ []) 1 anywhere carried
    ∷ field_row ("max" ∷ []) 1 anywhere carried
    ∷ field_row ("old min" ∷ "oldmin" ∷ []) 1 anywhere carried
    ∷ field_row ("old max" ∷ "oldmax" ∷ []) 1 anywhere carried
    ∷ field_row ("number" ∷ []) 1 anywhere carried
    ∷ field_row ("sample units" ∷ "sampleunits" ∷ []) 4 anywhere carried
    ∷ field_row ("space" ∷ []) 4 anywhere understood
    ∷ field_row ("space dimension" ∷ []) 4 anywhere understood
    ∷ field_row ("space units" ∷ []) 4 after_space carried
    ∷ field_row ("space origin" ∷ []) 4 after_space understood
    ∷ field_row ("space directions" ∷ []) 4 after_both understood
    ∷ field_row ("measurement frame" ∷ []) 5 after_space understood
    ∷ field_row ("spacings" ∷ []) 1 after_dimension carried
    ∷ field_row ("thicknesses" ∷ []) 4 after_dimension carried
    ∷ field_row ("axis mins" ∷ "axismins" ∷ []) 1 after_dimension carried
    ∷ field_row ("axis maxs" ∷ "axismaxs" ∷ []) 1 after_dimension carried
    ∷ field_row ("centers" ∷ "centerings" ∷ []) 1 after_dimension understood
    ∷ field_row ("labels" ∷ []) 1 after_dimension understood
    ∷ field_row ("units" ∷ []) 1 after_dimension understood
    ∷ field_row ("kinds" ∷ []) 3 after_dimension understood
    ∷ []

-- how many fields there are
abbrev pub field_count : ℕ
field_count = length field_table

-- ---- what a row says

abbrev pub names_of : FieldRow → List String
names_of (field_row ns v b t) = ns

abbrev pub since_of : FieldRow → ℕ
since_of (field_row ns v b t) = v

-- a per-axis field comes after dimension
abbrev pub dimension_before : FieldRow → Bool
dimension_before (field_row ns v anywhere t) = false
dimension_before (field_row ns v after_dimension t) = true
dimension_before (field_row ns v after_space t) = false
dimension_before (field_row ns v after_both t) = true

-- a field that lies in a space comes after space or space dimension
abbrev pub space_before : FieldRow → Bool
space_before (field_row ns v anywhere t) = false
space_before (field_row ns v after_dimension t) = false
space_before (field_row ns v after_space t) = true
space_before (field_row ns v after_both t) = true

abbrev pub is_meant : FieldRow → Bool
is_meant (field_row ns v b understood) = true
is_meant (field_row ns v b carried) = false

-- ---- the fields by their numbers

-- the stand-in past the table
abbrev pub no_field : FieldRow
no_field = field_row [] 1 anywhere carried

-- the row of a number
unfoldable pub field_at : ℕ → FieldRow
field_at f = slice_index_or field_table f no_field

-- the field of a name, ignoring case, or none
abbrev pub field_named : List ℕ → Option ℕ
field_named name = row_of name (map names_of field_table)

-- the first version that has the field
abbrev pub field_since : ℕ → ℕ
field_since f = since_of (field_at f)

abbrev pub needs_dimension : ℕ → Bool
needs_dimension f = dimension_before (field_at f)

abbrev pub needs_space : ℕ → Bool
needs_space f = space_before (field_at f)

abbrev pub is_understood : ℕ → Bool
is_understood f = is_meant (field_at f)

-- ---- fields with a name here: each is the number of its row (specs/FindTrials.antt)

abbrev pub dimension : ℕ
dimension = 0

abbrev pub type : ℕ
type = 1

abbrev pub encoding : ℕ
encoding = 2

abbrev pub endian : ℕ
endian = 3

abbrev pub sizes : ℕ
sizes = 4

abbrev pub line_skip : ℕ
line_skip = 5

abbrev pub byte_skip : ℕ
byte_skip = 6

abbrev pub data_file : ℕ
data_file = 7

abbrev pub space : ℕ
space = 16

abbrev pub space_dimension : ℕ
space_dimension = 17

abbrev pub space_origin : ℕ
space_origin = 19

abbrev pub space_directions : ℕ
space_directions = 20

abbrev pub measurement_frame : ℕ
measurement_frame = 21

abbrev pub centers : ℕ
centers = 26

abbrev pub labels : ℕ
labels = 27

abbrev pub units : ℕ
units = 28

abbrev pub kinds : ℕ
kinds = 29

-- ---- versions

-- key pairs are there from version 2
abbrev pub pairs_since : ℕ
pairs_since = 2

-- data files by a pattern or under LIST are there from version 4 (W5)
abbrev pub many_files_since : ℕ
many_files_since = 4

-- ---- what the lines so far gave, the last one first

pub data Given : Type 0 where
  -- a field and its descriptor
  given : ℕ → List ℕ → Given
  -- a file's name under LIST (W5)
  named : List ℕ → Given

-- the descriptor of a field, if it is given
unfoldable pub descriptor_of : ℕ → List Given → Option (List ℕ)
descriptor_of f [] = none
descriptor_of f (given g d ∷ gs) = if f == g then some d else descriptor_of f gs
descriptor_of f (named t ∷ gs) = descriptor_of f gs

abbrev pub is_given : ℕ → List Given → Bool
is_given f gs = is_some (descriptor_of f gs)

-- the names under LIST, in their order
unfoldable pub file_names : List Given → List (List ℕ)
file_names [] = []
file_names (given f d ∷ gs) = file_names gs
file_names (named t ∷ gs) = file_names gs ++ (t ∷ [])

-- ---- repeated fields

-- space and space dimension say the same: each counts as the other (W2)
abbrev pub other_field : ℕ → ℕ
other_field f = if f == space then space_dimension else if f == space_dimension then space else f

-- the field is given already (refusal 9)
unfoldable pub is_repeated : ℕ → List Given → Bool
is_repeated f gs = is_given f gs || is_given (other_field f) gs

-- ---- order

-- the field may come here
unfoldable pub in_order : ℕ → List Given → Bool
in_order f gs = (not (needs_dimension f) || is_given dimension gs) && (not (needs_space f) || (is_given space gs || is_given space_dimension gs))
