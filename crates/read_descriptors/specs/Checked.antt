-- Internal to the library. The answer of the checker of descriptors, and what it keeps.
use Rattle.std.specs.Prelude.{ℕ, ◌≡◌, Bool, false, not, ◌&&◌, ◌||◌, List, [], ◌∷◌, ◌==◌, nat_le, if◌then◌else◌, Option, Some, None}
use Rattle.format.specs.Limits.{max_axes}
use Rattle.format.specs.Fields.{dimension, type, encoding, endian, sizes, line_skip, byte_skip, data_file, space, space_dimension, space_origin, space_directions, measurement_frame}
use Rattle.format.specs.Descriptors.{is_from_end, byte_skip_said, may_describe, number_said, sizes_said}
use Rattle.format.specs.DataFiles.{data_file_said}
use Rattle.format.specs.Calls.{padded}
use Rattle.read_files.specs.declared.Files.{Files}
use Rattle.read_files.specs.Files.{files_told}
use Rattle.read_descriptors.specs.declared.check.Said.{Said}

-- what a field other than data file says: a number, and whether the data is found from the end
abbrev pub spoken : ℕ → Bool → Said
spoken n end = record { number = n; from_end = end; files = None }

-- the answer for such a field
abbrev pub found : Bool → ℕ → Bool → Option Said
found fine n end = if fine then Some (spoken n end) else None

-- whether the descriptor t of the field f is taken in a header of dimension n and a space of dimension m: no header has sizes of more axes than the largest dimension
abbrev pub takes : ℕ → ℕ → ℕ → List ℕ → Bool
takes n m f t = (not (sizes == f) || nat_le n max_axes) && may_describe n m f t

-- whether the field f says with t that the data is found from the end: a byte skip of -1
abbrev pub says_end : ℕ → List ℕ → Bool
says_end f t = byte_skip == f && is_from_end (byte_skip_said t)

-- the form of data files that the field f says with t, if it is data file
abbrev pub says_files : ℕ → List ℕ → Option Files
says_files f t = if data_file == f then files_told (data_file_said t) else None

-- what the field f says with t
abbrev pub said : ℕ → List ℕ → Said
said f t = record { number = number_said f t; from_end = says_end f t; files = says_files f t }

-- the answer for the descriptor t of the field f
abbrev pub answered : ℕ → ℕ → ℕ → List ℕ → Option Said
answered n m f t = if takes n m f t then Some (said f t) else None

-- the sizes kept once the field f has the descriptor t: of sizes those that it says, 0 past them, and otherwise those of before
abbrev pub sizes_kept : ℕ → List ℕ → List ℕ → List ℕ
sizes_kept f t ns = if sizes == f then padded (sizes_said t) else ns

-- the answer, and the sizes kept
abbrev pub checked : ℕ → ℕ → ℕ → List ℕ → List ℕ → Option Said × List ℕ
checked n m f t ns = (answered n m f t, if takes n m f t then sizes_kept f t ns else ns)

-- ---- fields that a match has no arm for

-- the arms of `check`, the last one first
abbrev pub asked : List ℕ
asked = data_file ∷ byte_skip ∷ line_skip ∷ sizes ∷ endian ∷ encoding ∷ type ∷ dimension ∷ []

-- the arms of `check_orientation`, the last one first
abbrev pub oriented : List ℕ
oriented = measurement_frame ∷ space_directions ∷ space_origin ∷ space_dimension ∷ space ∷ []

-- f is none of such fields, as the arm `_` of a match is told
abbrev pub NoneOf : ℕ → List ℕ → Type 0
NoneOf f [] = Unit
NoneOf f (g ∷ gs) = NoneOf f gs × (f ≡ g → ⊥)
