-- The spaces that a header may name, and their dimensions (format, section 4; W2).
-- A space is a number from 0: its row in the table. Names and abbreviations ignore case (rules, "Understood fields").
use Rattle.std.specs.Prelude.{ℕ, List, [], ◌∷◌, map, length, slice_index_or}
use Prim.Native.String.{String}
use Rattle.std.proofs.Math.Option.{Option}
use Rattle.format.specs.Bytes.{row_of}
pub use Rattle.format.specs.Limits.{max_space}

-- a space: its names, the full one first, and its dimension
pub data Space : Type 0 where
  space_row : List String → ℕ → Space

abbrev pub spaces : List Space
spaces =
    space_row ("right-anterior-superior" ∷ "RAS" ∷ []) 3
    ∷ space_row ("left-anterior-superior" ∷ "LAS" ∷ []) 3
    ∷ space_row ("left-posterior-superior" ∷ "LPS" ∷ []) 3
    ∷ space_row ("right-anterior-superior-time" ∷ "RAST" ∷ []) 4
    ∷ space_row ("left-anterior-superior-time" ∷ "LAST" ∷ []) 4
    ∷ space_row ("left-posterior-superior-time" ∷ "LPST" ∷ []) 4
    ∷ space_row ("scanner-xyz" ∷ []) 3
    ∷ space_row ("scanner-xyz-time" ∷ []) 4
    ∷ space_row ("3D-right-handed" ∷ []) 3
    ∷ space_row ("3D-left-handed" ∷ []) 3
    ∷ space_row ("3D-right-handed-time" ∷ []) 4
    ∷ space_row ("3D-left-handed-time" ∷ []) 4
    ∷ []

-- how many there are
abbrev pub space_count : ℕ
space_count = length spaces

abbrev pub space_names : Space → List String
space_names (space_row ns n) = ns

abbrev pub space_axes : Space → ℕ
space_axes (space_row ns n) = n

-- the space of a number, and a stand-in past the list
unfoldable pub space_at : ℕ → Space
space_at i = slice_index_or spaces i (space_row [] 0)

-- its dimension
abbrev pub space_size : ℕ → ℕ
space_size i = space_axes (space_at i)

-- the number of the space with this name or abbreviation
abbrev pub space_named : List ℕ → Option ℕ
space_named w = row_of w (map space_names spaces)
