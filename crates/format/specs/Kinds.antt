-- The centring and the kind of an axis (format, section 6; W6): words that ignore case. A record has the number of a word's row: 0 is unknown.
use Rattle.std.specs.Prelude.{ℕ, List, [], ◌∷◌}
use Prim.Native.String.{String}
use Rattle.std.proofs.Math.Option.{Option}
use Rattle.format.specs.Bytes.{row_of}
use Rattle.format.specs.Words.{words}
use Rattle.format.specs.Vectors.{said_by}

-- request W6 lists these itself: `none` is not one of them
abbrev pub centring_words : List (List String)
centring_words = ("???" ∷ []) ∷ ("cell" ∷ []) ∷ ("node" ∷ []) ∷ []

-- in the order of section 6, after its last row, which stands for unknown
abbrev pub kind_words : List (List String)
kind_words =
    ("???" ∷ "none" ∷ [])
    ∷ ("domain" ∷ [])
    ∷ ("space" ∷ [])
    ∷ ("time" ∷ [])
    ∷ ("list" ∷ [])
    ∷ ("point" ∷ [])
    ∷ ("vector" ∷ [])
    ∷ ("covariant-vector" ∷ [])
    ∷ ("normal" ∷ [])
    ∷ ("stub" ∷ [])
    ∷ ("scalar" ∷ [])
    ∷ ("complex" ∷ [])
    ∷ ("2-vector" ∷ [])
    ∷ ("3-color" ∷ [])
    ∷ ("RGB-color" ∷ [])
    ∷ ("HSV-color" ∷ [])
    ∷ ("XYZ-color" ∷ [])
    ∷ ("4-color" ∷ [])
    ∷ ("RGBA-color" ∷ [])
    ∷ ("3-vector" ∷ [])
    ∷ ("3-gradient" ∷ [])
    ∷ ("3-normal" ∷ [])
    ∷ ("4-vector" ∷ [])
    ∷ ("quaternion" ∷ [])
    ∷ ("2D-symmetric-matrix" ∷ [])
    ∷ ("2D-masked-symmetric-matrix" ∷ [])
    ∷ ("2D-matrix" ∷ [])
    ∷ ("2D-masked-matrix" ∷ [])
    ∷ ("3D-symmetric-matrix" ∷ [])
    ∷ ("3D-masked-symmetric-matrix" ∷ [])
    ∷ ("3D-matrix" ∷ [])
    ∷ ("3D-masked-matrix" ∷ [])
    ∷ []

unfoldable pub centring_named : List ℕ → Option ℕ
centring_named w = row_of w centring_words

unfoldable pub kind_named : List ℕ → Option ℕ
kind_named w = row_of w kind_words

-- ---- descriptors: a word for each of n axes, parted by spaces or tabs

abbrev pub centrings_said : ℕ → List ℕ → Option (List ℕ)
centrings_said n t = said_by n centring_named (words t)

-- the axis size that section 6 asks of a kind is not looked at
abbrev pub kinds_said : ℕ → List ℕ → Option (List ℕ)
kinds_said n t = said_by n kind_named (words t)
