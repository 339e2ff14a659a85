-- Internal to the library. What the functions store, in the words of their contracts.
use Rattle.std.specs.Prelude.{ℕ, ◌+◌, ◌*◌, Bool, List, [], ◌∷◌, ◌==◌, if◌then◌else◌}
use Rattle.format.specs.Bytes.{bytes, MINUS}
use Rattle.format.specs.Decimals.{nan, inf, minus_inf}
use Rattle.format.specs.Writer.{decimal}

-- ---- parts of texts

-- a number of a size, with a minus or without
abbrev pub sized_text : Bool → ℕ → List ℕ
sized_text minus n = if minus then MINUS ∷ decimal n else decimal n

-- a component that is no number
abbrev pub mark_text : ℕ → List ℕ
mark_text k =
    if k == nan then bytes "nan"
    else if k == inf then bytes "inf"
    else if k == minus_inf then bytes "-inf"
    else bytes "none"

-- what stands before entry i of texts with a byte between each two
abbrev pub gap_text : ℕ → ℕ → List ℕ
gap_text b i = if i == 0 then [] else b ∷ []

-- ---- the most bytes that the texts take

-- 20 for the number, `e`, 11 for the power
abbrev pub component_room : ℕ
component_room = 32

-- 8 components and 7 commas
abbrev pub components_room : ℕ
components_room = 8 * component_room + 7

-- the same in brackets
abbrev pub vector_room : ℕ
vector_room = 2 + components_room

-- 16 vectors and 15 spaces
abbrev pub directions_room : ℕ
directions_room = 16 * vector_room + 15

-- 8 vectors and 7 spaces
abbrev pub frame_room : ℕ
frame_room = 8 * vector_room + 7

-- the longest name of a space
abbrev pub space_room : ℕ
space_room = 28
