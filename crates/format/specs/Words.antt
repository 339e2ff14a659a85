-- Texts in a header: blanks left out at both ends, numbers, and what blanks part
-- (rules, "Lines and headers", point 5; "Understood fields").
use Rattle.std.specs.Prelude.{ℕ, ◌+◌, ◌-◌, ◌*◌, Bool, true, false, ◌&&◌, List, [], ◌∷◌, if◌then◌else◌}
use Rattle.std.proofs.Math.Option.{Option, none, some}
use Rattle.format.specs.Bytes.{between, space_or_tab, is_digit, is_empty, or_default}

-- ---- blanks at the ends

-- without the spaces and tabs at its front
unfoldable pub trim_front : List ℕ → List ℕ
trim_front [] = []
trim_front (b ∷ s) = if space_or_tab b then trim_front s else b ∷ s

-- a byte before a trimmed text: a space or tab stays only before something
abbrev pub trim_byte : ℕ → List ℕ → List ℕ
trim_byte b [] = if space_or_tab b then [] else b ∷ []
trim_byte b (c ∷ s) = b ∷ c ∷ s

-- without the spaces and tabs at its end
unfoldable pub trim_end : List ℕ → List ℕ
trim_end [] = []
trim_end (b ∷ s) = trim_byte b (trim_end s)

-- ---- numbers: digits without sign, leading zeros allowed

-- the number that the digits of the text write after those of n, or none where one is no digit
unfoldable pub digits_from : ℕ → List ℕ → Option ℕ
digits_from n [] = some n
digits_from n (b ∷ s) = if is_digit b then digits_from (n * 10 + (b - 48)) s else none

-- one digit or more
unfoldable pub number : List ℕ → Option ℕ
number [] = none
number (b ∷ s) = digits_from 0 (b ∷ s)

abbrev pub within : ℕ → ℕ → Option ℕ → Bool
within least most none = false
within least most (some n) = between least most n

abbrev pub number_in : ℕ → ℕ → List ℕ → Bool
number_in least most t = within least most (number t)

-- the value of a number, 0 where it is none
abbrev pub value_of_number : List ℕ → ℕ
value_of_number t = or_default 0 (number t)

-- ---- numbers parted by spaces or tabs

-- a byte in front of the first word
abbrev pub join_first : ℕ → List (List ℕ) → List (List ℕ)
join_first b [] = (b ∷ []) ∷ []
join_first b (w ∷ ws) = (b ∷ w) ∷ ws

-- what each space or tab parts, empty parts included
unfoldable pub parts : List ℕ → List (List ℕ)
parts [] = [] ∷ []
parts (b ∷ s) = if space_or_tab b then [] ∷ parts s else join_first b (parts s)

unfoldable pub not_empty : List (List ℕ) → List (List ℕ)
not_empty [] = []
not_empty (w ∷ ws) = if is_empty w then not_empty ws else w ∷ not_empty ws

abbrev pub words : List ℕ → List (List ℕ)
words t = not_empty (parts t)

unfoldable pub numbers_in : ℕ → ℕ → List (List ℕ) → Bool
numbers_in least most [] = true
numbers_in least most (w ∷ ws) = number_in least most w && numbers_in least most ws
