-- Vectors (format, section 4; W2): round brackets with commas, and `none` for an axis without a direction.
-- Blanks part them outside of brackets; between brackets they may stand beside a component. They are spaces and tabs: a line with another blank is refused before (5).
use Rattle.std.specs.Prelude.{ℕ, Bool, true, false, not, ◌&&◌, List, [], ◌∷◌, ◌==◌, length, if◌then◌else◌}
use Rattle.std.proofs.Math.Option.{Option, none, some}
use Rattle.format.specs.declared.Decimal.{Decimal}
use Rattle.format.specs.Bytes.{bytes, space_or_tab, alike, onto, OPEN, CLOSE, COMMA}
use Rattle.format.specs.Words.{trim_front, trim_end, join_first, not_empty}
use Rattle.format.specs.Decimals.{component}

-- ---- what blanks outside of brackets part

-- a byte before the parts of what follows it: it parts, or is in front of the first
abbrev pub part_or_join : Bool → ℕ → List (List ℕ) → List (List ℕ)
part_or_join true b ws = [] ∷ ws
part_or_join false b ws = join_first b ws

-- whether what follows the byte b is inside of brackets
abbrev pub inside_after : Bool → ℕ → Bool
inside_after inside b = if b == OPEN then true else if b == CLOSE then false else inside

-- the parts, empty ones included
unfoldable pub parts_outside : Bool → List ℕ → List (List ℕ)
parts_outside inside [] = [] ∷ []
parts_outside inside (b ∷ s) = part_or_join (space_or_tab b && not inside) b (parts_outside (inside_after inside b) s)

unfoldable pub vector_words : List ℕ → List (List ℕ)
vector_words t = not_empty (parts_outside false t)

-- ---- a vector of n components

-- without the closing bracket at its end
unfoldable pub closed : List ℕ → Option (List ℕ)
closed [] = none
closed (b ∷ []) = if b == CLOSE then some [] else none
closed (b ∷ c ∷ s) = onto b (closed (c ∷ s))

-- what stands between an opening bracket at the front and a closing one at the end
abbrev pub enclosed : List ℕ → Option (List ℕ)
enclosed [] = none
enclosed (b ∷ s) = if b == OPEN then closed s else none

-- what commas part, empty parts included
unfoldable pub comma_parts : List ℕ → List (List ℕ)
comma_parts [] = [] ∷ []
comma_parts (b ∷ s) = part_or_join (b == COMMA) b (comma_parts s)

module _ {A : Type 0} where
  abbrev pub cons_said : Option A → Option (List A) → Option (List A)
  cons_said none o = none
  cons_said (some a) none = none
  cons_said (some a) (some as') = some (a ∷ as')

  -- what each of the texts says, or none where one of them says nothing
  unfoldable pub all_said : (List ℕ → Option A) → List (List ℕ) → Option (List A)
  all_said f [] = some []
  all_said f (w ∷ ws) = cons_said (f w) (all_said f ws)

  -- the same where there are n texts, and none where there are not
  unfoldable pub said_by : ℕ → (List ℕ → Option A) → List (List ℕ) → Option (List A)
  said_by n f ws = if length ws == n then all_said f ws else none

-- a component with the blanks beside it
abbrev pub component_in : List ℕ → Option Decimal
component_in p = component (trim_end (trim_front p))

abbrev pub components_in : ℕ → Option (List ℕ) → Option (List Decimal)
components_in n none = none
components_in n (some s) = said_by n component_in (comma_parts s)

unfoldable pub vector_said : ℕ → List ℕ → Option (List Decimal)
vector_said n w = components_in n (enclosed w)

-- ---- the direction of an axis: a vector, or none

pub data Direction : Type 0 where
  without : Direction
  along : List Decimal → Direction

abbrev pub along_said : Option (List Decimal) → Option Direction
along_said none = none
along_said (some ds) = some (along ds)

unfoldable pub direction_said : ℕ → List ℕ → Option Direction
direction_said n w = if alike w (bytes "none") then some without else along_said (vector_said n w)

-- ---- descriptors, in a space of n dimensions

-- k vectors: one for an origin, n for a measurement frame, whose column i is vector i
abbrev pub vectors_said : ℕ → ℕ → List ℕ → Option (List (List Decimal))
vectors_said k n t = said_by k (vector_said n) (vector_words t)

-- a direction for each of k axes
abbrev pub directions_said : ℕ → ℕ → List ℕ → Option (List Direction)
directions_said k n t = said_by k (direction_said n) (vector_words t)
