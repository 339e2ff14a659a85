-- Strings in double quotes, as labels and units have them (format, section 6; W6): one for each axis, parted by spaces and tabs.
-- A quote right after a backslash is inside of its string, also where that backslash follows another. The text is what stands between the quotes, backslashes kept.
-- No other blank than these is in such a line: one with another is refused before (5).
use Rattle.std.specs.Prelude.{ℕ, ◌+◌, Bool, false, not, ◌&&◌, List, [], ◌∷◌, ◌==◌, length, if◌then◌else◌}
use Rattle.std.proofs.Math.Option.{Option, none, some}
use Rattle.format.specs.Bytes.{space_or_tab, QUOTE, BACKSLASH}

-- a string: how many bytes of the descriptor stand before its text, and its text
pub data Quoted : Type 0 where
  quoted : ℕ → List ℕ → Quoted

abbrev pub start_of : Quoted → ℕ
start_of (quoted at w) = at

abbrev pub text_of : Quoted → List ℕ
text_of (quoted at w) = w

-- what stands for a string that is not there
abbrev pub no_string : Quoted
no_string = quoted 0 []

-- where a byte of a descriptor stands
pub data Stands : Type 0 where
  -- at its front or after a blank: a string may begin here
  apart : Stands
  -- right after a closing quote
  closed : Stands
  -- in a string; whether a backslash stands right before it
  inside : Bool → Stands

-- the string that closes at a place of the descriptor, before the strings after it: nothing of its text is left there, and that of an empty one starts there
abbrev pub closes : ℕ → Option (List Quoted) → Option (List Quoted)
closes at none = none
closes at (some qs) = some (quoted at [] ∷ qs)

-- the byte c at a place of the descriptor, before the rest of its string, which is the first of what follows
abbrev pub joins : ℕ → ℕ → Option (List Quoted) → Option (List Quoted)
joins at c none = none
joins at c (some []) = none
joins at c (some (quoted k w ∷ qs)) = some (quoted at (c ∷ w) ∷ qs)

-- the strings of what follows a place of the descriptor, first the rest of one that is open there; none where a quote stays open,
-- where something stands beside a string, or where no blank parts two of them
unfoldable pub strings_from : Stands → ℕ → List ℕ → Option (List Quoted)
strings_from apart at [] = some []
strings_from apart at (c ∷ s) =
    if space_or_tab c then strings_from apart (at + 1) s
    else if c == QUOTE then strings_from (inside false) (at + 1) s
    else none
strings_from closed at [] = some []
strings_from closed at (c ∷ s) = if space_or_tab c then strings_from apart (at + 1) s else none
strings_from (inside b) at [] = none
strings_from (inside b) at (c ∷ s) =
    if c == QUOTE && not b then closes at (strings_from closed (at + 1) s)
    else joins at c (strings_from (inside (c == BACKSLASH)) (at + 1) s)

abbrev pub as_many : ℕ → Option (List Quoted) → Option (List Quoted)
as_many n none = none
as_many n (some qs) = if length qs == n then some qs else none

-- the strings of a descriptor, where they are n
unfoldable pub strings_said : ℕ → List ℕ → Option (List Quoted)
strings_said n t = as_many n (strings_from apart 0 t)
