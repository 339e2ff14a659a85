-- Internal to this crate. The look-up of a key and of a field: a second pass over the lines of an accepted header, up to the names under LIST.
use Rattle.std.specs.Prelude.{ℕ, ◌+◌, ◌≤◌, ◌≡◌, Bool, false, List, ◌∷◌, ◌++◌, ◌==◌, length, drop, if◌then◌else◌}
use Rattle.std.proofs.Math.Option.{Option, none, some}
use Rattle.format.specs.declared.FindAnswer.{FindAnswer}
use Rattle.format.specs.Bytes.{is_some}
use Rattle.format.specs.Limits.{max_header}
use Rattle.format.specs.Lines.{Line, size, lines}
use Rattle.format.specs.Header.{Item, Entry, lines_of, value_in, header_length}
use Rattle.format.specs.Settings.{has_key}
use Rattle.format.specs.Calls.{value_place, key_place, find_key_call, field_place, find_field_call}
use Rattle.read_header.specs.Accepted.{Items}

-- the lines of a file from `at` on begin with those of `count` entries of its header, of which P holds
pub record Left (P : List Entry → Type 0) (file : List ℕ) (at count : ℕ) : Type 0 where
  pub entries : List Entry
  pub after : List Line
  pub split : lines (drop at file) ≡ lines_of entries ++ after
  pub items : Items entries
  pub short : at + header_length entries ≤ max_header
  pub many : length entries ≡ count
  pub holds : P entries

-- what a line has, or else what was found before it
abbrev pub latest_of : FindAnswer → FindAnswer → FindAnswer
latest_of before here = if here.found then here else before

-- the place of the key's value once a line that starts at `at` is passed: in that line, or else as it was before it
abbrev pub key_then : List ℕ → ℕ → Item → FindAnswer → FindAnswer
key_then k at i found = if is_some (value_in k i) then value_place at i else found

-- the same once all the entries are passed
abbrev pub key_else : List ℕ → ℕ → List Entry → FindAnswer → FindAnswer
key_else k at es found = if has_key k es then key_place k at es else found

-- the entries left of a header before the names: what they give, or else what was found before them, is the answer
abbrev pub KeyLeft : List ℕ → List ℕ → ℕ → ℕ → FindAnswer → Type 0
KeyLeft file k at count found = Left (λ es. find_key_call file k ≡ key_else k at es found) file at count

-- the entries left of a header before the names: what they give is the answer
abbrev pub FieldLeft : List ℕ → ℕ → ℕ → ℕ → Type 0
FieldLeft file f at count = Left (λ es. find_field_call file f ≡ field_place f at es) file at count

-- the field that a name means is f
abbrev pub is_field : ℕ → Option ℕ → Bool
is_field f none = false
is_field f (some g) = f == g

-- line 2 starts at `at`, where line 1 is within the limit
abbrev pub SecondAt : List ℕ → ℕ → Type 0
SecondAt file at = (l : Line) (ls : List Line) → lines file ≡ l ∷ ls → size l ≤ max_header → at ≡ size l
