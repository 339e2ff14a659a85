-- Internal to this crate. The parts of a listing: the lines of keys by the lines of the header, and all lines of a reading.
use Rattle.std.specs.Prelude.{ℕ, ◌+◌, ◌≤◌, Bool, false, ◌||◌, List, [], ◌∷◌, ◌++◌, length, take, drop, if◌then◌else◌}
use Rattle.std.proofs.Math.Option.{Option, none, some}
use Rattle.format.specs.declared.Reading.{Reading}
use Rattle.format.specs.Bytes.{same, EQUALS}
use Rattle.format.specs.Limits.{max_header}
use Rattle.format.specs.Lines.{Line, text, lines, unlines}
use Rattle.format.specs.Pairs.{kind_of, pair_texts}
use Rattle.format.specs.Listing.{shown}
use Rattle.listing_print.specs.Lines.{top_text, middle_text, end_text}

-- ---- the lines of keys, by the lines of a header

-- the texts of a line's key and value, if it is that of a pair
abbrev pub pair_in : List ℕ → Option (List ℕ × List ℕ)
pair_in t = pair_texts (kind_of t)

-- the line is that of a pair whose key has the text k
abbrev pub is_key : List ℕ → Option (List ℕ × List ℕ) → Bool
is_key k none = false
is_key k (some p) = same k p.0

-- one of the lines is
unfoldable pub is_later : List ℕ → List Line → Bool
is_later k [] = false
is_later k (l ∷ ls) = is_key k (pair_in (text l)) || is_later k ls

-- the texts of a key and its value
abbrev pub key_text : List ℕ → List ℕ → List ℕ
key_text k v = shown "key" (k ++ EQUALS ∷ v)

-- what a line of the header shows, by its pair and the lines after it
abbrev pub shown_texts : Option (List ℕ × List ℕ) → List Line → List ℕ
shown_texts none ls = []
shown_texts (some p) ls = if is_later p.0 ls then [] else key_text p.0 p.1

unfoldable pub shown_lines : List Line → List ℕ
shown_lines [] = []
shown_lines (l ∷ ls) = shown_texts (pair_in (text l)) ls ++ shown_lines ls

-- so many lines of a file from `at` on
abbrev pub lines_from : List ℕ → ℕ → ℕ → List Line
lines_from file at count = take count (lines (drop at file))

-- there are so many lines from a place of the file on, and they end within the limit of a header
pub record Within (file : List ℕ) (at count : ℕ) : Type 0 where
  pub inside : at ≤ length file
  pub there : count ≤ length (lines (drop at file))
  pub short : at + length (unlines (lines_from file at count)) ≤ max_header

-- ---- all lines of a reading; the data starts at `start`, and the keys are those of the lines before the names under LIST

unfoldable pub reading_text : List ℕ → Reading → ℕ → List ℕ
reading_text file x start =
    top_text x ++ (middle_text x ++ (end_text start x.extent ++ shown_lines (lines_from file 0 x.fieldlines)))
