-- Internal to the library. What a data file descriptor says, in the numbers that the functions answer.
use Rattle.std.specs.Prelude.{ℕ, ◌+◌, ◌≤◌, ◌<◌, min, ◌≡◌, Bool, true, false, List, length, drop, if◌then◌else◌}
use Rattle.std.proofs.Math.Option.{Option, none, some}
use Rattle.format.specs.Bytes.{is_some, or_default}
use Rattle.format.specs.Limits.{max_axes, max_file_number, max_width}
use Rattle.format.specs.Words.{words}
use Rattle.format.specs.DataFiles.{Pattern, pattern, Numbering, numbering, DataFile, one_file, numbered_files, listed_files, axes_said, pattern_said, cover_said, last_numbered}
use Rattle.read_files.specs.declared.FilesSaid.{FilesSaid}
use Rattle.read_files.specs.declared.PatternSaid.{PatternSaid}
use Rattle.read_files.specs.Parts.{part, Reach}

-- ---- any form

-- the names follow on lines of their own
abbrev pub is_listed : Option DataFile → Bool
is_listed none = false
is_listed (some (one_file t)) = false
is_listed (some (numbered_files p k axes)) = false
is_listed (some (listed_files axes)) = true

-- how many axes one file covers, as one number: 0 where nothing holds it to a number, 1 where it is left open, and else the number and 2;
-- a number above the most axes is cut to one above it, since no array has so many
abbrev pub cover_code : Option (Option ℕ) → ℕ
cover_code none = 0
cover_code (some none) = 1
cover_code (some (some c)) = min c (max_axes + 1) + 2

-- what `said` answers
abbrev pub files_answer : Option DataFile → FilesSaid
files_answer o = record { fine = is_some o; list = is_listed o; last = last_numbered o; cover = cover_code (cover_said o) }

-- ---- a pattern with its numbers

-- the pattern, by the places of its parts in the descriptor
abbrev pub pattern_at : List ℕ → PatternSaid → Pattern
pattern_at t r = pattern (part r.from r.percent t) r.zeros r.width (part r.after r.to t)

abbrev pub numbering_at : PatternSaid → Numbering
numbering_at r = numbering r.first r.falls r.size (r.last + 1)

-- the number of axes, if one is said after the first four words
abbrev pub axes_at : List ℕ → Option ℕ
axes_at t = or_default none (axes_said (drop 4 (words t)))

-- what `pattern_said` answers: the pattern and its numbers; the same two numbers as `said`; places in order, and numbers that do not overflow
pub record PatternRead (t : List ℕ) (r : PatternSaid) : Type 0 where
  pub said : pattern_said (words t) ≡ (if r.fine then some (numbered_files (pattern_at t r) (numbering_at r) (axes_at t)) else none)
  pub last : r.last ≡ last_numbered (pattern_said (words t))
  pub cover : r.cover ≡ cover_code (cover_said (pattern_said (words t)))
  pub before : r.from ≤ r.percent
  pub between : r.percent ≤ r.after
  pub apart : r.fine ≡ true → r.percent < r.after
  pub rest : r.after ≤ r.to
  pub within : r.to ≤ length t
  pub width : r.width ≤ max_width
  pub first : r.first ≤ max_file_number
  pub size : r.size ≤ max_file_number
  pub reach : r.fine ≡ true → Reach r.first r.falls r.size r.last
