-- Internal to the library. What the functions on a data file descriptor answer.
use Rattle.std.specs.Prelude.{ℕ, ◌+◌, ◌-◌, ◌≤◌, ◌<◌, min, ◌≡◌, Bool, true, false, List, [], length, take, drop}
use Rattle.std.specs.Prelude.{Option as Maybe}
use Rattle.std.specs.Prelude.{Some, None}
use Rattle.std.proofs.Math.Option.{Option, none, some}
use Rattle.format.specs.Bytes.{or_default}
use Rattle.format.specs.Limits.{max_axes, max_file_number, max_width}
use Rattle.format.specs.Words.{value_of_number, words}
use Rattle.format.specs.Decimals.{digits_of}
use Rattle.format.specs.DataFiles.{pattern, pattern_of, width_fine, after_percent, numbering, step_said, DataFile, one_file, numbered_files, listed_files, axes_said, pattern_said, count_numbered}
use Rattle.read_files.specs.declared.cover.Cover.{Cover}
use Rattle.read_files.specs.declared.cover.Cover.TheVariants.{Open, Axes}
use Rattle.read_files.specs.declared.names.Width.{Width}
use Rattle.read_files.specs.declared.names.Conversion.{Conversion}
use Rattle.read_files.specs.declared.names.Pattern.{Pattern as PatternAt}
use Rattle.read_files.specs.declared.numbers.Step.{Step}
use Rattle.read_files.specs.declared.numbers.Numbers.{Numbers}
use Rattle.read_files.specs.declared.NamePattern.{NamePattern}
use Rattle.read_files.specs.declared.Files.{Files}
use Rattle.read_files.specs.declared.Files.TheVariants.{One, Numbered, Listed}
use Rattle.read_files.specs.Parts.{part, rest_of, numbering_of, Reach}

-- ---- how many axes a file covers

-- left open, or a number, which is cut to one above the most axes
abbrev pub cover_told : Option ℕ → Cover
cover_told none = Open
cover_told (some c) = Axes (min c (max_axes + 1))

abbrev pub cover_answer : Option (Option ℕ) → Maybe Cover
cover_answer none = None
cover_answer (some axes) = Some (cover_told axes)

-- ---- a pattern

-- the width at the front of s
pub record WidthRead (zeros : Bool) (s : List ℕ) (r : Width) : Type 0 where
  pub fine : width_fine zeros (digits_of s) ≡ true
  pub value : r.value ≡ value_of_number (digits_of s)
  pub small : r.value ≤ max_width
  pub digits : r.length ≡ length (digits_of s)
  pub within : r.length ≤ length s

abbrev pub WidthIs : Bool → List ℕ → Maybe Width → Type 0
WidthIs zeros s None = width_fine zeros (digits_of s) ≡ false
WidthIs zeros s (Some r) = WidthRead zeros s r

-- what follows a `%`
pub record ConversionRead (s : List ℕ) (r : Conversion) : Type 0 where
  pub said : after_percent s ≡ some (pattern [] r.zeros r.width (drop r.length s))
  pub small : r.width ≤ max_width
  pub within : r.length ≤ length s

abbrev pub ConversionIs : List ℕ → Maybe Conversion → Type 0
ConversionIs s None = after_percent s ≡ none
ConversionIs s (Some r) = ConversionRead s r

-- a word as a pattern
pub record PatternRead (w : List ℕ) (r : PatternAt) : Type 0 where
  pub said : pattern_of w ≡ some (pattern (take r.percent w) r.zeros r.width (drop r.after w))
  pub small : r.width ≤ max_width
  pub apart : r.percent < r.after
  pub within : r.after ≤ length w

abbrev pub PatternIs : List ℕ → Maybe PatternAt → Type 0
PatternIs w None = pattern_of w ≡ none
PatternIs w (Some r) = PatternRead w r

-- ---- the numbers that go into it

-- a word as a step
pub record StepRead (w : List ℕ) (r : Step) : Type 0 where
  pub said : step_said w ≡ some (r.falls, r.size)
  pub bounded : r.size ≤ max_file_number

abbrev pub StepIs : List ℕ → Maybe Step → Type 0
StepIs w None = step_said w ≡ none
StepIs w (Some r) = StepRead w r

-- the first three words from the place `at` on as a numbering
pub record NumbersRead (t : List ℕ) (at : ℕ) (r : Numbers) : Type 0 where
  pub said : numbering_of (words (drop at t)) ≡ some (numbering r.first r.falls r.size (r.last + 1))
  pub rest : words (drop r.end t) ≡ rest_of (rest_of (rest_of (words (drop at t))))
  pub within : r.end ≤ length t
  pub first : r.first ≤ max_file_number
  pub size : r.size ≤ max_file_number
  pub reach : Reach r.first r.falls r.size r.last

abbrev pub NumbersAre : List ℕ → ℕ → Maybe Numbers → Type 0
NumbersAre t at None = numbering_of (words (drop at t)) ≡ none
NumbersAre t at (Some r) = NumbersRead t at r

-- ---- a pattern with its numbers

-- what is said, by the places of its parts in the descriptor; places in order, and numbers that do not overflow
pub record Named (t : List ℕ) (r : NamePattern) : Type 0 where
  pub axes : Option ℕ
  pub said : pattern_said (words t) ≡ some (numbered_files (pattern (part r.from r.percent t) r.zeros r.width (part r.after r.to t)) (numbering r.first r.falls r.size (r.last + 1)) axes)
  pub cover : r.cover ≡ cover_told axes
  pub before : r.from ≤ r.percent
  pub apart : r.percent < r.after
  pub rest : r.after ≤ r.to
  pub within : r.to ≤ length t
  pub width : r.width ≤ max_width
  pub first : r.first ≤ max_file_number
  pub size : r.size ≤ max_file_number
  pub reach : Reach r.first r.falls r.size r.last

abbrev pub NamedBy : List ℕ → Maybe NamePattern → Type 0
NamedBy t None = pattern_said (words t) ≡ none
NamedBy t (Some r) = Named t r

-- ---- any form

abbrev pub files_told : Option DataFile → Maybe Files
files_told none = None
files_told (some (one_file t)) = Some One
files_told (some (numbered_files p k axes)) = Some (Numbered (count_numbered k - 1) (cover_told axes))
files_told (some (listed_files axes)) = Some (Listed (cover_told axes))

-- the number of the last file of a pattern, counted from 0; 0 for the other forms
abbrev pub files_last : Files → ℕ
files_last One = 0
files_last (Numbered last cover) = last
files_last (Listed cover) = 0

abbrev pub files_listed : Files → Bool
files_listed One = false
files_listed (Numbered last cover) = false
files_listed (Listed cover) = true

abbrev pub files_cover : Files → Maybe Cover
files_cover One = None
files_cover (Numbered last cover) = Some cover
files_cover (Listed cover) = Some cover
