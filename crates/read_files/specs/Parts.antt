-- Internal to the library. The answers of the functions on the words of a data file descriptor.
use Rattle.std.specs.Prelude.{ℕ, ◌+◌, ◌-◌, ◌*◌, ◌≤◌, ◌<◌, ◌≡◌, Bool, true, false, not, ◌&&◌, List, [], ◌∷◌, ◌==◌, length, take, drop, if◌then◌else◌}
use Rattle.std.proofs.Math.Option.{Option, none, some}
use Rattle.format.specs.Limits.{max_file_number, max_width}
use Rattle.format.specs.Words.{number_in, value_of_number, words}
use Rattle.format.specs.Decimals.{digits_of}
use Rattle.format.specs.DataFiles.{has_percent, pattern, pattern_of, width_fine, after_percent, Numbering, numbering, step_said, numbering_said}
use Rattle.read_text.specs.declared.numbers.Place.{Place}
use Rattle.read_files.specs.declared.pattern.Width.{Width}
use Rattle.read_files.specs.declared.pattern.Conversion.{Conversion}
use Rattle.read_files.specs.declared.pattern.Pattern.{Pattern as PatternAt}
use Rattle.read_files.specs.declared.numbering.NumberAt.{NumberAt}
use Rattle.read_files.specs.declared.numbering.Step.{Step}
use Rattle.read_files.specs.declared.numbering.Numbers.{Numbers}

-- ---- texts and words

-- the first byte is b
abbrev pub begins : ℕ → List ℕ → Bool
begins b [] = false
begins b (c ∷ s) = c == b

-- the part of t from one place to another
abbrev pub part : ℕ → ℕ → List ℕ → List ℕ
part from to t = take (to - from) (drop from t)

-- the first word, which is empty where there is none, and the words after it
abbrev pub first_of : List (List ℕ) → List ℕ
first_of [] = []
first_of (w ∷ ws) = w

abbrev pub rest_of : List (List ℕ) → List (List ℕ)
rest_of [] = []
rest_of (w ∷ ws) = ws

-- the first word from the place `at` on: where it stands
pub record Next (t : List ℕ) (at : ℕ) (r : Place) : Type 0 where
  pub ordered : r.from ≤ r.to
  pub within : r.to ≤ length t
  pub list : words (drop at t) ≡ (if r.from == r.to then [] else part r.from r.to t ∷ words (drop r.to t))
  pub word : part r.from r.to t ≡ first_of (words (drop at t))
  pub rest : words (drop r.to t) ≡ rest_of (words (drop at t))

-- ---- a pattern

-- the width at the front of s
pub record WidthRead (zeros : Bool) (s : List ℕ) (r : Width) : Type 0 where
  pub fine : r.fine ≡ width_fine zeros (digits_of s)
  pub value : r.fine ≡ true → r.value ≡ value_of_number (digits_of s)
  pub small : r.value ≤ max_width
  pub digits : r.length ≡ length (digits_of s)
  pub within : r.length ≤ length s

-- what may follow the width: `d`, and a rest without a `%`
abbrev pub is_rest : List ℕ → Bool
is_rest s = begins 100 s && not (has_percent (drop 1 s))

-- what follows a `%`
pub record ConversionRead (s : List ℕ) (r : Conversion) : Type 0 where
  pub said : after_percent s ≡ (if r.fine then some (pattern [] r.zeros r.width (drop r.length s)) else none)
  pub small : r.width ≤ max_width
  pub within : r.length ≤ length s

-- a word as a pattern
pub record WordRead (w : List ℕ) (r : PatternAt) : Type 0 where
  pub said : pattern_of w ≡ (if r.fine then some (pattern (take r.percent w) r.zeros r.width (drop r.after w)) else none)
  pub small : r.width ≤ max_width
  pub ordered : r.percent ≤ r.after
  pub apart : r.fine ≡ true → r.percent < r.after
  pub within : r.after ≤ length w

-- ---- the numbers that go into it

-- the first word from the place `at` on as a number
pub record NumberRead (t : List ℕ) (at : ℕ) (r : NumberAt) : Type 0 where
  pub fine : r.fine ≡ number_in 0 max_file_number (first_of (words (drop at t)))
  pub value : r.fine ≡ true → r.value ≡ value_of_number (first_of (words (drop at t)))
  pub bounded : r.value ≤ max_file_number
  pub rest : words (drop r.end t) ≡ rest_of (words (drop at t))
  pub within : r.end ≤ length t

-- a step by its sign and its size, which is 0 where there is none
abbrev pub step_of : Bool → ℕ → Option (Bool × ℕ)
step_of falls size = if size == 0 then none else some (falls, size)

-- the first word from the place `at` on as a step
pub record StepRead (t : List ℕ) (at : ℕ) (r : Step) : Type 0 where
  pub said : step_said (first_of (words (drop at t))) ≡ step_of r.falls r.size
  pub bounded : r.size ≤ max_file_number
  pub rest : words (drop r.end t) ≡ rest_of (words (drop at t))
  pub within : r.end ≤ length t

-- the numbering that the first three of the words say
abbrev pub numbering_of : List (List ℕ) → Option Numbering
numbering_of ws = numbering_said (first_of ws) (first_of (rest_of ws)) (step_said (first_of (rest_of (rest_of ws))))

-- the last of so many numbers is not below 0, and not above the largest
abbrev pub Reach : ℕ → Bool → ℕ → ℕ → Type 0
Reach first true size last = last * size ≤ first
Reach first false size last = first + last * size ≤ max_file_number

-- the first three words from the place `at` on as a numbering
pub record NumberingRead (t : List ℕ) (at : ℕ) (r : Numbers) : Type 0 where
  pub said : numbering_of (words (drop at t)) ≡ (if r.fine then some (numbering r.first r.falls r.size (r.last + 1)) else none)
  pub rest : r.fine ≡ true → words (drop r.end t) ≡ rest_of (rest_of (rest_of (words (drop at t))))
  pub within : r.end ≤ length t
  pub first : r.first ≤ max_file_number
  pub size : r.size ≤ max_file_number
  pub reach : r.fine ≡ true → Reach r.first r.falls r.size r.last
