-- What a data file descriptor says (W5; format, section 3; rules, "Understood fields", the last sentence).
-- It has one of three forms, told apart in this order: LIST, after which names stand on lines of their own; a pattern, which holds a `%`,
-- with the numbers that go into it; and else, if it is not empty, the name of one file. The text is a descriptor: no space or tab stands at its ends.
use Rattle.std.specs.Prelude.{ℕ, ◌+◌, ◌-◌, ◌/◌, Bool, true, false, not, ◌&&◌, ◌||◌, List, [], ◌∷◌, ◌==◌, nat_lt, drop, if◌then◌else◌}
use Rattle.std.proofs.Math.Option.{Option, none, some}
use Rattle.format.specs.Bytes.{bytes, same, begins_with, is_in, is_empty, PERCENT, MINUS}
use Rattle.format.specs.Limits.{max_file_number, max_width}
use Rattle.format.specs.Words.{number, number_in, value_of_number, words}
use Rattle.format.specs.Decimals.{digits_of, after_digits}

-- ---- the forms

-- `LIST` in capitals, or it begins with `LIST ` (with a tab in place of the space it is not this form)
abbrev pub is_list : List ℕ → Bool
is_list t = same t (bytes "LIST") || begins_with (bytes "LIST ") t

-- it holds a `%`
abbrev pub has_percent : List ℕ → Bool
has_percent t = is_in PERCENT t

-- LIST or a pattern: the two forms that are there from version 4, also where it is a bad one
abbrev pub is_many_form : List ℕ → Bool
is_many_form t = is_list t || has_percent t

-- ---- a pattern

-- what stands before its `%`; whether numbers are padded by zeros (true) or by spaces; the width that they are padded to; what stands after its `d`. For `%d` these are spaces and the width 0.
pub data Pattern : Type 0 where
  pattern : List ℕ → Bool → ℕ → List ℕ → Pattern

-- the digits of a width: 1 to 99 without a leading zero (48 is `0`); none at all only where no zero stands before them
abbrev pub width_fine : Bool → List ℕ → Bool
width_fine zeros [] = not zeros
width_fine zeros (b ∷ w) = not (b == 48) && number_in 1 max_width (b ∷ w)

-- the digits w of a width, and what follows them: `d` (100), and a rest without a `%`
abbrev pub after_width : Bool → List ℕ → List ℕ → Option Pattern
after_width zeros w [] = none
after_width zeros w (b ∷ s) =
    if b == 100 && (width_fine zeros w && not (has_percent s)) then some (pattern [] zeros (value_of_number w) s) else none

-- what follows the `%`: `d`, `Nd` or `0Nd`
abbrev pub after_percent : List ℕ → Option Pattern
after_percent [] = none
after_percent (b ∷ s) =
    if b == 48 then after_width true (digits_of s) (after_digits s) else after_width false (digits_of (b ∷ s)) (after_digits (b ∷ s))

-- a byte more before the `%`
abbrev pub byte_before : ℕ → Option Pattern → Option Pattern
byte_before b none = none
byte_before b (some (pattern p zeros width s)) = some (pattern (b ∷ p) zeros width s)

-- the pattern that a word is, if it has one `%` and that is of one of the three kinds
unfoldable pub pattern_of : List ℕ → Option Pattern
pattern_of [] = none
pattern_of (b ∷ s) = if b == PERCENT then after_percent s else byte_before b (pattern_of s)

-- ---- the numbers that go into a pattern

-- the first of them, whether they fall, by how much each differs from the one before it, and how many there are
pub data Numbering : Type 0 where
  numbering : ℕ → Bool → ℕ → ℕ → Numbering

-- how many of low, low + size, low + 2 × size .. are at most high, for a size of at least 1
abbrev pub count_up : ℕ → ℕ → ℕ → ℕ
count_up low high size = if nat_lt high low then 0 else (high - low) / size + 1

-- from the first to the last of them: falling numbers are as many as rising ones from the last to the first would be, though not always the same ones
abbrev pub count_numbers : Bool → ℕ → ℕ → ℕ → ℕ
count_numbers false first last size = count_up first last size
count_numbers true first last size = count_up last first size

-- none where there is no number: no file (refusal 11)
abbrev pub with_some : ℕ → Bool → ℕ → ℕ → Option Numbering
with_some first falls size count = if count == 0 then none else some (numbering first falls size count)

-- the size of a step, 1 to the largest
abbrev pub sized : Bool → List ℕ → Option (Bool × ℕ)
sized falls t = if number_in 1 max_file_number t then some (falls, value_of_number t) else none

-- a step: whether a `-` stands before its size; `+` is not taken, and 0 is no size
abbrev pub step_said : List ℕ → Option (Bool × ℕ)
step_said [] = none
step_said (b ∷ t) = if b == MINUS then sized true t else sized false (b ∷ t)

-- by the words for the first number and the last one, and the step
abbrev pub numbering_said : List ℕ → List ℕ → Option (Bool × ℕ) → Option Numbering
numbering_said first last none = none
numbering_said first last (some (falls, size)) =
    if number_in 0 max_file_number first && number_in 0 max_file_number last then
    with_some (value_of_number first) falls size (count_numbers falls (value_of_number first) (value_of_number last) size)
    else none

-- ---- a data file descriptor

-- one file of this name; files by a pattern and its numbers; or files named on the lines after it. The last two say of how many axes one file holds the samples, or leave it open.
pub data DataFile : Type 0 where
  one_file : List ℕ → DataFile
  numbered_files : Pattern → Numbering → Option ℕ → DataFile
  listed_files : Option ℕ → DataFile

-- a number of axes, of any size
abbrev pub axes_number : Option ℕ → Option (Option ℕ)
axes_number none = none
axes_number (some n) = some (some n)

-- the words after those of the form: no word, or one that is such a number; whether it is 1 to the dimension is told at the header's end (`files_fine`)
abbrev pub axes_said : List (List ℕ) → Option (Option ℕ)
axes_said [] = some none
axes_said (w ∷ []) = axes_number (number w)
axes_said (w ∷ v ∷ ws) = none

abbrev pub listed : Option (Option ℕ) → Option DataFile
listed none = none
listed (some axes) = some (listed_files axes)

abbrev pub numbered : Option Pattern → Option Numbering → Option (Option ℕ) → Option DataFile
numbered none k axes = none
numbered (some p) none axes = none
numbered (some p) (some k) none = none
numbered (some p) (some k) (some axes) = some (numbered_files p k axes)

-- pattern, first, last, step, and a number of axes or none
abbrev pub pattern_said : List (List ℕ) → Option DataFile
pattern_said [] = none
pattern_said (p ∷ []) = none
pattern_said (p ∷ first ∷ []) = none
pattern_said (p ∷ first ∷ last ∷ []) = none
pattern_said (p ∷ first ∷ last ∷ step ∷ more) = numbered (pattern_of p) (numbering_said first last (step_said step)) (axes_said more)

-- THE MEANING of a data file descriptor, or none where it is a bad one (refusal 11)
unfoldable pub data_file_said : List ℕ → Option DataFile
data_file_said t =
    if is_list t then listed (axes_said (words (drop 4 t)))
    else if has_percent t then pattern_said (words t)
    else if is_empty t then none
    else some (one_file t)

-- ---- what it means for the number of files

abbrev pub count_numbered : Numbering → ℕ
count_numbered (numbering first falls size count) = count

-- how many files there are, where so many names follow; a header without a data file is attached and counts as one file
abbrev pub files_said : Option DataFile → ℕ → ℕ
files_said none names = 1
files_said (some (one_file t)) names = 1
files_said (some (numbered_files p k axes)) names = count_numbered k
files_said (some (listed_files axes)) names = names

-- how many axes one file covers: none for a single name and for an attached header, which are held to no rule; else the number, if it is said
abbrev pub cover_said : Option DataFile → Option (Option ℕ)
cover_said none = none
cover_said (some (one_file t)) = none
cover_said (some (numbered_files p k axes)) = some axes
cover_said (some (listed_files axes)) = some axes

-- the place of a pattern's last file, counted from 0; 0 where the form is no pattern, also for LIST, where it says nothing
abbrev pub last_numbered : Option DataFile → ℕ
last_numbered none = 0
last_numbered (some (one_file t)) = 0
last_numbered (some (numbered_files p k axes)) = count_numbered k - 1
last_numbered (some (listed_files axes)) = 0
