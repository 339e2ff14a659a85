-- Trials of data file descriptors, names of files and shares (W5; format, section 3) by computation, as one list under one statement: `FilesTrials`.
use Rattle.std.specs.Prelude.{ℕ, zero, suc, true, false, List, [], ◌∷◌, ◌++◌, map, length}
use Prim.Native.String.{String}
use Rattle.std.proofs.Math.Option.{Option, none, some}
use Rattle.format.specs.Bytes.{bytes}
use Rattle.format.specs.DataFiles.{Pattern, pattern, pattern_of, Numbering, numbering, step_said, numbering_said, DataFile, one_file, numbered_files, listed_files, data_file_said, files_said, cover_said, last_numbered}
use Rattle.format.specs.FileNames.{name_said, share, share_file, share_byte}
use Rattle.format.specs.Trials.{Trial, trial, Hold}

-- ---- the three forms

-- what a descriptor says
abbrev pub says : String → Option DataFile → Trial
says t d = trial (Option DataFile) (data_file_said (bytes t)) d

-- the name of one file
abbrev pub one : String → Option DataFile
one t = some (one_file (bytes t))

-- names on the lines after it
abbrev pub list : Option ℕ → Option DataFile
list axes = some (listed_files axes)

-- `%d.raw 1 3 1`, and `I.%03d 1 3 1` with the number of axes
abbrev pub raws : Option DataFile
raws = some (numbered_files (pattern [] false 0 (bytes ".raw")) (numbering 1 false 1 3) none)

abbrev pub images : ℕ → Option DataFile
images axes = some (numbered_files (pattern (bytes "I.") true 3 []) (numbering 1 false 1 3) (some axes))

abbrev pub forms : List Trial
forms =
    says "a.raw" (one "a.raw")
    ∷ says "a 1 2 1" (one "a 1 2 1")
    ∷ says "" none
    -- LIST, in capitals, and before a space
    ∷ says "LIST" (list none)
    ∷ says "LIST 2" (list (some 2))
    ∷ says "LIST \t 02" (list (some 2))
    ∷ says "LIST 0" (list (some 0))
    ∷ says "LIST 99999999999999999999999" (list (some 99_999_999_999_999_999_999_999))
    ∷ says "LIST x" none
    ∷ says "LIST -1" none
    ∷ says "LIST +2" none
    ∷ says "LIST 1 2" none
    ∷ says "LIST %d 1 2 1" none
    ∷ says "LIST\t2" (one "LIST\t2")
    ∷ says "LISTs" (one "LISTs")
    ∷ says "list" (one "list")
    ∷ says "./LIST" (one "./LIST")
    -- section 3: patterns with their numbers
    ∷ says "%d.raw 1 3 1" raws
    ∷ says "%d.raw\t1  3 \t 1" raws
    ∷ says "I.%03d 1 3 1 2" (images 2)
    ∷ says "I.%03d 1 3 1 0" (images 0)
    ∷ says "I.%03d 1 3 1 4294967296" (images 4_294_967_296)
    -- too few words, and too many
    ∷ says "%d" none
    ∷ says "%d 1" none
    ∷ says "%d 1 2" none
    ∷ says "%d 1 2 1 2 3" none
    -- a wrong word
    ∷ says "%d 1 2 1 x" none
    ∷ says "%d 1 2 1 -1" none
    ∷ says "%d 1 2 - 1" none
    ∷ says "%d 1 2 0" none
    ∷ says "%d 1 2 1%" none
    ∷ says "1 %d 2 1" none
    ∷ says "100%" none
    -- a pattern has no blank
    ∷ says "a b%d 1 2 1" none
    ∷ says "LIST\t%d 1 2 1" none
    ∷ []

-- ---- patterns

-- what a pattern is
abbrev pub is : String → Option Pattern → Trial
is t p = trial (Option Pattern) (pattern_of (bytes t)) p

abbrev pub patterns : List Trial
patterns =
    is "%d.raw" (some (pattern [] false 0 (bytes ".raw")))
    ∷ is "I.%03d" (some (pattern (bytes "I.") true 3 []))
    ∷ is "%d" (some (pattern [] false 0 []))
    ∷ is "%3d" (some (pattern [] false 3 []))
    ∷ is "%03d" (some (pattern [] true 3 []))
    ∷ is "a%05dd.b" (some (pattern (bytes "a") true 5 (bytes "d.b")))
    ∷ is "%99d" (some (pattern [] false 99 []))
    ∷ is "%099d" (some (pattern [] true 99 []))
    -- a width is 1 to 99, without leading zeros
    ∷ is "%0d" none
    ∷ is "%00d" none
    ∷ is "%005d" none
    ∷ is "%100d" none
    ∷ is "%0100d" none
    -- no `d` where it has to be
    ∷ is "%" none
    ∷ is "%5" none
    ∷ is "%05" none
    ∷ is "100%" none
    ∷ is "%x" none
    ∷ is "%D" none
    ∷ is "%ld" none
    ∷ is "%-3d" none
    ∷ is "%+d" none
    -- one `%` and no other
    ∷ is "%d%d" none
    ∷ is "a%3db%" none
    ∷ is "%%d" none
    ∷ is "d" none
    ∷ []

-- ---- numbers

-- the numbers from a first to a last one, by a step
abbrev pub from : String → String → String → Option Numbering → Trial
from first last step k = trial (Option Numbering) (numbering_said (bytes first) (bytes last) (step_said (bytes step))) k

abbrev pub numberings : List Trial
numberings =
    from "1" "3" "1" (some (numbering 1 false 1 3))
    -- the last number need not be reached
    ∷ from "0" "10" "3" (some (numbering 0 false 3 4))
    ∷ from "0" "9" "3" (some (numbering 0 false 3 4))
    ∷ from "0" "8" "3" (some (numbering 0 false 3 3))
    ∷ from "10" "0" "-3" (some (numbering 10 true 3 4))
    ∷ from "9" "0" "-3" (some (numbering 9 true 3 4))
    ∷ from "8" "0" "-3" (some (numbering 8 true 3 3))
    ∷ from "5" "5" "1" (some (numbering 5 false 1 1))
    ∷ from "5" "5" "-9" (some (numbering 5 true 9 1))
    ∷ from "5" "0" "-9" (some (numbering 5 true 9 1))
    -- the first is past the last
    ∷ from "3" "1" "1" none
    ∷ from "1" "3" "-1" none
    -- leading zeros, and no sign but that of a negative step
    ∷ from "007" "0010" "01" (some (numbering 7 false 1 4))
    ∷ from "0010" "007" "-01" (some (numbering 10 true 1 4))
    ∷ from "1" "3" "+1" none
    ∷ from "3" "1" "--1" none
    ∷ from "3" "1" "-" none
    ∷ from "+1" "3" "1" none
    ∷ from "-1" "3" "1" none
    ∷ from "3" "-1" "-1" none
    ∷ from "-0" "3" "1" none
    ∷ from "1" "x" "1" none
    ∷ from "1" "3" "1.0" none
    -- no step
    ∷ from "0" "10" "0" none
    ∷ from "0" "10" "-0" none
    ∷ from "5" "5" "00" none
    -- the largest numbers
    ∷ from "0" "4294967295" "1" (some (numbering 0 false 1 4_294_967_296))
    ∷ from "4294967295" "0" "-1" (some (numbering 4_294_967_295 true 1 4_294_967_296))
    ∷ from "0" "4294967295" "4294967295" (some (numbering 0 false 4_294_967_295 2))
    ∷ from "4294967295" "4294967295" "-4294967295" (some (numbering 4_294_967_295 true 4_294_967_295 1))
    ∷ from "4294967296" "4294967296" "1" none
    ∷ from "0" "4294967296" "1" none
    ∷ from "0" "1" "4294967296" none
    ∷ from "1" "0" "-4294967296" none
    ∷ []

-- ---- names

-- what f gives for 0, 1, .. up to n - 1
unfoldable pub up_to {ℓ} : {A : Type ℓ} → (ℕ → A) → ℕ → List A
up_to f zero = []
up_to f (suc n) = up_to f n ++ f n ∷ []

-- the names of all its files, where these lines follow
abbrev pub all_names : Option DataFile → List (List ℕ) → List (List ℕ)
all_names d follow = up_to (name_said d follow) (files_said d (length follow))

abbrev pub names : String → List String → List String → Trial
names t follow ns = trial (List (List ℕ)) (all_names (data_file_said (bytes t)) (map bytes follow)) (map bytes ns)

-- the name of the n-th file of a pattern
abbrev pub named : String → ℕ → String → Trial
named t n name = trial (List ℕ) (name_said (data_file_said (bytes t)) [] n) (bytes name)

abbrev pub name_trials : List Trial
name_trials =
    names "%d.raw 1 3 1" [] ("1.raw" ∷ "2.raw" ∷ "3.raw" ∷ [])
    ∷ names "%d 0 10 3" [] ("0" ∷ "3" ∷ "6" ∷ "9" ∷ [])
    ∷ names "%d 10 0 -3" [] ("10" ∷ "7" ∷ "4" ∷ "1" ∷ [])
    ∷ names "%d 5 0 -9" [] ("5" ∷ [])
    -- padded by zeros, by spaces; never cut
    ∷ names "I.%03d 8 12 2" [] ("I.008" ∷ "I.010" ∷ "I.012" ∷ [])
    ∷ names "I.%3d 8 12 2" [] ("I.  8" ∷ "I. 10" ∷ "I. 12" ∷ [])
    ∷ names "a%02d.b 99 101 1" [] ("a99.b" ∷ "a100.b" ∷ "a101.b" ∷ [])
    ∷ names "a%2d.b 101 99 -1" [] ("a101.b" ∷ "a100.b" ∷ "a99.b" ∷ [])
    ∷ names "%1d 9 10 1" [] ("9" ∷ "10" ∷ [])
    ∷ named "%d 0 4294967295 1" 4_294_967_295 "4294967295"
    ∷ named "%05d 4294967295 0 -1" 4_294_967_295 "00000"
    ∷ named "%012d 4294967295 0 -4294967295" 0 "004294967295"
    -- names under LIST are whole lines
    ∷ names "LIST" (" a" ∷ "type: x" ∷ "# b\t" ∷ []) (" a" ∷ "type: x" ∷ "# b\t" ∷ [])
    ∷ names "LIST 1" [] []
    -- a single name; an attached header counts as one file with the empty name
    ∷ names "a b" [] ("a b" ∷ [])
    ∷ trial (List (List ℕ)) (all_names none []) ([] ∷ [])
    ∷ []

-- ---- counts, and the axes that one file covers

abbrev pub counted : String → ℕ → ℕ → Option (Option ℕ) → Trial
counted t files last covers =
    trial (ℕ × ℕ × Option (Option ℕ)) (files_said (data_file_said (bytes t)) 7, last_numbered (data_file_said (bytes t)), cover_said (data_file_said (bytes t))) (files, last, covers)

abbrev pub counts : List Trial
counts =
    counted "a.raw" 1 0 none
    ∷ counted "%d 0 4294967295 1" 4_294_967_296 4_294_967_295 (some none)
    ∷ counted "%d 5 5 1 3" 1 0 (some (some 3))
    ∷ counted "LIST" 7 0 (some none)
    ∷ counted "LIST 17" 7 0 (some (some 17))
    ∷ []

-- ---- shares

-- the file and the byte of each sample: so many samples of so many bytes in so many files
abbrev pub shared : ℕ → ℕ → ℕ → List (ℕ × ℕ) → Trial
shared samples w files places = trial (List (ℕ × ℕ)) (up_to (λ s. (share_file samples files s, share_byte samples files w s)) samples) places

abbrev pub shares : List Trial
shares =
    shared 6 2 3 ((0, 0) ∷ (0, 2) ∷ (1, 0) ∷ (1, 2) ∷ (2, 0) ∷ (2, 2) ∷ [])
    ∷ shared 6 4 2 ((0, 0) ∷ (0, 4) ∷ (0, 8) ∷ (1, 0) ∷ (1, 4) ∷ (1, 8) ∷ [])
    ∷ shared 4 1 4 ((0, 0) ∷ (1, 0) ∷ (2, 0) ∷ (3, 0) ∷ [])
    ∷ shared 4 8 1 ((0, 0) ∷ (0, 8) ∷ (0, 16) ∷ (0, 24) ∷ [])
    ∷ trial ℕ (share 4_294_967_295 65_537) 65_535
    ∷ []

-- THE STATEMENT
pub record FilesTrials : Type 0 where
  pub in_forms : Hold forms
  pub in_patterns : Hold patterns
  pub in_numbers : Hold numberings
  pub in_names : Hold name_trials
  pub in_counts : Hold counts
  pub in_shares : Hold shares
