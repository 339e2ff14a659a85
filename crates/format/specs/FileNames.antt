-- The names of data files, and the shares of the samples in them (W5; format, section 3).
use Rattle.std.specs.Prelude.{ℕ, ◌+◌, ◌-◌, ◌*◌, ◌/◌, ◌%◌, Bool, true, false, List, [], ◌∷◌, ◌++◌, length, slice_index_or, replicate, if◌then◌else◌}
use Rattle.std.proofs.Math.Option.{Option, none, some}
use Rattle.format.specs.Bytes.{SPACE}
use Rattle.format.specs.DataFiles.{Pattern, pattern, Numbering, numbering, DataFile, one_file, numbered_files, listed_files}
use Rattle.format.specs.Writer.{decimal}

-- ---- names

-- padded on the left to a width, and never cut
abbrev pub padded_to : ℕ → ℕ → List ℕ → List ℕ
padded_to width pad t = replicate (width - length t) pad ++ t

-- a number in a pattern: padded by zeros (true) or spaces
abbrev pub number_text : Bool → ℕ → ℕ → List ℕ
number_text zeros width n = padded_to width (if zeros then 48 else SPACE) (decimal n)

-- the name that a pattern makes of a number
abbrev pub pattern_name : Pattern → ℕ → List ℕ
pattern_name (pattern before zeros width after) n = before ++ (number_text zeros width n ++ after)

-- the n-th number, counted from 0: the first and n steps
abbrev pub number_at : Numbering → ℕ → ℕ
number_at (numbering first false size count) n = first + n * size
number_at (numbering first true size count) n = first - n * size

-- the name of the n-th file, counted from 0, where these names follow, for an n below the number of files: that of an attached header, which has no data file, is empty
unfoldable pub name_said : Option DataFile → List (List ℕ) → ℕ → List ℕ
name_said none names n = []
name_said (some (one_file t)) names n = t
name_said (some (numbered_files p k axes)) names n = pattern_name p (number_at k n)
name_said (some (listed_files axes)) names n = slice_index_or names n []

-- ---- shares: of so many samples each of so many files has equally many

abbrev pub share : ℕ → ℕ → ℕ
share samples files = samples / files

-- the file that sample s is in, counted from 0
abbrev pub share_file : ℕ → ℕ → ℕ → ℕ
share_file samples files s = s / share samples files

-- the raw byte of that file's share where the sample starts, with samples of w bytes; skips do not count
abbrev pub share_byte : ℕ → ℕ → ℕ → ℕ → ℕ
share_byte samples files w s = (s % share samples files) * w
