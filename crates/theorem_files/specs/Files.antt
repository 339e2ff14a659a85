-- Data in several files (W5; format, section 3), as one statement about the definitions alone: `FilesHold`. The shares of the files are all samples,
-- each sample in one place, for every accepted header; a word is taken as a pattern exactly where it writes one; the numbers of a pattern are those that section 3 says, no more and no fewer; and the files of a pattern have different names.
use Rattle.std.specs.Prelude.{ℕ, ◌+◌, ◌*◌, ◌%◌, ◌≤◌, ◌<◌, max, ◌≡◌, Bool, true, false, List, [], ◌∷◌, ◌++◌, ◌==◌, length, slice_index_or, if◌then◌else◌}
use Rattle.std.proofs.Math.Option.{Option, some}
use Rattle.format.specs.declared.ShareAnswer.{ShareAnswer}
use Rattle.format.specs.Limits.{max_file_number, max_width}
use Rattle.format.specs.Refusals.{fine}
use Rattle.format.specs.Lines.{Line}
use Rattle.format.specs.Bytes.{over, PERCENT}
use Rattle.format.specs.Fields.{Given, descriptor_of, file_names, data_file}
use Rattle.format.specs.Descriptors.{type_of, sample_bytes, data_file_of, file_count_of}
use Rattle.format.specs.Header.{Entry, accepted, header}
use Rattle.format.specs.Calls.{count_of}
use Rattle.format.specs.Files.{file_count_call, file_name_of, file_name_call, sample_file_call}
use Rattle.format.specs.Words.{trim_front, number, words}
use Rattle.format.specs.Decimals.{is_minus}
use Rattle.format.specs.Writer.{decimal}
use Rattle.format.specs.DataFiles.{has_percent, Pattern, pattern, pattern_of, Numbering, numbering, step_said, numbering_said, numbered_files, listed_files, data_file_said, count_numbered, files_said}
use Rattle.format.specs.FileNames.{number_text, pattern_name, number_at, name_said, share, share_file, share_byte}

-- ---- shares

-- of so many samples, of w bytes each, in so many files
pub record SharesTile (samples files w : ℕ) : Type 0 where
  -- the shares together are all samples
  pub whole : files * share samples files ≡ samples
  -- a sample is in one of the files, all its bytes within the share
  pub in_files : (s : ℕ) → s < samples → share_file samples files s < files
  pub in_share : (s : ℕ) → s < samples → share_byte samples files w s + w ≤ share samples files * w
  -- different samples are in different places
  pub apart : (s r : ℕ) → share_file samples files s ≡ share_file samples files r → share_byte samples files w s ≡ share_byte samples files w r → s ≡ r
  -- every place has a sample: the p-th of file j, both counted from 0
  pub filled : (j p : ℕ) → j < files → p < share samples files → (s : ℕ) × (s ≡ j * share samples files + p) × (s < samples) × (share_file samples files s ≡ j) × (share_byte samples files w s ≡ p * w)

-- ---- a pattern as it is written

-- the digits of a width, none for 0
abbrev pub width_text : ℕ → List ℕ
width_text width = if width == 0 then [] else decimal width

-- `%`, then `0` (48) where numbers are padded by zeros, the digits of the width, and `d` (100)
abbrev pub conversion_text : Bool → ℕ → List ℕ
conversion_text zeros width = PERCENT ∷ ((if zeros then 48 ∷ [] else []) ++ (width_text width ++ (100 ∷ [])))

-- the word writes the pattern: what stands before its `%`, whether numbers are padded by zeros, their width, and what stands after its `d`
pub record PatternWord (word before : List ℕ) (zeros : Bool) (width : ℕ) (after : List ℕ) : Type 0 where
  pub text_is : word ≡ before ++ (conversion_text zeros width ++ after)
  -- no other `%` is in it
  pub none_before : has_percent before ≡ false
  pub none_after : has_percent after ≡ false
  -- the width is in its range, and is given where a zero stands before it
  pub width_small : width ≤ max_width
  pub width_given : zeros ≡ true → 1 ≤ width

-- ---- the numbers of a pattern

-- b is d further than a, where numbers fall (true) or rise
abbrev pub Further : Bool → ℕ → ℕ → ℕ → Type 0
Further false d a b = b ≡ a + d
Further true d a b = a ≡ b + d

-- a is not past b
abbrev pub NotPast : Bool → ℕ → ℕ → Type 0
NotPast false a b = a ≤ b
NotPast true a b = b ≤ a

-- by the words for the first number and the last one, and the step
pub record NumbersRun (first last step : List ℕ) (k : Numbering) : Type 0 where
  -- what the words say, each in its range
  pub f : ℕ
  pub l : ℕ
  pub falls : Bool
  pub size : ℕ
  pub first_is : (number first ≡ some f) × (f ≤ max_file_number)
  pub last_is : (number last ≡ some l) × (l ≤ max_file_number)
  pub step_is : (step_said step ≡ some (falls, size)) × (1 ≤ size) × (size ≤ max_file_number)
  -- they fall exactly where a `-` stands before the step's size
  pub falls_is : falls ≡ is_minus step
  -- there is at least one number
  pub not_none : 1 ≤ count_numbered k
  -- the n-th, counted from 0, is n steps further than the first, so each is one step further than the one before it, and none is past the last
  pub each : (n : ℕ) → n < count_numbered k → Further falls (n * size) f (number_at k n) × NotPast falls (number_at k n) l
  -- there are no more: a number that is n steps further than the first and not past the last is the n-th
  pub all : (n a : ℕ) → Further falls (n * size) f a → NotPast falls a l → n < count_numbered k
  -- no two are the same
  pub apart : (n m : ℕ) → n < count_numbered k → m < count_numbered k → number_at k n ≡ number_at k m → n ≡ m

-- ---- the files of a pattern

-- by the descriptor t, which says this pattern and these numbers
pub record PatternFiles (t : List ℕ) (p : Pattern) (k : Numbering) : Type 0 where
  -- its words: the pattern, the first number, the last one, the step, and what follows them
  pub word : List ℕ
  pub first : List ℕ
  pub last : List ℕ
  pub step : List ℕ
  pub more : List (List ℕ)
  pub words_are : words t ≡ word ∷ first ∷ last ∷ step ∷ more
  pub pattern_is : pattern_of word ≡ some p
  pub numbers_are : numbering_said first last (step_said step) ≡ some k
  -- the numbers, each between the first and the last
  pub run : NumbersRun first last step k
  -- there are as many files as numbers, each named by its number
  pub as_many : (names : ℕ) → files_said (data_file_said t) names ≡ count_numbered k
  pub named : (names : List (List ℕ)) (n : ℕ) → name_said (data_file_said t) names n ≡ pattern_name p (number_at k n)
  -- no two names are the same
  pub apart : (n m : ℕ) → n < count_numbered k → m < count_numbered k → pattern_name p (number_at k n) ≡ pattern_name p (number_at k m) → n ≡ m

-- ---- an accepted header

-- the answer for a sample names a file, and a byte of its share from which all bytes of the sample are in it; `each` is the number of samples of a share
pub record Placed (files w each : ℕ) (a : ShareAnswer) : Type 0 where
  pub not_refused : a.refusal ≡ fine
  pub in_files : a.file < files
  pub in_share : a.byte + w ≤ each * w

-- what holds of the files by the pattern p and the numbers k, which the data file of a header that gives gs says
pub record FilesByPattern (gs : List Given) (p : Pattern) (k : Numbering) : Type 0 where
  -- its descriptor, and what holds of the pattern and the numbers by it
  pub descriptor : List ℕ
  pub given : descriptor_of data_file gs ≡ some descriptor
  pub files : PatternFiles descriptor p k
  -- the files are as many as the numbers, and each has the name of its number
  pub as_many : file_count_of gs ≡ count_numbered k
  pub named : (n : ℕ) → file_name_of gs n ≡ pattern_name p (number_at k n)

-- what holds of the data by the header of the file f, which gives gs
pub record HeaderFiles (f : List ℕ) (gs : List Given) : Type 0 where
  -- there is at least one file, the call tells how many, and their shares are all samples
  pub some_file : 1 ≤ file_count_of gs
  pub told : file_count_call f ≡ record { refusal = fine; count = file_count_of gs }
  pub tiled : SharesTile (count_of gs) (file_count_of gs) (sample_bytes (type_of gs))
  -- the call finds every sample in one of them, and no two samples in the same place
  pub placed : (s : ℕ) → s < count_of gs → Placed (file_count_of gs) (sample_bytes (type_of gs)) (share (count_of gs) (file_count_of gs)) (sample_file_call f s)
  pub apart : (s r : ℕ) → s < count_of gs → r < count_of gs → sample_file_call f s ≡ sample_file_call f r → s ≡ r
  -- the call stores the name of every file in a lent buffer that is long enough for it
  pub named : (n : ℕ) (out : List ℕ) → n < file_count_of gs → length (file_name_of gs n) ≤ length out
      → file_name_call f n out ≡ (record { refusal = fine; length = length (file_name_of gs n) }, over (file_name_of gs n) out)
  -- files by a pattern are as many as its numbers, and each has the name of its number
  pub by_pattern : (p : Pattern) (k : Numbering) (axes : Option ℕ) → data_file_of gs ≡ some (numbered_files p k axes) → FilesByPattern gs p k
  -- names under LIST are the files, in their order
  pub by_names : (axes : Option ℕ) → data_file_of gs ≡ some (listed_files axes)
      → (file_count_of gs ≡ length (file_names gs)) × ((n : ℕ) → file_name_of gs n ≡ slice_index_or (file_names gs) n [])

-- THE STATEMENT
pub record FilesHold : Type 0 where
  -- where the number of files divides that of the samples, and so is not 0
  pub shares : (samples files w : ℕ) → 1 ≤ samples → samples % files ≡ 0 → 1 ≤ w → SharesTile samples files w
  -- a word is taken as a pattern exactly where it writes it
  pub patterns : (word before : List ℕ) (zeros : Bool) (width : ℕ) (after : List ℕ) → pattern_of word ≡ some (pattern before zeros width after) → PatternWord word before zeros width after
  pub patterns_taken : (word before : List ℕ) (zeros : Bool) (width : ℕ) (after : List ℕ) → PatternWord word before zeros width after → pattern_of word ≡ some (pattern before zeros width after)
  pub numbers : (first last step : List ℕ) (k : Numbering) → numbering_said first last (step_said step) ≡ some k → NumbersRun first last step k
  -- numbers and a step in their ranges are refused only where the first number is past the last
  pub numbers_taken : (first last step : List ℕ) (f l size : ℕ) (falls : Bool) → number first ≡ some f → f ≤ max_file_number → number last ≡ some l → l ≤ max_file_number → step_said step ≡ some (falls, size) → NotPast falls f l
      → (count : ℕ) × (numbering_said first last (step_said step) ≡ some (numbering f falls size count))
  -- a number in a name is as long as the width, or as its digits where they are more, and reads as the number, without the spaces before it
  pub number_long : (zeros : Bool) (width n : ℕ) → length (number_text zeros width n) ≡ max width (length (decimal n))
  pub number_read : (zeros : Bool) (width n : ℕ) → number (trim_front (number_text zeros width n)) ≡ some n
  pub headers : (f : List ℕ) {es : List Entry} {gs : List Given} {r : List Line} → header f ≡ accepted es gs r → HeaderFiles f gs
  pub pattern_files : (t : List ℕ) (p : Pattern) (k : Numbering) (axes : Option ℕ) → data_file_said t ≡ some (numbered_files p k axes) → PatternFiles t p k
