-- The starred trials (rules, "Trials"), as one list under one statement: `StarredTrials`.
-- Each trial is what a call answers, beside what the rules say that it answers; proofs/ computes them all.
use Rattle.std.specs.Prelude.{ℕ, zero, suc, ◌+◌, ◌-◌, ◌≡◌, true, false, List, [], ◌∷◌, ◌++◌, ℤ, pos, negsuc, replicate}
use Prim.Native.String.{String}
use Rattle.format.specs.declared.Refusal.{Refusal}
use Rattle.format.specs.declared.Reading.{Reading}
use Rattle.format.specs.declared.ReadAnswer.{ReadAnswer}
use Rattle.format.specs.declared.ValueAnswer.{ValueAnswer}
use Rattle.format.specs.declared.DataAnswer.{DataAnswer}
use Rattle.format.specs.declared.CountAnswer.{CountAnswer}
use Rattle.format.specs.declared.NumberAnswer.{NumberAnswer}
use Rattle.format.specs.declared.SetAnswer.{SetAnswer}
use Rattle.format.specs.Bytes.{bytes, LF, HASH}
use Rattle.format.specs.Limits.{max_header, max_lines}
use Rattle.format.specs.Refusals.{at_line, refusal, fine}
use Rattle.format.specs.Calls.{read_header_call, read_call, copy_value_call, data_place_call, data_call, samples_call, sample_number_call, set_key_call}

-- two values that are to be equal
pub data Trial : Type 1 where
  trial : (A : Type 0) → A → A → Trial

-- every trial of a list comes out as it should
abbrev pub Hold : List Trial → Type 0
Hold [] = Unit
Hold (trial A is should ∷ ts) = (is ≡ should) × Hold ts

-- ---- files

-- quoted lines, each with LF
unfoldable pub texts : List String → List ℕ
texts [] = []
texts (s ∷ ss) = bytes s ++ LF ∷ texts ss

-- S from its second line on, with this as its last pair
abbrev pub lines_s : String → List ℕ
lines_s pair =
    texts
    ("# sweep"
    ∷ "type: uint16"
    ∷ "dimension: 2"
    ∷ "sizes: 2 2"
    ∷ "encoding: raw"
    ∷ "endian: little"
    ∷ "utc offset:=36"
    ∷ pair
    ∷ ""
    ∷ [])

-- the data of S but for its last byte
abbrev pub data_s : List ℕ
data_s = 1 ∷ 0 ∷ 2 ∷ 0 ∷ 0 ∷ 1 ∷ 255 ∷ []

-- file S up to its last byte, by its first line and its last pair
abbrev pub most_of_s : String → String → List ℕ
most_of_s first pair = texts (first ∷ []) ++ (lines_s pair ++ data_s)

-- the whole of it
abbrev pub whole_s : String → String → List ℕ
whole_s first pair = most_of_s first pair ++ 255 ∷ []

abbrev pub file_s : List ℕ
file_s = whole_s "NRRD0004" "utc offset:=37"

-- S without its last byte
abbrev pub short_s : List ℕ
short_s = most_of_s "NRRD0004" "utc offset:=37"

abbrev pub table_s : List ℕ
table_s = 0 ∷ 9 ∷ 17 ∷ 30 ∷ 43 ∷ 54 ∷ 68 ∷ 83 ∷ 98 ∷ 113 ∷ []

abbrev pub reading_s : Reading
reading_s =
    record {
      version = 4;
      form = 0;
      dimension = 2;
      sampletype = 3;
      encoding = 0;
      endian = 0;
      sizes = 2 ∷ 2 ∷ replicate 14 0;
      lineskip = 0;
      byteskip = 0;
      extent = 8;
      length = 114;
      lines = 10;
      fromend = false;
      origin = false;
      directions = false;
      frame = false;
      space = 12;
      spacedimension = 0;
      files = 1;
      fieldlines = 10;
    }

-- ---- calls

-- the reading and the table, of a lent one of 12 entries 7
abbrev pub read : List ℕ → ReadAnswer × List ℕ
read file = read_call file (replicate 12 7)

abbrev pub refusal_of : List ℕ → Refusal
refusal_of file = (read_header_call file).refusal

-- the extent of uint8 samples with these sizes
abbrev pub extent_of : String → Refusal × ℕ
extent_of sizes =
    let a = read_header_call (texts ("NRRD0001" ∷ "type: uint8" ∷ "dimension: 2" ∷ sizes ∷ "encoding: raw" ∷ "" ∷ [])) in
    (a.refusal, a.reading.extent)

-- the samples, in a lent list of 5 entries 7
abbrev pub samples : List ℕ → CountAnswer × List ℤ
samples file = samples_call file [] (replicate 5 (pos 7))

abbrev pub counted : ℕ → CountAnswer
counted n = record { refusal = fine; count = n }

-- one sample of a type, in an encoding
abbrev pub sample_of : String → String → List ℕ → CountAnswer × List ℤ
sample_of type encoding content =
    samples (texts ("NRRD0001" ∷ type ∷ "dimension: 1" ∷ "sizes: 1" ∷ encoding ∷ "endian: big" ∷ "" ∷ []) ++ content)

-- the setting of a key in S: new length and count, buffer and table; lent are 8 bytes 9 and 2 entries 7 more than S uses
abbrev pub set_in_s : String → String → SetAnswer × (List ℕ × List ℕ)
set_in_s k v = set_key_call (file_s ++ replicate 8 9) 122 (table_s ++ replicate 2 7) 10 (bytes k) (bytes v)

-- ---- the trials, by the rules' numbers

abbrev pub starred_trials : List Trial
starred_trials =
    -- 1: S; its table, its last value of the key, its data and its samples
    trial (ReadAnswer × List ℕ) (read file_s) (record { refusal = fine; reading = reading_s }, table_s ++ 7 ∷ 7 ∷ [])
    ∷ trial (ValueAnswer × List ℕ) (copy_value_call file_s (bytes "utc offset") (0 ∷ 0 ∷ 0 ∷ [])) (record { refusal = fine; found = true; length = 2 }, bytes "37" ++ 0 ∷ [])
    ∷ trial DataAnswer (data_place_call file_s []) (record { refusal = fine; second = false; start = 114; length = 8 })
    ∷ trial (List ℕ) (data_call file_s []) (data_s ++ 255 ∷ [])
    ∷ trial (CountAnswer × List ℤ) (samples file_s) (counted 4, pos 1 ∷ pos 2 ∷ pos 256 ∷ pos 65535 ∷ pos 7 ∷ [])
    -- one more byte at the end: the same answers; one fewer: 18
    ∷ trial (ReadAnswer × List ℕ) (read (file_s ++ 0 ∷ [])) (read file_s)
    ∷ trial DataAnswer (data_place_call (file_s ++ 0 ∷ []) []) (data_place_call file_s [])
    ∷ trial (List ℕ) (data_call (file_s ++ 0 ∷ []) []) (data_call file_s [])
    ∷ trial (CountAnswer × List ℤ) (samples (file_s ++ 0 ∷ [])) (samples file_s)
    ∷ trial Refusal (data_place_call short_s []).refusal (refusal 18)
    ∷ trial (List ℕ) (data_call short_s []) []
    ∷ trial (CountAnswer × List ℤ) (samples short_s) (record { refusal = refusal 18; count = 0 }, replicate 5 (pos 7))
    -- 2: S with `utc offset` set to 5, one byte shorter
    ∷ trial (SetAnswer × (List ℕ × List ℕ)) (set_in_s "utc offset" "5") (
      record { refusal = fine; length = 121; count = 10 },
      (
        whole_s "NRRD0004" "utc offset:=5" ++ 0 ∷ replicate 8 9,
        0 ∷ 9 ∷ 17 ∷ 30 ∷ 43 ∷ 54 ∷ 68 ∷ 83 ∷ 98 ∷ 112 ∷ 7 ∷ 7 ∷ [],
      ),
    )
    -- S with `rig` set to 7: its line starts at 9, and the data at 121
    ∷ trial (SetAnswer × (List ℕ × List ℕ)) (set_in_s "rig" "7") (
      record { refusal = fine; length = 129; count = 11 },
      (
        texts ("NRRD0004" ∷ "rig:=7" ∷ []) ++ (lines_s "utc offset:=37" ++ (data_s ++ 255 ∷ 9 ∷ [])),
        0 ∷ 9 ∷ 16 ∷ 24 ∷ 37 ∷ 50 ∷ 61 ∷ 75 ∷ 90 ∷ 105 ∷ 120 ∷ 7 ∷ [],
      ),
    )
    ∷ trial DataAnswer (data_place_call (texts ("NRRD0004" ∷ "rig:=7" ∷ []) ++ (lines_s "utc offset:=37" ++ (data_s ++ 255 ∷ []))) [])
    (record { refusal = fine; second = false; start = 121; length = 8 })
    -- 3
    ∷ trial Refusal (refusal_of (whole_s "NRRD0001" "utc offset:=37")) (at_line 8 8)
    ∷ trial Refusal (refusal_of []) (at_line 2 1)
    ∷ trial Refusal (refusal_of (texts ("NRRD0001" ∷ "dimension:2" ∷ []))) (at_line 6 2)
    ∷ trial Refusal (refusal_of (texts ("NRRD0001" ∷ "sizes: 2 2" ∷ "dimension: 2" ∷ []))) (at_line 10 2)
    -- 4
    ∷ trial (Refusal × ℕ) (extent_of "sizes: 65535 65537") (fine, 4_294_967_295)
    ∷ trial (Refusal × ℕ) (extent_of "sizes: 65536 65536") (refusal 15, 0)
    -- 5
    ∷ trial (CountAnswer × List ℤ) (sample_of "type: int16" "encoding: raw" (255 ∷ 254 ∷ [])) (counted 1, negsuc 1 ∷ replicate 4 (pos 7))
    ∷ trial (CountAnswer × List ℤ) (sample_of "type: int8" "encoding: raw" (128 ∷ [])) (counted 1, negsuc 127 ∷ replicate 4 (pos 7))
    ∷ trial (CountAnswer × List ℤ) (sample_of "type: int8" "encoding: text" (bytes "-129")) (record { refusal = refusal 20; count = 0 }, replicate 5 (pos 7))
    -- 6
    ∷ trial NumberAnswer
    (sample_number_call (texts ("NRRD0001" ∷ "type: uint8" ∷ "dimension: 3" ∷ "sizes: 4 3 2" ∷ "encoding: raw" ∷ "" ∷ [])) (1 ∷ 2 ∷ 1 ∷ []))
    (record { refusal = fine; number = 21 })
    ∷ []

-- all of them
abbrev pub StarredTrials : Type 0
StarredTrials = Hold starred_trials

-- ---- the limits of a header, from both sides (trial 7, and refusal 4)

-- five lines, 56 bytes in all, that need only be closed, then these bytes, then the closing line
abbrev pub header_with : List ℕ → List ℕ
header_with s = texts ("NRRD0001" ∷ "type: int8" ∷ "dimension: 1" ∷ "sizes: 1" ∷ "encoding: raw" ∷ []) ++ (s ++ LF ∷ [])

-- a comment of n bytes and LF
abbrev pub comment : ℕ → List ℕ
comment n = replicate n HASH ++ LF ∷ []

-- n comments of one byte and LF
abbrev pub comments : ℕ → List ℕ
comments zero = []
comments (suc n) = HASH ∷ LF ∷ comments n

pub record AtLimits : Type 0 where
  -- 56 bytes, the comment with its LF, and the LF of the closing line: as many as a header may have
  pub bytes_taken : refusal_of (header_with (comment (max_header - 58))) ≡ fine
  -- the closing line ends a byte later
  pub bytes_refused : refusal_of (header_with (comment (max_header - 57))) ≡ at_line 3 7
  -- five lines, the comments and the closing line: as many as a header may have
  pub lines_taken : refusal_of (header_with (comments (max_lines - 6))) ≡ fine
  -- the closing line is one too many
  pub lines_refused : refusal_of (header_with (comments (max_lines - 5))) ≡ at_line 4 (max_lines + 1)
