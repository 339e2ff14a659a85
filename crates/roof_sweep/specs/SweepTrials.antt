-- Trials of the call for a sweep (W4) by computation, as one list under one statement: `SweepTrials`.
use Rattle.std.specs.Prelude.{ℕ, true, false, List, [], ◌∷◌, ◌++◌, ℤ, pos, replicate}
use Prim.Native.String.{String}
use Rattle.roof_sweep.specs.declared.SweepAnswer.{SweepAnswer}
use Rattle.format.specs.declared.Refusal.{Refusal}
use Rattle.format.specs.Bytes.{LF}
use Rattle.format.specs.Refusals.{at_line, refusal, fine}
use Rattle.format.specs.Trials.{Trial, trial, Hold, texts}
use Rattle.roof_sweep.specs.Sweeps.{sweep_call, sweep_entry}

-- ---- files

-- a file in text: its magic, type, dimension and sizes, further lines of its header, and its samples
abbrev pub text_file : String → String → String → String → List String → List String → List ℕ
text_file magic type dimension sizes more content =
    texts (magic ∷ type ∷ dimension ∷ sizes ∷ "encoding: text" ∷ []) ++ (texts more ++ LF ∷ texts content)

-- a sweep with the offset 37, of these sizes and samples
abbrev pub sweep_of : String → List String → List ℕ
sweep_of sizes content = text_file "NRRD0004" "type: uint32" "dimension: 2" sizes ("utc offset:=37" ∷ []) content

-- one of three rows with these stamps; the second sample of a row, 8 or 9, is no stamp
abbrev pub three_rows : String → String → String → List ℕ
three_rows a b c = sweep_of "sizes: 2 3" (a ∷ "8" ∷ b ∷ "9" ∷ c ∷ "8" ∷ [])

-- a file of the one row 8, 9, with these pairs
abbrev pub with_pairs : List String → List ℕ
with_pairs pairs = text_file "NRRD0004" "type: uint32" "dimension: 2" "sizes: 2 1" pairs ("8 9" ∷ [])

-- a file of the samples 8, 9 and with the offset 37, of this type, dimension and sizes
abbrev pub like : String → String → String → List ℕ
like type dimension sizes = text_file "NRRD0004" type dimension sizes ("utc offset:=37" ∷ []) ("8 9" ∷ [])

-- a file of two axes without the key, of this type, these sizes and these samples
abbrev pub keyless : String → String → String → List ℕ
keyless type sizes content = text_file "NRRD0004" type "dimension: 2" sizes [] (content ∷ [])

-- a sweep of two rows of one sample with the offset 37, in this encoding and endian
abbrev pub two_rows : String → String → List ℕ → List ℕ
two_rows encoding endian content =
    texts ("NRRD0004" ∷ "type: uint32" ∷ "dimension: 2" ∷ "sizes: 1 2" ∷ encoding ∷ endian ∷ "utc offset:=37" ∷ "" ∷ []) ++ content

-- ---- answers

abbrev pub Swept : Type 0
Swept = SweepAnswer × List ℤ

-- the call on a list of 7 entries 5
abbrev pub swept : List ℕ → ℕ → Swept
swept file largest = sweep_call file (replicate 7 (pos 5)) largest

-- no row has a wrong step
abbrev pub none_wrong : ℕ → SweepAnswer
none_wrong offset = record { refusal = fine; offset = offset; wrong = false; row = 0 }

-- this row is the first with a wrong step, in a file with the offset 37
abbrev pub wrong_at : ℕ → SweepAnswer
wrong_at row = record { refusal = fine; offset = 37; wrong = true; row = row }

-- the list with the samples of `three_rows`
abbrev pub filled_by : ℕ → ℕ → ℕ → List ℤ
filled_by a b c = pos a ∷ pos 8 ∷ pos b ∷ pos 9 ∷ pos c ∷ pos 8 ∷ pos 5 ∷ []

-- the answer to the one row 8, 9 with this offset
abbrev pub one_row : ℕ → Swept
one_row offset = (none_wrong offset, pos 8 ∷ pos 9 ∷ replicate 5 (pos 5))

-- a refusal, and all else zero
abbrev pub refused_by : Refusal → SweepAnswer
refused_by r = record { refusal = r; offset = 0; wrong = false; row = 0 }

-- refused, and the list as it was
abbrev pub unswept : Refusal → Swept
unswept r = (refused_by r, replicate 7 (pos 5))

-- ---- the trials

abbrev pub step_trials : List Trial
step_trials =
    -- around the wrap: steps of 1, then of 2 and 3, where the largest is 2 and where it is 3
    trial Swept (swept (three_rows "4294967295" "0" "1") 1) (none_wrong 37, filled_by 4294967295 0 1)
    ∷ trial Swept (swept (three_rows "4294967293" "4294967295" "2") 2) (wrong_at 2, filled_by 4294967293 4294967295 2)
    ∷ trial Swept (swept (three_rows "4294967293" "4294967295" "2") 3) (none_wrong 37, filled_by 4294967293 4294967295 2)
    -- a step of 0; of two wrong steps the first; only the last step is wrong; a step back by 1 is one of 4,294,967,295
    ∷ trial Swept (swept (three_rows "5" "5" "6") 9) (wrong_at 1, filled_by 5 5 6)
    ∷ trial Swept (swept (three_rows "5" "15" "15") 9) (wrong_at 1, filled_by 5 15 15)
    ∷ trial Swept (swept (three_rows "5" "6" "16") 9) (wrong_at 2, filled_by 5 6 16)
    ∷ trial Swept (swept (three_rows "5" "4" "5") 2147483647) (wrong_at 1, filled_by 5 4 5)
    -- the least and the greatest number that the largest step may be, each with a step past it
    ∷ trial Swept (swept (three_rows "5" "6" "8") 1) (wrong_at 2, filled_by 5 6 8)
    ∷ trial Swept (swept (three_rows "5" "2147483652" "3") 2147483647) (none_wrong 37, filled_by 5 2147483652 3)
    ∷ trial Swept (swept (three_rows "5" "2147483653" "6") 2147483647) (wrong_at 1, filled_by 5 2147483653 6)
    -- one less and one more; one that would be 1 if it were cut to 32 bits
    ∷ trial Swept (swept (three_rows "5" "6" "7") 0) (unswept (refusal 28))
    ∷ trial Swept (swept (three_rows "5" "6" "7") 2147483648) (unswept (refusal 28))
    ∷ trial Swept (swept (three_rows "5" "6" "7") 4294967297) (unswept (refusal 28))
    -- one row has no step; rows of one sample; rows are as long as the first size: were it the second, the stamps would be 1, 2 and 3
    ∷ trial Swept (swept (sweep_of "sizes: 2 1" ("8 9" ∷ [])) 1) (one_row 37)
    ∷ trial Swept (swept (sweep_of "sizes: 1 3" ("1 2 4" ∷ [])) 1) (wrong_at 2, pos 1 ∷ pos 2 ∷ pos 4 ∷ replicate 4 (pos 5))
    ∷ trial Swept (swept (sweep_of "sizes: 3 2" ("1 5 2 9 3 5" ∷ [])) 7) (wrong_at 1, pos 1 ∷ pos 5 ∷ pos 2 ∷ pos 9 ∷ pos 3 ∷ pos 5 ∷ pos 5 ∷ [])
    ∷ []

abbrev pub offset_trials : List Trial
offset_trials =
    -- 0, and 255 with zeros in front
    trial Swept (swept (with_pairs ("utc offset:=0" ∷ [])) 1) (one_row 0)
    ∷ trial Swept (swept (with_pairs ("utc offset:=0000000000000000000000255" ∷ [])) 1) (one_row 255)
    -- of two pairs the last counts, whatever the first says
    ∷ trial Swept (swept (with_pairs ("utc offset:=36" ∷ "utc offset:=37" ∷ [])) 1) (one_row 37)
    ∷ trial Swept (swept (with_pairs ("utc offset:=x" ∷ "utc offset:=37" ∷ [])) 1) (one_row 37)
    ∷ trial Swept (swept (with_pairs ("utc offset:=37" ∷ "utc offset:=x" ∷ [])) 1) (unswept (refusal 28))
    -- no pair; another key
    ∷ trial Swept (swept (with_pairs []) 1) (unswept (refusal 28))
    ∷ trial Swept (swept (with_pairs ("UTC offset:=37" ∷ [])) 1) (unswept (refusal 28))
    -- no digit; digits with a sign, a space or an escape beside them
    ∷ trial Swept (swept (with_pairs ("utc offset:=" ∷ [])) 1) (unswept (refusal 28))
    ∷ trial Swept (swept (with_pairs ("utc offset:=+37" ∷ [])) 1) (unswept (refusal 28))
    ∷ trial Swept (swept (with_pairs ("utc offset:= 37" ∷ [])) 1) (unswept (refusal 28))
    ∷ trial Swept (swept (with_pairs ("utc offset:=37 " ∷ [])) 1) (unswept (refusal 28))
    ∷ trial Swept (swept (with_pairs ("utc offset:=37\\n" ∷ [])) 1) (unswept (refusal 28))
    -- above 255; one that would be 37 if it were cut to 32 bits
    ∷ trial Swept (swept (with_pairs ("utc offset:=256" ∷ [])) 1) (unswept (refusal 28))
    ∷ trial Swept (swept (with_pairs ("utc offset:=4294967333" ∷ [])) 1) (unswept (refusal 28))
    ∷ []

abbrev pub kind_trials : List Trial
kind_trials =
    -- uint32 by another of its names; in hex, where the low byte is first
    trial Swept (swept (like "type: unsigned int" "dimension: 2" "sizes: 2 1") 1) (one_row 37)
    ∷ trial Swept (swept (two_rows "encoding: hex" "endian: little" (texts ("05000000" ∷ "07000000" ∷ []))) 1) (wrong_at 1, pos 5 ∷ pos 7 ∷ replicate 5 (pos 5))
    -- other types of integers, as wide or not; one axis, and three; version 1, which has no pairs
    ∷ trial Swept (swept (like "type: int32" "dimension: 2" "sizes: 2 1") 1) (unswept (refusal 28))
    ∷ trial Swept (swept (like "type: uint16" "dimension: 2" "sizes: 2 1") 1) (unswept (refusal 28))
    ∷ trial Swept (swept (like "type: uint64" "dimension: 2" "sizes: 2 1") 1) (unswept (refusal 28))
    ∷ trial Swept (swept (like "type: uint32" "dimension: 1" "sizes: 2") 1) (unswept (refusal 28))
    ∷ trial Swept (swept (like "type: uint32" "dimension: 3" "sizes: 2 1 1") 1) (unswept (refusal 28))
    ∷ trial Swept (swept (text_file "NRRD0001" "type: uint32" "dimension: 2" "sizes: 2 1" [] ("8 9" ∷ [])) 1) (unswept (refusal 28))
    ∷ []

abbrev pub order_trials : List Trial
order_trials =
    -- all of these lack the key, and the largest step is 0: the refusals of the sample call come first, one of the reading with its line, then 33, 19, 22, 20, 21
    trial Swept (swept (keyless "type: uint32" "sizes: 2" "8 9") 0) (unswept (at_line 11 4))
    ∷ trial Swept (swept (text_file "NRRD0004" "type: float" "dimension: 2" "sizes: 4 2" ("data file: LIST" ∷ "a" ∷ "b" ∷ []) []) 0) (unswept (refusal 33))
    ∷ trial Swept (swept (keyless "type: float" "sizes: 2 1" "8 9") 0) (unswept (refusal 19))
    ∷ trial Swept (swept (keyless "type: uint32" "sizes: 2 4" "8 9") 0) (unswept (refusal 22))
    ∷ trial Swept (swept (keyless "type: uint32" "sizes: 2 1" "8 4294967296") 0) (unswept (refusal 20))
    ∷ trial Swept (swept (keyless "type: uint32" "sizes: 2 1" "8") 0) (unswept (refusal 21))
    -- a detached header has its data in the second file, which is empty
    ∷ trial Swept (swept (with_pairs ("utc offset:=37" ∷ "data file: a" ∷ [])) 1) (unswept (refusal 21))
    ∷ []

abbrev pub entry_trials : List Trial
entry_trials =
    -- lent as bytes: two samples take 16, and what is past them stays; 15 are too few; a call that 28 refuses leaves all of them
    let file = two_rows "encoding: raw" "endian: big" (replicate 4 255 ++ replicate 4 0) in
    trial (SweepAnswer × List ℕ) (sweep_entry file (replicate 19 7) 1) (none_wrong 37, replicate 4 255 ++ (replicate 12 0 ++ replicate 3 7))
    ∷ trial (SweepAnswer × List ℕ) (sweep_entry file (replicate 15 7) 1) (refused_by (refusal 22), replicate 15 7)
    ∷ trial (SweepAnswer × List ℕ) (sweep_entry file (replicate 19 7) 0) (refused_by (refusal 28), replicate 19 7)
    ∷ []

pub record SweepTrials : Type 0 where
  -- steps and the largest one; the key; what is a sweep; which refusal comes first; the list lent as bytes
  pub steps : Hold step_trials
  pub offsets : Hold offset_trials
  pub kinds : Hold kind_trials
  pub first : Hold order_trials
  pub lent : Hold entry_trials
