-- What the writer writes, byte by byte, and what it refuses (rules, "What is read, written and corrected", "Numbers of refusal"):
-- `WriteTrials` is the statement; proofs/ computes it.
use Rattle.std.specs.Prelude.{ℕ, List, [], ◌∷◌, ◌++◌, ℤ, pos, negsuc, replicate}
use Rattle.format.specs.declared.WriteAnswer.{WriteAnswer}
use Rattle.format.specs.Bytes.{bytes, LF}
use Rattle.format.specs.Refusals.{refusal, fine}
use Rattle.format.specs.Calls.{write_call}
use Rattle.format.specs.Trials.{Trial, trial, Hold, texts, data_s}

-- a call of the writer: version, sizes, type, encoding, endian, samples, and a lent buffer of this many bytes 9
abbrev pub writing : ℕ → List ℕ → ℕ → ℕ → ℕ → List ℤ → ℕ → WriteAnswer × List ℕ
writing version sizes t e endian zs room = write_call version sizes t e endian zs (replicate room 9)

-- it writes this file of n bytes, and bytes past the file stay: this many
abbrev pub written : ℕ → List ℕ → ℕ → WriteAnswer × List ℕ
written n file more = (record { refusal = fine; length = n }, file ++ replicate more 9)

-- it is refused, and the buffer of this many bytes stays
abbrev pub not_written : ℕ → ℕ → WriteAnswer × List ℕ
not_written n room = (record { refusal = refusal n; length = 0 }, replicate room 9)

-- the samples and the numbers of S
abbrev pub samples_s : List ℤ
samples_s = pos 1 ∷ pos 2 ∷ pos 256 ∷ pos 65535 ∷ []

abbrev pub rewritten_s : List ℕ
rewritten_s =
    texts ("NRRD0004" ∷ "type: uint16" ∷ "dimension: 2" ∷ "sizes: 2 2" ∷ "encoding: raw" ∷ "endian: little" ∷ "" ∷ []) ++ (data_s ++ 255 ∷ [])

abbrev pub write_trials : List Trial
write_trials =
    -- uint16 in raw, little: 76 bytes of header and 8 of data; with one byte less nothing is written
    trial (WriteAnswer × List ℕ) (writing 4 (2 ∷ 2 ∷ []) 3 0 0 samples_s 90) (written 84 rewritten_s 6)
    ∷ trial (WriteAnswer × List ℕ) (writing 4 (2 ∷ 2 ∷ []) 3 0 0 samples_s 83) (not_written 22 83)
    -- int8 in text: endian is not written
    ∷ trial (WriteAnswer × List ℕ) (writing 1 (2 ∷ []) 0 1 0 (negsuc 127 ∷ pos 7 ∷ []) 64)
    (written 64 (texts ("NRRD0001" ∷ "type: int8" ∷ "dimension: 1" ∷ "sizes: 2" ∷ "encoding: txt" ∷ "" ∷ "-128" ∷ "7" ∷ [])) 0)
    -- int16 in hex, big: -2
    ∷ trial (WriteAnswer × List ℕ) (writing 1 (1 ∷ []) 2 2 1 (negsuc 1 ∷ []) 76)
    (written 75 (texts ("NRRD0001" ∷ "type: int16" ∷ "dimension: 1" ∷ "sizes: 1" ∷ "encoding: hex" ∷ "endian: big" ∷ "" ∷ "fffe" ∷ [])) 1)
    -- a size that is 0; sizes whose product is too large; float; a sample too few; a sample that its type does not have
    ∷ trial (WriteAnswer × List ℕ) (writing 4 (2 ∷ 0 ∷ []) 3 0 0 [] 90) (not_written 11 90)
    ∷ trial (WriteAnswer × List ℕ) (writing 4 (65536 ∷ 65536 ∷ []) 1 0 0 [] 90) (not_written 15 90)
    ∷ trial (WriteAnswer × List ℕ) (writing 4 (1 ∷ []) 8 0 0 [] 90) (not_written 19 90)
    ∷ trial (WriteAnswer × List ℕ) (writing 4 (2 ∷ []) 0 0 0 (pos 1 ∷ []) 90) (not_written 27 90)
    ∷ trial (WriteAnswer × List ℕ) (writing 4 (1 ∷ []) 0 0 0 (pos 128 ∷ []) 90) (not_written 20 90)
    ∷ []

abbrev pub WriteTrials : Type 0
WriteTrials = Hold write_trials
