-- What the entry points answer on lent bytes, byte by byte, so that widths and the order of bytes are seen: S and the trials of the rules,
-- called as from C; and decimals in lent bytes. `EntryTrials` is the statement; proofs/ computes it.
use Rattle.std.specs.Prelude.{ℕ, List, [], ◌∷◌, ◌++◌, pos, negsuc, replicate}
use Rattle.format.specs.declared.ReadAnswer.{ReadAnswer}
use Rattle.format.specs.declared.CountAnswer.{CountAnswer}
use Rattle.format.specs.declared.NumberAnswer.{NumberAnswer}
use Rattle.format.specs.declared.WriteAnswer.{WriteAnswer}
use Rattle.format.specs.declared.SetAnswer.{SetAnswer}
use Rattle.format.specs.declared.Decimal.{Decimal}
use Rattle.format.specs.Bytes.{bytes}
use Rattle.format.specs.Decimals.{num, marked, minus_inf}
use Rattle.format.specs.Boundary.{decimals_bytes, decimals_lent}
use Rattle.format.specs.Refusals.{refusal, fine}
use Rattle.format.specs.Calls.{no_reading}
use Rattle.format.specs.EntryPoints.{read_entry, samples_entry, sample_number_entry, write_entry, set_key_entry}
use Rattle.format.specs.Trials.{Trial, trial, Hold, texts, lines_s, data_s, file_s, reading_s, counted}
use Rattle.format.specs.WriteTrials.{rewritten_s}

-- ---- numbers in bytes, the low byte first

-- an entry of a table below 256
abbrev pub entry : ℕ → List ℕ
entry n = n ∷ replicate 3 0

unfoldable pub entries : List ℕ → List ℕ
entries [] = []
entries (n ∷ ns) = entry n ++ entries ns

-- a number of 8 bytes: its two low bytes
abbrev pub word : ℕ → ℕ → List ℕ
word low high = low ∷ high ∷ replicate 6 0

abbrev pub table_bytes_s : List ℕ
table_bytes_s = entries (0 ∷ 9 ∷ 17 ∷ 30 ∷ 43 ∷ 54 ∷ 68 ∷ 83 ∷ 98 ∷ 113 ∷ [])

-- 1, 2, 256 and 65535
abbrev pub sample_bytes_s : List ℕ
sample_bytes_s = word 1 0 ++ (word 2 0 ++ (word 0 1 ++ word 255 255))

-- ---- the trials

abbrev pub entry_trials : List Trial
entry_trials =
    -- a table of 10 entries and 3 bytes more; one of 9 and 3 bytes more
    trial (ReadAnswer × List ℕ) (read_entry file_s (replicate 43 7)) (record { refusal = fine; reading = reading_s }, table_bytes_s ++ replicate 3 7)
    ∷ trial (ReadAnswer × List ℕ) (read_entry file_s (replicate 39 7)) (record { refusal = refusal 22; reading = no_reading }, replicate 39 7)
    -- a list of 4 samples and 3 bytes more; one of 3 and 7 bytes more
    ∷ trial (CountAnswer × List ℕ) (samples_entry file_s [] (replicate 35 7)) (counted 4, sample_bytes_s ++ replicate 3 7)
    ∷ trial (CountAnswer × List ℕ) (samples_entry file_s [] (replicate 31 7)) (record { refusal = refusal 22; count = 0 }, replicate 31 7)
    -- int16 big `FF FE`: -2
    ∷ trial (CountAnswer × List ℕ)
    (samples_entry (texts ("NRRD0001" ∷ "type: int16" ∷ "dimension: 1" ∷ "sizes: 1" ∷ "encoding: raw" ∷ "endian: big" ∷ "" ∷ []) ++ 255 ∷ 254 ∷ []) [] (replicate 8 7))
    (counted 1, 254 ∷ replicate 7 255)
    -- sizes 4 3 2, coordinates 1, 2, 1, and a byte more
    ∷ trial NumberAnswer
    (sample_number_entry (texts ("NRRD0001" ∷ "type: uint8" ∷ "dimension: 3" ∷ "sizes: 4 3 2" ∷ "encoding: raw" ∷ "" ∷ [])) (word 1 0 ++ (word 2 0 ++ (word 1 0 ++ 9 ∷ []))))
    (record { refusal = fine; number = 21 })
    -- the samples of S, and a byte more, written into 85 bytes
    ∷ trial (WriteAnswer × List ℕ) (write_entry 4 (word 2 0 ++ word 2 0) 3 0 0 (sample_bytes_s ++ 9 ∷ []) (replicate 85 9))
    (record { refusal = fine; length = 84 }, rewritten_s ++ 9 ∷ [])
    -- S with `rig` set to 7, its table with room for 12 entries and 2 bytes more
    ∷ trial (SetAnswer × (List ℕ × List ℕ)) (set_key_entry (file_s ++ replicate 8 9) 122 (table_bytes_s ++ replicate 10 7) 10 (bytes "rig") (bytes "7")) (
      record { refusal = fine; length = 129; count = 11 },
      (
        texts ("NRRD0004" ∷ "rig:=7" ∷ []) ++ (lines_s "utc offset:=37" ++ (data_s ++ 255 ∷ 9 ∷ [])),
        entries (0 ∷ 9 ∷ 16 ∷ 24 ∷ 37 ∷ 50 ∷ 61 ∷ 75 ∷ 90 ∷ 105 ∷ 120 ∷ []) ++ replicate 6 7,
      ),
    )
    -- the bytes of -2 times ten to the power 3 and of -inf; 258 times ten to the power -400, and 15 bytes more
    ∷ trial (List ℕ) (decimals_bytes (num (negsuc 1) (pos 3) ∷ marked minus_inf ∷ [])) ((254 ∷ replicate 7 255) ++ (entry 3 ++ (entry 0 ++ (word 0 0 ++ (entry 0 ++ entry 3)))))
    ∷ trial (List Decimal) (decimals_lent (word 2 1 ++ ((112 ∷ 254 ∷ 255 ∷ 255 ∷ []) ++ (entry 0 ++ replicate 15 7)))) (num (pos 258) (negsuc 399) ∷ [])
    ∷ []

abbrev pub EntryTrials : Type 0
EntryTrials = Hold entry_trials
