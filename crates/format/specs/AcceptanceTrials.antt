-- Further trials of the reader by computation, beside the starred ones, as one list under one statement: `AcceptanceTrials`.
-- What they answer follows from the rules, "Lines and headers", "Understood fields", "Versions", "Order" and "Data and samples".
use Rattle.std.specs.Prelude.{ℕ, ◌+◌, ◌-◌, true, false, List, [], ◌∷◌, ◌++◌, replicate}
use Prim.Native.String.{String}
use Rattle.format.specs.declared.Refusal.{Refusal}
use Rattle.format.specs.declared.Reading.{Reading}
use Rattle.format.specs.declared.ReadAnswer.{ReadAnswer}
use Rattle.format.specs.declared.DataAnswer.{DataAnswer}
use Rattle.format.specs.Bytes.{bytes, LF}
use Rattle.format.specs.Refusals.{at_line, refusal, fine}
use Rattle.format.specs.Calls.{read_header_call, data_place_call, data_call}
use Rattle.format.specs.Trials.{Trial, trial, Hold, texts, refusal_of}

-- ---- a detached header with both skips, that closes at the end of the bytes; its last line has no ending

-- all its lines but the last
abbrev pub unclosed : List ℕ
unclosed = texts ("NRRD0001" ∷ "type: int16" ∷ "dimension: 1" ∷ "sizes: 2" ∷ "encoding: raw" ∷ "endian: big" ∷ "line skip: 1" ∷ "byteskip: 3" ∷ [])

abbrev pub detached : List ℕ
detached = unclosed ++ bytes "data file: sweep.raw"

-- 9 + 12 + 13 + 9 + 14 + 12 + 13 + 12 + 20 bytes in 9 lines
abbrev pub reading_detached : Reading
reading_detached =
    record {
      version = 1;
      form = 1;
      dimension = 1;
      sampletype = 2;
      encoding = 0;
      endian = 1;
      sizes = 2 ∷ replicate 15 0;
      lineskip = 1;
      byteskip = 3;
      extent = 4;
      length = 114;
      lines = 9;
      fromend = false;
      origin = false;
      directions = false;
      frame = false;
      space = 12;
      spacedimension = 0;
      files = 1;
      fieldlines = 9;
    }

-- its second file: a line of 6 bytes and LF, 3 bytes, 4 bytes of data, one byte more
abbrev pub second_file : List ℕ
second_file = texts ("head 7" ∷ []) ++ (bytes "..." ++ 1 ∷ 2 ∷ 3 ∷ 4 ∷ 5 ∷ [])

-- ---- headers with lines more

-- the refusal of a header of this version, with these lines from line 6 on and then the closing one
abbrev pub with_lines : ℕ → List String → Refusal
with_lines version ls =
    refusal_of
    (bytes "NRRD000" ++ (48 + version) ∷ LF ∷ (texts ("type: int8" ∷ "dimension: 1" ∷ "sizes: 1" ∷ "encoding: raw" ∷ []) ++ (texts ls ++ LF ∷ [])))

-- a line that comes with this version: in the version before it 8, at its line, and in this one, after the lines ls, taken
abbrev pub since : ℕ → List String → String → Trial
since version ls l = trial (Refusal × Refusal) (with_lines (version - 1) (l ∷ []), with_lines version (ls ++ l ∷ [])) (at_line 8 6, fine)

-- ---- the trials

abbrev pub acceptance_trials : List Trial
acceptance_trials =
    -- a detached header: its reading, and the place of its data
    trial ReadAnswer (read_header_call detached) (record { refusal = fine; reading = reading_detached })
    ∷ trial DataAnswer (data_place_call detached second_file) (record { refusal = fine; second = true; start = 10; length = 4 })
    ∷ trial (List ℕ) (data_call detached second_file) (1 ∷ 2 ∷ 3 ∷ 4 ∷ [])
    -- without its data file field it has no end
    ∷ trial Refusal (refusal_of unclosed) (refusal 13)
    -- the first mark decides: a field with `:=` in its descriptor, and a pair, which version 1 does not have
    ∷ trial Refusal (with_lines 1 ("content: a:=b" ∷ [])) fine
    ∷ trial Refusal (with_lines 1 ("content:=a: b" ∷ [])) (at_line 8 6)
    -- what is no name of one data file is not in this version (W5); in small letters `list` is a name
    ∷ trial Refusal (with_lines 1 ("data file: LIST" ∷ [])) (at_line 8 6)
    ∷ trial Refusal (with_lines 1 ("data file: LIST 2" ∷ [])) (at_line 8 6)
    ∷ trial Refusal (with_lines 1 ("data file: sweep%02d.raw" ∷ [])) (at_line 8 6)
    ∷ trial Refusal (with_lines 1 ("data file: list" ∷ [])) fine
    -- versions: each field that comes with a later version than 1, and key pairs
    ∷ since 2 [] "rig:=7"
    ∷ since 3 [] "kinds: time"
    ∷ since 4 [] "thicknesses: 1"
    ∷ since 4 [] "sample units: m"
    ∷ since 4 [] "space: right-anterior-superior"
    ∷ since 4 [] "space dimension: 3"
    ∷ since 4 ("space dimension: 3" ∷ []) "space units: m"
    ∷ since 4 ("space dimension: 3" ∷ []) "space origin: (0,0,0)"
    ∷ since 4 ("space dimension: 3" ∷ []) "space directions: none"
    ∷ since 5 ("space dimension: 3" ∷ []) "measurement frame: (1,0,0) (0,1,0) (0,0,1)"
    -- order: space units before space, after space, and after space dimension
    ∷ trial Refusal (with_lines 4 ("space units: m" ∷ "space: RAS" ∷ [])) (at_line 10 6)
    ∷ trial Refusal (with_lines 4 ("space: RAS" ∷ "space units: m" ∷ [])) fine
    ∷ trial Refusal (with_lines 4 ("space dimension: 3" ∷ "space units: m" ∷ [])) fine
    ∷ []

-- all of them
abbrev pub AcceptanceTrials : Type 0
AcceptanceTrials = Hold acceptance_trials
