-- Trials of a byte skip of -1 (W1) by computation, as one list under one statement: `SkipTrials`.
use Rattle.std.specs.Prelude.{ℕ, true, false, List, [], ◌∷◌, ◌++◌, ℤ, pos, replicate}
use Prim.Native.String.{String}
use Rattle.format.specs.declared.Refusal.{Refusal}
use Rattle.format.specs.declared.Reading.{Reading}
use Rattle.format.specs.declared.ReadAnswer.{ReadAnswer}
use Rattle.format.specs.declared.FindAnswer.{FindAnswer}
use Rattle.format.specs.declared.DataAnswer.{DataAnswer}
use Rattle.format.specs.declared.CountAnswer.{CountAnswer}
use Rattle.format.specs.Bytes.{LF}
use Rattle.format.specs.Refusals.{at_line, refusal, fine}
use Rattle.format.specs.Fields.{byte_skip}
use Rattle.format.specs.Calls.{found_at, no_data, read_header_call, find_field_call, data_place_call, data_call}
use Rattle.format.specs.Trials.{Trial, trial, Hold, texts, refusal_of, samples, counted}
use Rattle.format.specs.AcceptanceTrials.{with_lines}
use Rattle.format.specs.ListingTrials.{prints, listed}

-- ---- files

-- lines of 73 bytes for two uint16 samples, 4 bytes of data; then these lines, the closing one, and this content
abbrev pub two_samples : List String → List ℕ → List ℕ
two_samples more content =
    texts ("NRRD0001" ∷ "type: uint16" ∷ "dimension: 1" ∷ "sizes: 2" ∷ "encoding: raw" ∷ "endian: little" ∷ []) ++ (texts more ++ LF ∷ content)

-- a header of 88 bytes, and one of 101 that also skips a line
abbrev pub at_end : List ℕ → List ℕ
at_end = two_samples ("byte skip: -1" ∷ [])

abbrev pub line_then_end : List ℕ → List ℕ
line_then_end = two_samples ("line skip: 1" ∷ "byte skip: -1" ∷ [])

-- the samples 1 and 2 but for their last byte, and whole
abbrev pub most_of_two : List ℕ
most_of_two = 1 ∷ 0 ∷ 2 ∷ []

abbrev pub two : List ℕ
two = most_of_two ++ 0 ∷ []

-- what another program wrote before them: a line of 4 bytes, then also a byte
abbrev pub old_line : List ℕ
old_line = texts ("old" ∷ [])

abbrev pub foreign : List ℕ
foreign = old_line ++ 9 ∷ []

abbrev pub reading_at_end : Reading
reading_at_end =
    record {
      version = 1;
      form = 0;
      dimension = 1;
      sampletype = 3;
      encoding = 0;
      endian = 0;
      sizes = 2 ∷ replicate 15 0;
      lineskip = 0;
      byteskip = 0;
      extent = 4;
      length = 88;
      lines = 8;
      fromend = true;
      origin = false;
      directions = false;
      frame = false;
      space = 12;
      spacedimension = 0;
      files = 1;
      fieldlines = 8;
    }

-- a detached header with these lines too; the data, a double, is the end of the second file
abbrev pub end_of_second : List String → List ℕ
end_of_second more =
    texts ("NRRD0001" ∷ "byteskip: -1" ∷ "data file: d" ∷ "type: double" ∷ "dimension: 1" ∷ "sizes: 1" ∷ "encoding: raw" ∷ "endian: big" ∷ more)

-- ---- answers

-- 4 bytes of the header's file from this byte on, and 8 of the second file
abbrev pub four_from : ℕ → DataAnswer
four_from start = record { refusal = fine; second = false; start = start; length = 4 }

abbrev pub eight_of_second : ℕ → DataAnswer
eight_of_second start = record { refusal = fine; second = true; start = start; length = 8 }

-- the refusal of a header with a byte skip of -1 in line 3, then these lines
abbrev pub skip_then : List String → Refusal
skip_then ls = refusal_of (texts ("NRRD0001" ∷ "dimension: 2" ∷ "byte skip: -1" ∷ ls) ++ LF ∷ [])

-- a line that is refused with 11 where it stands
abbrev pub bad_line : String → Trial
bad_line l = trial Refusal (with_lines 1 (l ∷ [])) (at_line 11 6)

-- ---- the trials

abbrev pub skip_trials : List Trial
skip_trials =
    trial ReadAnswer (read_header_call (at_end two)) (record { refusal = fine; reading = reading_at_end })
    ∷ trial FindAnswer (find_field_call (at_end two) byte_skip) (found_at 84 2)
    -- foreign bytes before the data; exactly the extent; one byte fewer
    ∷ trial DataAnswer (data_place_call (at_end (foreign ++ two)) []) (four_from 93)
    ∷ trial (List ℕ) (data_call (at_end (foreign ++ two)) []) two
    ∷ trial (CountAnswer × List ℤ) (samples (at_end (foreign ++ two))) (counted 2, pos 1 ∷ pos 2 ∷ replicate 3 (pos 7))
    ∷ trial DataAnswer (data_place_call (at_end two) []) (four_from 88)
    ∷ trial DataAnswer (data_place_call (at_end most_of_two) []) (no_data (refusal 18))
    -- a line is skipped first: the last bytes of the rest; fewer bytes left; no line to skip
    ∷ trial DataAnswer (data_place_call (line_then_end (foreign ++ two)) []) (four_from 106)
    ∷ trial DataAnswer (data_place_call (line_then_end (old_line ++ most_of_two)) []) (no_data (refusal 18))
    ∷ trial DataAnswer (data_place_call (line_then_end two) []) (no_data (refusal 16))
    -- the same in a second file, of a type whose samples are not decoded
    ∷ trial DataAnswer (data_place_call (end_of_second []) (foreign ++ (two ++ two))) (eight_of_second 5)
    ∷ trial (List ℕ) (data_call (end_of_second []) (foreign ++ (two ++ two))) (two ++ two)
    ∷ trial DataAnswer (data_place_call (end_of_second ("line skip: 1" ∷ [])) (old_line ++ (two ++ two))) (eight_of_second 4)
    ∷ trial DataAnswer (data_place_call (end_of_second ("line skip: 1" ∷ [])) (two ++ two)) (no_data (refusal 16))
    -- the listing's start
    ∷ prints (at_end (foreign ++ two))
    ("version 1" ∷ "form attached" ∷ "type uint16" ∷ "sizes 2" ∷ "encoding raw" ∷ "endian little" ∷ "start 93" ∷ "extent 4" ∷ [])
    -- with hex or text 11 with line 0, also where the encoding stands first; after 14 and before 15; raw is taken
    ∷ trial Refusal (skip_then ("type: uint8" ∷ "sizes: 1 1" ∷ "encoding: hex" ∷ [])) (refusal 11)
    ∷ trial Refusal (skip_then ("type: uint8" ∷ "sizes: 1 1" ∷ "encoding: text" ∷ [])) (refusal 11)
    ∷ prints (listed ("byte skip: -1" ∷ [])) ("refused 11 line 0" ∷ [])
    ∷ trial Refusal (skip_then ("sizes: 1 1" ∷ "encoding: hex" ∷ [])) (refusal 14)
    ∷ trial Refusal (skip_then ("type: uint16" ∷ "sizes: 1 1" ∷ "encoding: hex" ∷ [])) (refusal 14)
    ∷ trial Refusal (skip_then ("type: uint8" ∷ "sizes: 65536 65536" ∷ "encoding: hex" ∷ [])) (refusal 11)
    ∷ trial Refusal (skip_then ("type: uint8" ∷ "sizes: 65536 65536" ∷ "encoding: raw" ∷ [])) (refusal 15)
    ∷ trial Refusal (skip_then ("type: uint8" ∷ "sizes: 1 1" ∷ "encoding: raw" ∷ [])) fine
    -- exactly `-1`, spaces and tabs around it dropped; any other negative is 11 at its line, and so is a line skip of -1
    ∷ trial Refusal (with_lines 1 ("byteskip:  \t-1\t " ∷ [])) fine
    ∷ bad_line "byte skip: -2"
    ∷ bad_line "byte skip: -0"
    ∷ bad_line "byte skip: -01"
    ∷ bad_line "byte skip: - 1"
    ∷ bad_line "byte skip: -\t1"
    ∷ bad_line "byte skip: -1 0"
    ∷ bad_line "byte skip: -10"
    ∷ bad_line "byte skip: -"
    ∷ bad_line "byte skip: +1"
    ∷ bad_line "byte skip: -4294967297"
    ∷ bad_line "byte skip: 4294967296"
    ∷ bad_line "line skip: -1"
    ∷ []

-- all of them
abbrev pub SkipTrials : Type 0
SkipTrials = Hold skip_trials
