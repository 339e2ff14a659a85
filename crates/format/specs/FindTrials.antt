-- Trials of the look-ups: what each answers about small files, with places and lengths as numbers; proofs/ computes them all.
use Rattle.std.specs.Prelude.{ℕ, false, List, [], ◌∷◌, map}
use Prim.Native.String.{String}
use Rattle.std.proofs.Math.Option.{Option, some}
use Rattle.format.specs.declared.FindAnswer.{FindAnswer}
use Rattle.format.specs.Bytes.{bytes, LF}
use Rattle.format.specs.Refusals.{at_line, fine}
use Rattle.format.specs.Fields.{field_named, dimension, type, encoding, endian, sizes, line_skip, byte_skip, data_file, space, space_dimension, space_origin, space_directions, measurement_frame, centers, labels, units, kinds}
use Rattle.format.specs.Calls.{no_place, found_at, find_field_call, find_key_call}
use Rattle.format.specs.Trials.{Trial, trial, Hold, texts, whole_s, file_s}

-- ---- files

-- fields with spaces and tabs around their descriptors, one in its other spelling, and one whose descriptor is empty
abbrev pub spaced_file : List ℕ
spaced_file =
    texts
    ("NRRD0004"
    ∷ "type:  \t uint8 \t"
    ∷ "dimension: 1"
    ∷ "sizes: 1"
    ∷ "encoding: raw"
    ∷ "content:   two words  "
    ∷ "OldMin: 0"
    ∷ "number: "
    ∷ ""
    ∷ [])

-- lines that end in CR LF; the key of the first pair has an LF, and its value a backslash
abbrev pub crlf_file : List ℕ
crlf_file =
    texts
    ("NRRD0002\r"
    ∷ "type: int8\r"
    ∷ "dimension: 1\r"
    ∷ "sizes: 1\r"
    ∷ "encoding: raw\r"
    ∷ "a\\nb:=c\\\\d\r"
    ∷ "empty:=\r"
    ∷ "\r"
    ∷ [])

-- S as version 1: its first pair, line 8, is refused
abbrev pub refused_file : List ℕ
refused_file = whole_s "NRRD0001" "utc offset:=37"

abbrev pub refused_there : FindAnswer
refused_there = record { refusal = at_line 8 8; found = false; start = 0; length = 0 }

-- ---- the fields that the definitions have a name for, each with the number that the name stands for

abbrev pub named_fields : List (String × ℕ)
named_fields =
    ("dimension", dimension)
    ∷ ("type", type)
    ∷ ("encoding", encoding)
    ∷ ("endian", endian)
    ∷ ("sizes", sizes)
    ∷ ("line skip", line_skip)
    ∷ ("byte skip", byte_skip)
    ∷ ("data file", data_file)
    ∷ ("space", space)
    ∷ ("space dimension", space_dimension)
    ∷ ("space origin", space_origin)
    ∷ ("space directions", space_directions)
    ∷ ("measurement frame", measurement_frame)
    ∷ ("centers", centers)
    ∷ ("labels", labels)
    ∷ ("units", units)
    ∷ ("kinds", kinds)
    ∷ []

-- ---- the trials; fields by their numbers (specs/Fields.antt)

abbrev pub find_trials : List Trial
find_trials =
    -- S: its type stands in the line that starts at 17; content is not given, and no field has the number 30
    trial FindAnswer (find_field_call file_s 1) (found_at 23 6)
    ∷ trial FindAnswer (find_field_call file_s 9) (no_place fine)
    ∷ trial FindAnswer (find_field_call file_s 30) (no_place fine)
    -- without the spaces and tabs on either side; of a carried field those before it stay
    ∷ trial FindAnswer (find_field_call spaced_file 1) (found_at 18 5)
    ∷ trial FindAnswer (find_field_call spaced_file 9) (found_at 71 11)
    -- old min in its other spelling
    ∷ trial FindAnswer (find_field_call spaced_file 12) (found_at 93 1)
    -- number is given, and empty
    ∷ trial FindAnswer (find_field_call spaced_file 14) (found_at 103 0)
    ∷ trial FindAnswer (find_field_call crlf_file 1) (found_at 16 4)
    ∷ trial FindAnswer (find_field_call refused_file 1) refused_there
    -- S: the last of two pairs with the key, in the line that starts at 98
    ∷ trial FindAnswer (find_key_call file_s (bytes "utc offset")) (found_at 110 2)
    ∷ trial FindAnswer (find_key_call file_s (bytes "rig")) (no_place fine)
    -- a key is given with its escapes resolved; the place is that of the escaped value
    ∷ trial FindAnswer (find_key_call crlf_file (97 ∷ LF ∷ 98 ∷ [])) (found_at 67 4)
    ∷ trial FindAnswer (find_key_call crlf_file (bytes "a\\nb")) (no_place fine)
    -- an empty value is found, without its line's CR
    ∷ trial FindAnswer (find_key_call crlf_file (bytes "empty")) (found_at 80 0)
    ∷ trial FindAnswer (find_key_call refused_file (bytes "utc offset")) refused_there
    -- each of these names is the number of its field's row
    ∷ trial (List (Option ℕ)) (map (λ n. field_named (bytes n.0)) named_fields) (map (λ n. some n.1) named_fields)
    ∷ []

-- all of them
abbrev pub FindTrials : Type 0
FindTrials = Hold find_trials
