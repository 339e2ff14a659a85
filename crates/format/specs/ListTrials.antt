-- Trials of whole headers with data in several files, and of the calls for them (W5) by computation, as one list under one statement: `ListTrials`.
use Rattle.std.specs.Prelude.{ℕ, zero, suc, ◌+◌, ◌-◌, true, List, [], ◌∷◌, ◌++◌, length, take, replicate}
use Prim.Native.String.{String}
use Rattle.format.specs.declared.Refusal.{Refusal}
use Rattle.format.specs.declared.FindAnswer.{FindAnswer}
use Rattle.format.specs.declared.DataAnswer.{DataAnswer}
use Rattle.format.specs.declared.CountAnswer.{CountAnswer}
use Rattle.format.specs.declared.WriteAnswer.{WriteAnswer}
use Rattle.format.specs.declared.ShareAnswer.{ShareAnswer}
use Rattle.format.specs.Bytes.{bytes, LF, HASH}
use Rattle.format.specs.Limits.{max_lines}
use Rattle.format.specs.Refusals.{at_line, refusal, fine}
use Rattle.format.specs.Fields.{type, data_file}
use Rattle.format.specs.Calls.{no_place, found_at, no_data, no_samples, find_field_call, find_key_call, data_place_call, check_samples_call, set_key_call}
use Rattle.format.specs.Files.{file_count_call, file_name_call, sample_file_call}
use Rattle.format.specs.Trials.{Trial, trial, Hold, texts, refusal_of}

-- ---- headers: 4 by 3 samples of two bytes, six lines of 75 bytes, then these

abbrev pub grid : String → List String → List ℕ
grid first more =
    texts (first ∷ "type: uint16" ∷ "dimension: 2" ∷ "sizes: 4 3" ∷ "encoding: raw" ∷ "endian: little" ∷ []) ++ texts more

abbrev pub refuses : List String → Refusal → Trial
refuses more r = trial Refusal (refusal_of (grid "NRRD0004" more)) r

-- three names, as a row along the slower axis each, one like a field, one like a pair, one like a comment with a blank after it
abbrev pub rows : List String
rows = "data file: LIST" ∷ "type: int8" ∷ "a:=b" ∷ "# c " ∷ []

abbrev pub rows_file : List ℕ
rows_file = grid "NRRD0004" rows

-- the same with the closing line, before bytes that are not looked at
abbrev pub closed_rows : List ℕ
closed_rows = grid "NRRD0004" (rows ++ "" ∷ []) ++ bytes "d:=e"

-- three files by a pattern, the numbers falling; and three slabs
abbrev pub falling_file : List ℕ
falling_file = grid "NRRD0005" ("data file: p%2d.raw 4 0 -2 1" ∷ [])

abbrev pub slabs_file : List ℕ
slabs_file = grid "NRRD0004" ("data file: s%02d.raw 0 5 2 2" ∷ [])

-- one file under LIST, a single name, and an attached header
abbrev pub one_listed : List ℕ
one_listed = grid "NRRD0004" ("data file: LIST 2" ∷ "a" ∷ [])

abbrev pub single : List ℕ
single = grid "NRRD0004" ("data file: a b" ∷ [])

abbrev pub attached : List ℕ
attached = grid "NRRD0004" ("" ∷ []) ++ replicate 24 1

-- three samples along one axis, in three files
abbrev pub three_along : String → List ℕ
three_along file = texts ("NRRD0004" ∷ "type: uint8" ∷ "dimension: 1" ∷ "sizes: 3" ∷ "encoding: raw" ∷ file ∷ "a" ∷ "b" ∷ "c" ∷ [])

-- 2 by 1 by 2 by 3 samples of one byte, two axes in a file
abbrev pub slices : List String → List ℕ
slices names = texts ("NRRD0004" ∷ "type: uint8" ∷ "dimension: 4" ∷ "sizes: 2 1 2 3" ∷ "encoding: raw" ∷ "data file: LIST 2" ∷ []) ++ texts names

-- three files of floats; and lines that end in CR LF
abbrev pub floats : List ℕ
floats = texts ("NRRD0004" ∷ "type: float" ∷ "dimension: 2" ∷ "sizes: 4 3" ∷ "encoding: raw" ∷ "endian: little" ∷ "data file: f%d 1 3 1" ∷ [])

abbrev pub crlf_rows : List ℕ
crlf_rows = grid "NRRD0004" ("data file: LIST\r" ∷ "a\r" ∷ "b \r" ∷ "c" ∷ [])

-- LIST after so many comments, and the closing line
unfoldable pub comments : ℕ → List ℕ
comments zero = []
comments (suc n) = HASH ∷ LF ∷ comments n

abbrev pub late_list : ℕ → List ℕ
late_list n = grid "NRRD0004" [] ++ (comments n ++ texts ("data file: LIST" ∷ "" ∷ []))

-- ---- which headers are accepted

abbrev pub accepted_trials : List Trial
accepted_trials =
    refuses rows fine
    ∷ trial Refusal (refusal_of closed_rows) fine
    ∷ refuses ("data file: s%d.raw 0 2 1" ∷ []) fine
    ∷ refuses ("data file: s%d.raw 0 4 2 1" ∷ []) fine
    ∷ refuses ("data file: LIST 2" ∷ "a" ∷ []) fine
    ∷ refuses ("data file: LIST 2" ∷ "a" ∷ "b" ∷ "c" ∷ []) fine
    -- before version 4 either form is 8, also a bad one and a second field
    ∷ trial Refusal (refusal_of (grid "NRRD0003" rows)) (at_line 8 7)
    ∷ trial Refusal (refusal_of (grid "NRRD0003" ("data file: 100%" ∷ []))) (at_line 8 7)
    ∷ trial Refusal (refusal_of (grid "NRRD0003" ("data file: a" ∷ "datafile: LIST" ∷ []))) (at_line 8 8)
    -- from version 4 they are 9 and 11
    ∷ refuses ("data file: a" ∷ "datafile: LIST" ∷ []) (at_line 9 8)
    ∷ refuses ("data file: 100%" ∷ []) (at_line 11 7)
    ∷ refuses ("data file: s%d.raw 0 2 0" ∷ []) (at_line 11 7)
    ∷ refuses ("data file: s%d.raw 2 0 1" ∷ []) (at_line 11 7)
    ∷ refuses ("data file: LIST x" ∷ "a" ∷ []) (at_line 11 7)
    -- a name may hold no other bytes than a field, also one like a comment
    ∷ trial Refusal (refusal_of (grid "NRRD0004" ("data file: LIST" ∷ "a" ∷ []) ++ HASH ∷ 200 ∷ LF ∷ [])) (at_line 5 9)
    -- LIST without a name: its own line, before 14, and after what is wrong with the closing line
    ∷ refuses ("data file: LIST" ∷ []) (at_line 11 7)
    ∷ refuses ("data file: LIST" ∷ "" ∷ "a" ∷ []) (at_line 11 7)
    ∷ trial Refusal (refusal_of (texts ("NRRD0004" ∷ "data file: LIST" ∷ []))) (at_line 11 2)
    ∷ trial Refusal (refusal_of (texts ("NRRD0004" ∷ "data file: LIST" ∷ "a" ∷ []))) (refusal 14)
    ∷ trial Refusal (refusal_of (late_list (max_lines - 7))) (at_line 4 (max_lines + 1))
    ∷ trial Refusal (refusal_of (late_list (max_lines - 8))) (at_line 11 (max_lines - 1))
    -- fewer axes than the dimension: a file for every place on the others
    ∷ refuses ("data file: LIST" ∷ "a" ∷ "b" ∷ []) (refusal 11)
    ∷ refuses ("data file: s%d.raw 0 3 1" ∷ []) (refusal 11)
    -- all axes: as many slabs as divide the slowest one
    ∷ refuses ("data file: LIST 2" ∷ "a" ∷ "b" ∷ []) (refusal 11)
    ∷ refuses ("data file: s%d.raw 0 3 1 2" ∷ []) (refusal 11)
    -- no axis, more than there are, and more than any array has
    ∷ refuses ("data file: LIST 0" ∷ "a" ∷ []) (refusal 11)
    ∷ refuses ("data file: LIST 3" ∷ "a" ∷ []) (refusal 11)
    ∷ refuses ("data file: LIST 18446744073709551617" ∷ "a" ∷ []) (refusal 11)
    -- one axis: it has to be said
    ∷ trial Refusal (refusal_of (three_along "data file: LIST")) (refusal 11)
    ∷ trial Refusal (refusal_of (three_along "data file: LIST 1")) fine
    -- 14 and 15 come before
    ∷ trial Refusal (refusal_of (texts ("NRRD0004" ∷ "type: uint8" ∷ "dimension: 1" ∷ "data file: LIST" ∷ "a" ∷ []))) (refusal 14)
    ∷ trial Refusal (refusal_of (texts ("NRRD0004" ∷ "type: uint8" ∷ "dimension: 2" ∷ "sizes: 65536 65536" ∷ "encoding: raw" ∷ "data file: LIST 0" ∷ "a" ∷ []))) (refusal 15)
    -- section 3: an array of four axes by slices of two, one for each place on the other two
    ∷ trial Refusal (refusal_of (slices ("a" ∷ "b" ∷ "c" ∷ "d" ∷ "e" ∷ "f" ∷ []))) fine
    ∷ trial Refusal (refusal_of (slices ("a" ∷ "b" ∷ "c" ∷ []))) (refusal 11)
    -- a single name is held to no rule
    ∷ refuses ("data file: a" ∷ []) fine
    ∷ []

-- ---- what the calls answer

-- the number of files, the name of one in a buffer of six bytes 7, and where a sample is
abbrev pub counts : List ℕ → ℕ → Trial
counts file n = trial CountAnswer (file_count_call file) (record { refusal = fine; count = n })

abbrev pub six : List ℕ
six = 7 ∷ 7 ∷ 7 ∷ 7 ∷ 7 ∷ 7 ∷ []

abbrev pub named : List ℕ → ℕ → ℕ → List ℕ → Trial
named file n size out = trial (WriteAnswer × List ℕ) (file_name_call file n six) (record { refusal = fine; length = size }, out)

abbrev pub unnamed : List ℕ → ℕ → ℕ → Trial
unnamed file n r = trial (WriteAnswer × List ℕ) (file_name_call file n six) (record { refusal = refusal r; length = 0 }, six)

abbrev pub placed : List ℕ → ℕ → ℕ → ℕ → Trial
placed file s k b = trial ShareAnswer (sample_file_call file s) (record { refusal = fine; file = k; byte = b })

abbrev pub no_file : List ℕ
no_file = texts ("NRRD0004" ∷ "type" ∷ [])

-- a key like a name under LIST, once it is set: a line after line 1
abbrev pub after_setting : List ℕ
after_setting =
    take (length rows_file + 5)
    (set_key_call (rows_file ++ replicate 5 0) (length rows_file) (0 ∷ 9 ∷ 22 ∷ 35 ∷ 46 ∷ 60 ∷ 75 ∷ 91 ∷ 102 ∷ 107 ∷ 0 ∷ []) 10 (bytes "a") (bytes "1")).1.0

abbrev pub call_trials : List Trial
call_trials =
    counts rows_file 3
    ∷ counts closed_rows 3
    ∷ counts falling_file 3
    ∷ counts slabs_file 3
    ∷ counts one_listed 1
    ∷ counts single 1
    ∷ counts attached 1
    ∷ trial CountAnswer (file_count_call no_file) (record { refusal = at_line 6 2; count = 0 })
    -- names under LIST stand as they are, whatever they look like
    ∷ unnamed rows_file 0 22
    ∷ named rows_file 1 4 (bytes "a:=b" ++ 7 ∷ 7 ∷ [])
    ∷ named closed_rows 2 4 (bytes "# c " ++ 7 ∷ 7 ∷ [])
    ∷ unnamed rows_file 3 29
    ∷ unnamed rows_file 18446744073709551615 29
    ∷ trial (WriteAnswer × List ℕ) (file_name_call rows_file 0 (six ++ six)) (record { refusal = fine; length = 10 }, bytes "type: int8" ++ 7 ∷ 7 ∷ [])
    -- those of a pattern
    ∷ unnamed falling_file 0 22
    ∷ trial (WriteAnswer × List ℕ) (file_name_call falling_file 0 (six ++ six)) (record { refusal = fine; length = 7 }, bytes "p 4.raw" ++ 7 ∷ 7 ∷ 7 ∷ 7 ∷ 7 ∷ [])
    ∷ trial (WriteAnswer × List ℕ) (file_name_call falling_file 2 (six ++ six)) (record { refusal = fine; length = 7 }, bytes "p 0.raw" ++ 7 ∷ 7 ∷ 7 ∷ 7 ∷ 7 ∷ [])
    ∷ trial (WriteAnswer × List ℕ) (file_name_call slabs_file 1 (six ++ six)) (record { refusal = fine; length = 7 }, bytes "s02.raw" ++ 7 ∷ 7 ∷ 7 ∷ 7 ∷ 7 ∷ [])
    ∷ unnamed slabs_file 3 29
    -- a single name, and none
    ∷ named single 0 3 (bytes "a b" ++ 7 ∷ 7 ∷ 7 ∷ [])
    ∷ unnamed single 1 29
    ∷ named attached 0 0 six
    ∷ unnamed attached 1 29
    -- four samples of two bytes in each file
    ∷ placed rows_file 0 0 0
    ∷ placed rows_file 5 1 2
    ∷ placed slabs_file 11 2 6
    ∷ placed attached 11 0 22
    ∷ trial ShareAnswer (sample_file_call rows_file 12) (record { refusal = refusal 23; file = 0; byte = 0 })
    ∷ placed (slices ("a" ∷ "b" ∷ "c" ∷ "d" ∷ "e" ∷ "f" ∷ [])) 5 2 1
    -- the CR of an ending is no part of a name
    ∷ counts crlf_rows 3
    ∷ named crlf_rows 1 2 (bytes "b " ++ 7 ∷ 7 ∷ 7 ∷ 7 ∷ [])
    -- more than one file is refused by the calls for the data; one file under LIST serves them
    ∷ trial DataAnswer (data_place_call rows_file []) (no_data (refusal 33))
    ∷ trial CountAnswer (check_samples_call slabs_file [] 12) (no_samples (refusal 33))
    ∷ trial CountAnswer (check_samples_call floats [] 12) (no_samples (refusal 33))
    ∷ trial DataAnswer (data_place_call one_listed (replicate 24 1)) (record { refusal = fine; second = true; start = 0; length = 24 })
    -- a field and a pair under LIST are none
    ∷ trial FindAnswer (find_field_call rows_file type) (found_at 15 6)
    ∷ trial FindAnswer (find_field_call rows_file data_file) (found_at 86 4)
    ∷ trial FindAnswer (find_key_call rows_file (bytes "a")) (no_place fine)
    ∷ trial FindAnswer (find_key_call after_setting (bytes "a")) (found_at 12 1)
    ∷ trial (WriteAnswer × List ℕ) (file_name_call after_setting 1 six) (record { refusal = fine; length = 4 }, bytes "a:=b" ++ 7 ∷ 7 ∷ [])
    ∷ []

-- ---- all of them

pub record ListTrials : Type 0 where
  pub in_accepting : Hold accepted_trials
  pub in_calls : Hold call_trials
