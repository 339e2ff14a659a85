-- The calls for data in several files (W5): how many files there are, the name of one, and which of them a sample is in.
-- What is refused beside the reading: a file that there is not (29), then a buffer too short for its name (22); a sample that there is not (23).
use Rattle.std.specs.Prelude.{ℕ, List, nat_lt, nat_le, length, if◌then◌else◌}
use Rattle.format.specs.declared.Refusal.{Refusal}
use Rattle.format.specs.declared.CountAnswer.{CountAnswer}
use Rattle.format.specs.declared.WriteAnswer.{WriteAnswer}
use Rattle.format.specs.declared.ShareAnswer.{ShareAnswer}
use Rattle.format.specs.Bytes.{over}
use Rattle.format.specs.Refusals.{lent_too_short, bad_coordinates, no_such_file, refusal, fine}
use Rattle.format.specs.Fields.{Given, file_names}
use Rattle.format.specs.Descriptors.{data_file_of, type_of, sample_bytes, file_count_of}
use Rattle.format.specs.FileNames.{name_said, share_file, share_byte}
use Rattle.format.specs.Header.{Outcome, refused, accepted, header}
use Rattle.format.specs.Calls.{count_of}

-- ---- data_files::file_count

abbrev pub file_count_in : Outcome → CountAnswer
file_count_in (refused r) = record { refusal = r; count = 0 }
file_count_in (accepted es gs ls) = record { refusal = fine; count = file_count_of gs }

abbrev pub file_count_call : List ℕ → CountAnswer
file_count_call file = file_count_in (header file)

-- ---- data_files::file_name: the answer, and the lent buffer as it returns

-- the name of the n-th file, counted from 0
unfoldable pub file_name_of : List Given → ℕ → List ℕ
file_name_of gs n = name_said (data_file_of gs) (file_names gs) n

abbrev pub no_name : Refusal → WriteAnswer
no_name r = record { refusal = r; length = 0 }

abbrev pub file_name_in : ℕ → List ℕ → Outcome → WriteAnswer × List ℕ
file_name_in n out (refused r) = (no_name r, out)
file_name_in n out (accepted es gs ls) =
    if nat_le (file_count_of gs) n then (no_name (refusal no_such_file), out)
    else if nat_lt (length out) (length (file_name_of gs n)) then (no_name (refusal lent_too_short), out)
    else (record { refusal = fine; length = length (file_name_of gs n) }, over (file_name_of gs n) out)

abbrev pub file_name_call : List ℕ → ℕ → List ℕ → WriteAnswer × List ℕ
file_name_call file n out = file_name_in n out (header file)

-- ---- data_files::sample_file

abbrev pub no_share : Refusal → ShareAnswer
no_share r = record { refusal = r; file = 0; byte = 0 }

abbrev pub sample_file_in : ℕ → Outcome → ShareAnswer
sample_file_in s (refused r) = no_share r
sample_file_in s (accepted es gs ls) =
    if nat_le (count_of gs) s then no_share (refusal bad_coordinates)
    else record { refusal = fine; file = share_file (count_of gs) (file_count_of gs) s; byte = share_byte (count_of gs) (file_count_of gs) (sample_bytes (type_of gs)) s }

abbrev pub sample_file_call : List ℕ → ℕ → ShareAnswer
sample_file_call file s = sample_file_in s (header file)
