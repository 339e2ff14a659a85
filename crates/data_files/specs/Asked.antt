-- Internal to this crate. What the functions below the calls are asked, and what they answer.
use Rattle.std.specs.Prelude.{ℕ, ◌+◌, ◌-◌, ◌*◌, ◌≤◌, ◌<◌, ◌≡◌, Bool, true, false, Result, Ok, Err, List, [], ◌++◌, nat_lt, nat_le, length, drop, slice_index_or, if◌then◌else◌}
use Rattle.format.specs.declared.WriteAnswer.{WriteAnswer}
use Rattle.format.specs.declared.ShareAnswer.{ShareAnswer}
use Rattle.format.specs.declared.reason.Refused.{Refused}
use Rattle.format.specs.Bytes.{is_some, over}
use Rattle.format.specs.Limits.{max_header, max_extent}
use Rattle.format.specs.Refusals.{lent_too_short, bad_coordinates, refusal, fine}
use Rattle.format.specs.Reasons.{refusal_of}
use Rattle.format.specs.Lines.{Line, line, eof, text, lines, unlines}
use Rattle.format.specs.Fields.{Given}
use Rattle.format.specs.DataFiles.{is_list, data_file_said, files_said}
use Rattle.format.specs.Descriptors.{file_count_of}
use Rattle.format.specs.FileNames.{share, share_file, share_byte}
use Rattle.format.specs.Header.{Entry, accepted, header, field_lines}
use Rattle.format.specs.Files.{no_name, no_share}
use Rattle.data_files.specs.declared.shares.Share.{Share}

-- ---- names

-- a name goes to a lent buffer, which is too short or is not
abbrev pub stored_name : List ℕ → List ℕ → WriteAnswer × List ℕ
stored_name name out =
    if nat_lt (length out) (length name) then (no_name (refusal lent_too_short), out)
    else (record { refusal = fine; length = length name }, over name out)

-- a file whose header is accepted, with so many lines, and so many before the names under LIST; n is the number of one of its files
pub record Asked (file : List ℕ) (n count before : ℕ) : Type 0 where
  pub entries : List Entry
  pub fields : List Given
  pub after : List Line
  pub is : header file ≡ accepted entries fields after
  pub many : count ≡ length entries
  pub first : before ≡ field_lines entries
  pub below : n < file_count_of fields

-- the text of the line after so many others
abbrev pub line_text : List ℕ → ℕ → List ℕ
line_text file n = text (slice_index_or (lines file) n (line [] eof))

-- from the place `at` of a file on there are lines within the limit of a header; the one after `count` of them has the text t
pub record Ahead (file : List ℕ) (at count : ℕ) (t : List ℕ) : Type 0 where
  pub first : List Line
  pub after : List Line
  pub split : lines (drop at file) ≡ first ++ after
  pub short : at + length (unlines first) ≤ max_header
  pub many : count < length first
  pub is : text (slice_index_or first count (line [] eof)) ≡ t

-- the n-th number from the first on
abbrev pub value_at : ℕ → Bool → ℕ → ℕ → ℕ
value_at first false size n = first + n * size
value_at first true size n = first - n * size

-- a right descriptor of a data file that is not LIST; n is the number of one of its files
pub record NameAsked (t : List ℕ) (n : ℕ) : Type 0 where
  pub no_list : is_list t ≡ false
  pub right : is_some (data_file_said t) ≡ true
  pub below : n < files_said (data_file_said t) 0
  pub short : length t ≤ max_header

-- ---- shares

-- there are a file and a sample in each share, and all samples together are within the limit
pub record Shared (samples files bytes : ℕ) : Type 0 where
  pub some_file : 1 ≤ files
  pub some_sample : 1 ≤ share samples files
  pub few : samples * bytes ≤ max_extent

-- a share as callers in C have it
abbrev pub share_answered : Result Share Refused → ShareAnswer
share_answered (Ok s) = record { refusal = fine; file = s.file; byte = s.byte }
share_answered (Err refused) = no_share (refusal_of refused)

-- the place of a sample among so many, in so many files, with samples of so many bytes
abbrev pub share_in : ℕ → ℕ → ℕ → ℕ → ShareAnswer
share_in samples files bytes s =
    if nat_le samples s then no_share (refusal bad_coordinates)
    else record { refusal = fine; file = share_file samples files s; byte = share_byte samples files bytes s }
