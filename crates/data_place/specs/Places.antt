-- Internal to the library. What the parts of the data call and of the coordinates call answer.
use Rattle.std.specs.Prelude.{ℕ, ◌-◌, ◌≤◌, ◌≡◌, Bool, true, List, ◌==◌, nat_lt, length, drop, if◌then◌else◌}
use Rattle.std.proofs.Math.Option.{Option, none, some}
use Rattle.format.specs.declared.Refusal.{Refusal}
use Rattle.format.specs.declared.Reading.{Reading}
use Rattle.format.specs.declared.NumberAnswer.{NumberAnswer}
use Rattle.format.specs.Bytes.{and_then}
use Rattle.format.specs.Limits.{max_extent}
use Rattle.format.specs.Refusals.{file_too_long, several_files, skip_past_end, data_too_short, bad_coordinates, refusal, fine}
use Rattle.format.specs.Lines.{Line}
use Rattle.format.specs.Fields.{Given}
use Rattle.format.specs.Descriptors.{raw, product}
use Rattle.format.specs.Header.{Entry, accepted, header}
use Rattle.format.specs.Data.{skip_lines, skip_bytes, Place, nowhere, part}
use Rattle.format.specs.Axes.{inside, sample_number}
use Rattle.format.specs.Calls.{reading_of, no_data, data_answer}
use Rattle.format.specs.declared.reason.Reason.{Reason}
use Rattle.format.specs.declared.reason.Refused.{Refused}
use Rattle.format.specs.declared.DataAnswer.{DataAnswer}
use Rattle.format.specs.Reasons.{reason_number, refusal_of}
use Rattle.data_place.specs.declared.place.Located.{Located}
use Rattle.std.specs.Prelude.{Option as Maybe}
use Rattle.std.specs.Prelude.{Some, None, Result, Ok, Err}

-- ---- the place of the data

-- the reading is that of the file, whose header is es with the fields gs
pub record IsReading (file : List ℕ) (reading : Reading) (es : List Entry) (gs : List Given) : Type 0 where
  pub rest : List Line
  pub header_is : header file ≡ accepted es gs rest
  pub is : reading ≡ reading_of es gs

-- what is left of s past a skip starts at a place of s
abbrev pub SkipIs : List ℕ → Option (List ℕ) → Maybe ℕ → Type 0
SkipIs s left (Some p) = (left ≡ some (drop p s)) × (p ≤ length s)
SkipIs s left None = left ≡ none

-- the place by the numbers of a reading; the data starts at `start`, with `left` bytes up to the end of the file
unfoldable pub place_by : Reading → Bool → ℕ → ℕ → Place
place_by x second start left =
    if x.encoding == raw then
    (if nat_lt left x.extent then nowhere data_too_short else part second start x.extent)
    else part second start left

-- how many of the bytes left after the lines are skipped: from the end all but the extent, none where there are fewer
abbrev pub skipped_of : Bool → ℕ → ℕ → ℕ → ℕ
skipped_of fromend byteskip extent left = if fromend then left - extent else byteskip

abbrev pub skipped_by : Reading → ℕ → ℕ
skipped_by x left = skipped_of x.fromend x.byteskip x.extent left

-- what is left of the data area past both skips
abbrev pub left_by : Reading → List ℕ → Option (List ℕ)
left_by x area = and_then (skip_lines x.lineskip area) (λ t. skip_bytes (skipped_by x (length t)) t)

-- the data starts where what is left does, which is the end of a file of `whole` bytes
abbrev pub place_left : Reading → Bool → ℕ → Option (List ℕ) → Place
place_left x second whole none = nowhere skip_past_end
place_left x second whole (some left) = place_by x second (whole - length left) (length left)

-- the number of the refusal for the files, 0 for none: there are several (33), else the second one is too long (1)
abbrev pub files_wrong : Bool → Bool → ℕ
files_wrong several long = if several then several_files else if long then file_too_long else 0

-- the place that was found, or the refusal
abbrev pub place_located : Result Located Reason → Place
place_located (Ok l) = part l.second l.place.start l.place.length
place_located (Err reason) = nowhere (reason_number reason)

-- the same as callers in C have it, with the refusal's line
abbrev pub located_answered : Result Located Refused → DataAnswer
located_answered (Ok l) = data_answer (part l.second l.place.start l.place.length)
located_answered (Err r) = no_data (refusal_of r)

-- ---- the number of a sample

-- the coordinates are one for each axis, each below its size, and the product of the sizes is within the limit
pub record Inside (sizes coords : List ℕ) : Type 0 where
  pub all : inside sizes coords ≡ true
  pub few : product sizes ≤ max_extent

abbrev pub no_number : Refusal → NumberAnswer
no_number r = record { refusal = r; number = 0 }

-- the number by the sizes
abbrev pub number_in : List ℕ → List ℕ → NumberAnswer
number_in sizes coords =
    if inside sizes coords then record { refusal = fine; number = sample_number sizes coords } else no_number (refusal bad_coordinates)
