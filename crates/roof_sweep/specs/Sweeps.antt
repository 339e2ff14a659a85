-- The roof rig's call for a sweep (W4): the samples of a file that has to be a sweep, the offset that its key says, and the first row with a
-- wrong step. It is said by the definitions of the library's calls (format/specs/Calls), of numbers in a text and in lent bytes (Words, Boundary), and of
-- the steps (roof_steps/specs/Steps).
use Rattle.std.specs.Prelude.{ℕ, Bool, not, false, ◌&&◌, List, [], ◌==◌, ℤ, length, slice_index, take, drop, if◌then◌else◌}
use Rattle.std.proofs.Math.Option.{Option, none, some}
use Rattle.roof_sweep.specs.declared.SweepAnswer.{SweepAnswer}
use Rattle.roof_steps.specs.Steps.{stamps, first_wrong}
use Rattle.format.specs.declared.Refusal.{Refusal}
use Rattle.format.specs.declared.Reading.{Reading}
use Rattle.format.specs.declared.FindAnswer.{FindAnswer}
use Rattle.format.specs.Bytes.{bytes, between, is_some, or_default}
use Rattle.format.specs.Refusals.{no_sweep, refusal, fine}
use Rattle.format.specs.Words.{number, number_in}
use Rattle.format.specs.Boundary.{samples_lent, lent_samples}
use Rattle.format.specs.Calls.{read_header_call, find_key_call, check_samples_call, samples_call}

-- ---- what a sweep is

-- numbers as a reading has them: form 0 is attached, and type 5 is uint32, counted from 0 in the rules' list
abbrev pub attached : ℕ
attached = 0

abbrev pub uint32 : ℕ
uint32 = 5

-- attached, uint32, of two axes. A detached header does not get this far: its data is in several files, or in the second one, which is empty, and the sample call refuses either
abbrev pub is_sweep : Reading → Bool
is_sweep r = r.form == attached && (r.sampletype == uint32 && r.dimension == 2)

-- axis 0 is fastest: a row has as many samples as the size of axis 0, and there are as many rows as the size of axis 1
abbrev pub row_length : Reading → ℕ
row_length r = slice_index r.sizes 0

abbrev pub row_count : Reading → ℕ
row_count r = slice_index r.sizes 1

-- ---- the offset

abbrev pub utc_offset : List ℕ
utc_offset = bytes "utc offset"

-- one digit or more and nothing else, zeros in front allowed, with a value from 0 to 255
unfoldable pub offset_said : List ℕ → Option ℕ
offset_said t = if number_in 0 255 t then number t else none

-- what the last pair with the key says. The look-up finds the value's text as it is written; where that is digits alone it has no escape, and is the value
abbrev pub offset_at : List ℕ → FindAnswer → Option ℕ
offset_at file f = if f.found then offset_said (take f.length (drop f.start file)) else none

abbrev pub offset_of : List ℕ → Option ℕ
offset_of file = offset_at file (find_key_call file utc_offset)

-- ---- the largest step that the caller may name

abbrev pub max_step : ℕ
max_step = 2_147_483_647

-- ---- the call: the answer, and the lent list as it returns

-- the offset, or none where the file is no sweep, its key says no offset, or the largest step is outside its range
unfoldable pub offset_for : List ℕ → ℕ → Option ℕ
offset_for file largest = if is_sweep (read_header_call file).reading && between 1 max_step largest then offset_of file else none

abbrev pub refused_sweep : Refusal → SweepAnswer
refused_sweep r = record { refusal = r; offset = 0; wrong = false; row = 0 }

-- where no row is wrong, `row` is 0
abbrev pub sweep_answer : ℕ → Option ℕ → SweepAnswer
sweep_answer offset row = record { refusal = fine; offset = offset; wrong = is_some row; row = or_default 0 row }

-- the stamps of a reading's rows, of the samples at the front of a list
abbrev pub stamps_in : Reading → List ℤ → List ℕ
stamps_in r zs = stamps (row_count r) (row_length r) zs

-- 28, or the samples and what their stamps tell
abbrev pub sweep_found : Option ℕ → List ℕ → List ℤ → ℕ → SweepAnswer × List ℤ
sweep_found none file list largest = (refused_sweep (refusal no_sweep), list)
sweep_found (some offset) file list largest =
    let zs = (samples_call file [] list).1 in
    (sweep_answer offset (first_wrong largest (stamps_in (read_header_call file).reading zs)), zs)

-- all refusals of the sample call come first; the second file is empty
unfoldable pub sweep_call : List ℕ → List ℤ → ℕ → SweepAnswer × List ℤ
sweep_call file list largest =
    let a = check_samples_call file [] (length list) in
    if not (a.refusal.number == 0) then (refused_sweep a.refusal, list)
    else sweep_found (offset_for file largest) file list largest

-- the same for a caller that lends the list as bytes, 8 for each sample; a rest too short for one stays
abbrev pub sweep_entry : List ℕ → List ℕ → ℕ → SweepAnswer × List ℕ
sweep_entry file list largest = let a = sweep_call file (samples_lent list) largest in (a.0, lent_samples a.1 list)
