-- What the call for a sweep says of every file, beyond its definition, as one statement: `SweepLaws`.
use Rattle.std.specs.Prelude.{ℕ, ◌*◌, ◌≤◌, ◌<◌, ◌≡◌, List, [], ℤ, pos, length, slice_index, slice_index_or, if◌then◌else◌}
use Rattle.std.proofs.Math.Option.{Option, none, some}
use Rattle.format.specs.declared.Refusal.{Refusal}
use Rattle.format.specs.Lines.{Line}
use Rattle.format.specs.Fields.{Given}
use Rattle.format.specs.Header.{Entry, accepted, header, value_of}
use Rattle.format.specs.Room.{Enough, samples_room}
use Rattle.format.specs.Calls.{read_header_call, samples_call}
use Rattle.format.specs.Laws.{AllBytes}
use Rattle.roof_steps.specs.StepLaws.{Says}
use Rattle.roof_sweep.specs.Sweeps.{utc_offset, offset_said, offset_of, row_length, row_count, stamps_in, sweep_call, sweep_entry}

-- a call answers the number of its refusal, 0 where nothing is refused
abbrev pub NotRefused : Refusal → Type 0
NotRefused r = r.number ≡ 0

abbrev pub Refused : Refusal → Type 0
Refused r = NotRefused r → ⊥

-- the offset that a value says, if there is one
abbrev pub offset_in : Option (List ℕ) → Option ℕ
offset_in none = none
offset_in (some v) = offset_said v

pub record SweepLaws : Type 0 where
  -- a refused call leaves the list, and every lent byte, as it was
  pub list_kept : (file : List ℕ) (list : List ℤ) (largest : ℕ) → Refused (sweep_call file list largest).0.refusal → (sweep_call file list largest).1 ≡ list
  pub bytes_kept : (file list : List ℕ) (largest : ℕ) → AllBytes list → Refused (sweep_entry file list largest).0.refusal → (sweep_entry file list largest).1 ≡ list
  -- an accepted one leaves in it what the sample call would
  pub list_filled : (file : List ℕ) (list : List ℤ) (largest : ℕ) → NotRefused (sweep_call file list largest).0.refusal → (sweep_call file list largest).1 ≡ (samples_call file [] list).1
  -- the text that the look-up finds says what the key's value says, which is that of its last pair
  pub offset_is : (file : List ℕ) {es : List Entry} {gs : List Given} {ls : List Line} → header file ≡ accepted es gs ls → offset_of file ≡ offset_in (value_of utc_offset es)
  -- the stamp of each row is its first sample
  pub stamp_is : (file : List ℕ) (list : List ℤ) (largest : ℕ) → NotRefused (sweep_call file list largest).0.refusal
      → let r = (read_header_call file).reading in let zs = (sweep_call file list largest).1 in
      (row : ℕ) → row < row_count r → pos (slice_index (stamps_in r zs) row) ≡ slice_index_or zs (row * row_length r) (pos 0)
  -- the answer tells the first row with a wrong step, or that none has (roof_steps/specs/StepLaws)
  pub row_is : (file : List ℕ) (list : List ℤ) (largest : ℕ) → NotRefused (sweep_call file list largest).0.refusal
      → let a = sweep_call file list largest in Says largest (stamps_in (read_header_call file).reading a.1) (if a.0.wrong then some a.0.row else none)
  -- a list of as many samples as the sizes ask for is long enough
  pub room_enough : (file : List ℕ) (list : List ℤ) (largest : ℕ) → samples_room (header file) ≤ length list → Enough (sweep_call file list largest).0.refusal
