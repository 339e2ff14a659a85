-- Room that is always enough, as one statement: `RoomEnough`, over the definitions of format/specs/Room.antt. The room of a listing is
-- not in it: that is claimed by the contracts of listing_text::listing and craneholt_listing alone.
use Rattle.std.specs.Prelude.{ℕ, ◌≤◌, ◌≡◌, List, ℤ, length}
use Rattle.format.specs.declared.Axis.{Axis}
use Rattle.format.specs.Refusals.{extent_too_large}
use Rattle.format.specs.Header.{header}
use Rattle.format.specs.Calls.{read_header_call, read_call, find_key_call, copy_value_call, samples_call, write_call, set_key_call}
use Rattle.format.specs.Orientation.{origin_entry, directions_entry, frame_entry}
use Rattle.format.specs.Files.{file_name_call}
use Rattle.format.specs.AxisRecords.{axes_call, axes_entry}
use Rattle.format.specs.Room.{Enough, table_entries, write_room, value_room, Copied, name_room, samples_room, set_room, origin_room, directions_room, frame_room, axis_records, axes_room}

pub record RoomEnough : Type 0 where
  -- a reading's refusals end at 15, so that 22 is never one of them
  pub reading_numbers : (file : List ℕ) → (read_header_call file).refusal.number ≤ extent_too_large
  -- with so many entries the reading with the table answers as the one without it
  pub table_enough : (file table : List ℕ) → table_entries ≤ length table → (read_call file table).0 ≡ read_header_call file
  -- the length that `find_key` tells is enough for the value
  pub value_enough : (file k buf : List ℕ) → value_room (find_key_call file k) ≤ length buf → Copied (find_key_call file k) (copy_value_call file k buf).0
  -- the name of any data file (W5)
  pub name_enough : (file : List ℕ) (n : ℕ) (out : List ℕ) → name_room ≤ length out → Enough (file_name_call file n out).0.refusal
  -- as many entries as the sizes ask for
  pub samples_enough : (file second : List ℕ) (list : List ℤ) → samples_room (header file) ≤ length list → Enough (samples_call file second list).0.refusal
  -- a file of these samples
  pub write_enough : (version : ℕ) (sizes : List ℕ) (t e endian : ℕ) (zs : List ℤ) (out : List ℕ) → write_room (length zs) ≤ length out → Enough (write_call version sizes t e endian zs out).0.refusal
  -- with such a table and buffer no setting is refused by 22
  pub set_enough : (buf : List ℕ) (used : ℕ) (table : List ℕ) (count : ℕ) (k v : List ℕ) → table_entries ≤ length table → set_room used k v ≤ length buf → Enough (set_key_call buf used table count k v).0.refusal
  -- the decimals of an origin, of all directions and of a measurement frame
  pub origin_enough : (file list : List ℕ) → origin_room ≤ length list → Enough (origin_entry file list).0.refusal
  pub directions_enough : (file list : List ℕ) → directions_room ≤ length list → Enough (directions_entry file list).0.refusal
  pub frame_enough : (file list : List ℕ) → frame_room ≤ length list → Enough (frame_entry file list).0.refusal
  -- the records of all axes, in a list of records and in bytes (W6)
  pub records_enough : (file : List ℕ) (list : List Axis) → axis_records ≤ length list → Enough (axes_call file list).0.refusal
  pub axes_enough : (file list : List ℕ) → axes_room ≤ length list → Enough (axes_entry file list).0.refusal
