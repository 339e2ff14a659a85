-- What refused calls, writing and lists of settings do to the bytes that callers in C lend, beyond what each entry point's own contract says, as one statement: `CallersHold`.
-- A refused call leaves them, what is written is read back (headers with their orientation too: W2), and every list of settings keeps what it does not set.
-- It speaks of what the entry points answer, which their contracts cite (EntryPoints.antt, Calls.antt, Files.antt, Orientation.antt, AxisRecords.antt, Listing.antt), over the
-- bytes that callers lend, however many. Numbers in lent bytes have their low byte first: 4 bytes an entry of a table, 8 a size or a sample (Boundary.antt), 32 an axis record.
use Rattle.std.specs.Prelude.{ℕ, ◌*◌, ◌/◌, ◌≤◌, ◌<◌, ◌≡◌, not, ◌==◌, length, take, drop, if◌then◌else◌}
use mathlib.Core.List.{List, [], map, flat_map}
use Rattle.std.proofs.Math.Option.{none}
use Rattle.format.specs.declared.Refusal.{Refusal}
use Rattle.format.specs.declared.CountAnswer.{CountAnswer}
use Rattle.format.specs.declared.Axis.{Axis}
use Rattle.format.specs.Bytes.{is_empty, over, is_some, or_else, or_default}
use Rattle.format.specs.Refusals.{fine}
use Rattle.format.specs.Lines.{Line}
use Rattle.format.specs.Fields.{Given}
use Rattle.format.specs.Descriptors.{sample_bytes}
use Rattle.format.specs.Header.{Entry, accepted, header, value_of, header_length, field_lines}
use Rattle.format.specs.Writer.{data_bytes}
use Rattle.format.specs.Settings.{Lent, lent, Setting}
use Rattle.format.specs.Calls.{read_header_call, copy_value, copy_value_call, data_place_call, call_on, left, set_keys_by, set_keys}
use Rattle.format.specs.Files.{file_count_call, file_name_call, sample_file_call}
use Rattle.format.specs.Listing.{listing_call}
use Rattle.format.specs.Boundary.{entry_bytes, word_bytes, numbers_of, samples_lent, decimals_lent}
use Rattle.format.specs.Orientation.{origin_call, direction_call, frame_call, listed, direction_decimals, origin_entry, directions_entry, frame_entry}
use Rattle.format.specs.AxisRecords.{axes_of, axes_call, axes_bytes, axes_entry}
use Rattle.format.specs.HeaderWriter.{Orientation, orientation, orientation_of}
use Rattle.format.specs.EntryPoints.{read_entry, samples_entry, write_entry, shape_lent, columns_lent, write_header_entry, set_key_entry}
use Rattle.format.specs.Laws.{AllBytes}
use Rattle.theorem_roundtrip.specs.RoundTrip.{read_back, data_back}
use Rattle.theorem_headers.specs.HeadersBack.{origin_given, directions_given, frame_given, size_given, meant_orientation, read_back as header_back, origin_back, direction_back, frame_back}
use Rattle.theorem_lists.specs.Lists.{table_in, count_in, file_in, last_accepted, resized, moved_axis, Settled, first_case, set_cases}

-- a call answers the number of its refusal, 0 where nothing is refused (rules, "Numbers of refusal")
abbrev pub NotRefused : Refusal → Type 0
NotRefused r = r.number ≡ 0

abbrev pub Refused : Refusal → Type 0
Refused r = NotRefused r → ⊥

-- ---- a refused call leaves every lent byte as it was (rules, "Numbers of refusal")

pub record RefusedKeeps : Type 0 where
  -- craneholt_read: the table
  pub read : (file table : List ℕ) → AllBytes table
      → Refused (read_entry file table).0.refusal → (read_entry file table).1 ≡ table
  -- craneholt_copy_value: the buffer
  pub value : (file key out : List ℕ)
      → Refused (copy_value_call file key out).0.refusal → (copy_value_call file key out).1 ≡ out
  -- craneholt_samples: the list
  pub samples : (file second list : List ℕ) → AllBytes list
      → Refused (samples_entry file second list).0.refusal → (samples_entry file second list).1 ≡ list
  -- craneholt_origin, craneholt_directions, craneholt_frame: the list
  pub origin : (file list : List ℕ)
      → Refused (origin_entry file list).0.refusal → (origin_entry file list).1 ≡ list
  pub directions : (file list : List ℕ)
      → Refused (directions_entry file list).0.refusal → (directions_entry file list).1 ≡ list
  pub frame : (file list : List ℕ)
      → Refused (frame_entry file list).0.refusal → (frame_entry file list).1 ≡ list
  -- craneholt_file_name: the buffer (W5)
  pub name : (file : List ℕ) (n : ℕ) (out : List ℕ)
      → Refused (file_name_call file n out).0.refusal → (file_name_call file n out).1 ≡ out
  -- craneholt_axes: the list; and the list of records that `read_records::list::axes` is lent (W6)
  pub axes : (file list : List ℕ)
      → Refused (axes_entry file list).0.refusal → (axes_entry file list).1 ≡ list
  pub records : (file : List ℕ) (list : List Axis)
      → Refused (axes_call file list).0.refusal → (axes_call file list).1 ≡ list
  -- craneholt_write: the buffer
  pub write : (version : ℕ) (sizes : List ℕ) (t e endian : ℕ) (samples out : List ℕ)
      → Refused (write_entry version sizes t e endian samples out).0.refusal → (write_entry version sizes t e endian samples out).1 ≡ out
  -- craneholt_write_header: the buffer
  pub written_header : (version : ℕ) (sizes : List ℕ) (t e endian : ℕ) (orientation out : List ℕ)
      → Refused (write_header_entry version sizes t e endian orientation out).0.refusal → (write_header_entry version sizes t e endian orientation out).1 ≡ out
  -- craneholt_set_key: buffer and table; used length and count are answered as they were lent
  pub set : (buf : List ℕ) (used : ℕ) (table : List ℕ) (count : ℕ) (key value : List ℕ) → AllBytes table
      → Refused (set_key_entry buf used table count key value).0.refusal
      → left (set_key_entry buf used table count key value) ≡ lent buf used table count
  -- craneholt_listing: the buffer
  pub listing : (file out : List ℕ)
      → Refused (listing_call file out).0.refusal → (listing_call file out).1 ≡ out

-- ---- what craneholt_write wrote is read back (rules, "Writer")

-- the bytes of the whole samples; a rest too short for one is not used
abbrev pub whole_samples : List ℕ → List ℕ
whole_samples s = take (word_bytes * (length s / word_bytes)) s

abbrev pub count_of_samples : List ℕ → CountAnswer
count_of_samples s = record { refusal = fine; count = length s / word_bytes }

-- the buffer `out` was lent and came back as `after`, with a file of `written` bytes at its front; whatever second file and list are lent to the readers
pub record FileReadBack (version : ℕ) (sizes : List ℕ) (t e endian : ℕ) (samples out : List ℕ) (written : ℕ) (after : List ℕ) : Type 0 where
  -- the file fits, and bytes past it are as they were
  pub fits : written ≤ length out
  pub past : drop written after ≡ drop written out
  -- craneholt_read_header answers the numbers that went in (RoundTrip.antt)
  pub reading : read_header_call (take written after) ≡ read_back version (numbers_of word_bytes sizes) t e endian
  -- craneholt_data: right after the header to the end of the file, and the bytes there are the data that was to be written
  pub place : (second : List ℕ) → data_place_call (take written after) second ≡ data_back version (numbers_of word_bytes sizes) t e endian (samples_lent samples)
  pub part : (second : List ℕ) → let d = data_place_call (take written after) second in
      take d.length (drop d.start (take written after)) ≡ data_bytes e (sample_bytes t) endian (samples_lent samples)
  -- craneholt_samples with room for them: as many, and the very bytes that were lent at the front of the list; the rest of it as it was
  pub back : (second list : List ℕ) → AllBytes list → length (whole_samples samples) ≤ length list
      → samples_entry (take written after) second list ≡ (count_of_samples samples, over (whole_samples samples) list)

-- of everything that craneholt_write accepts
abbrev pub WritesAreRead : Type 0
WritesAreRead =
    (version : ℕ) (sizes : List ℕ) (t e endian : ℕ) (samples out : List ℕ) → AllBytes samples
    → let a = write_entry version sizes t e endian samples out in
    NotRefused a.0.refusal → FileReadBack version sizes t e endian samples out a.0.length a.1

-- ---- a header that craneholt_write_header wrote is read back with its orientation (W2)

-- the orientation that the lent bytes hold (EntryPoints.antt); without bytes nothing is given
abbrev pub orientation_lent : List ℕ → Orientation
orientation_lent s =
    if is_empty s then orientation none none none none none
    else orientation_of (shape_lent s) (decimals_lent (take 128 (drop 32 s))) (columns_lent 16 (drop 160 s)) (columns_lent 8 (drop 2208 s))

-- the buffer `out` was lent and came back as `after`, with a header of `written` bytes at its front, which is read as a file; o is the orientation that was given.
-- Number and power of a decimal that is a mark are not written: what is meant by o is read (HeadersBack.antt).
pub record HeaderReadBack (version : ℕ) (sizes : List ℕ) (t e endian : ℕ) (o : Orientation) (out : List ℕ) (written : ℕ) (after : List ℕ) : Type 0 where
  -- the header fits, and bytes past it are as they were
  pub fits : written ≤ length out
  pub past : drop written after ≡ drop written out
  -- craneholt_read_header answers the numbers that went in, and which parts of an orientation there are
  pub reading : read_header_call (take written after) ≡ header_back version (numbers_of word_bytes sizes) t e endian o
  -- the calls for the orientation, by value: the origin, the direction of each axis, the frame
  pub origin : origin_call (take written after) ≡ origin_back (meant_orientation o)
  pub direction : (axis : ℕ) → axis < length (numbers_of word_bytes sizes) → direction_call (take written after) axis ≡ direction_back axis (meant_orientation o)
  pub frame : frame_call (take written after) ≡ frame_back (meant_orientation o)
  -- craneholt_origin, craneholt_directions and craneholt_frame: the decimals that went in, or 22 where the list has no room for them; none where nothing was given
  pub origin_listed : (list : List ℕ) → origin_entry (take written after) list ≡ listed (or_default [] (origin_given (meant_orientation o))) list
  pub directions_listed : (list : List ℕ)
      → directions_entry (take written after) list ≡ listed (flat_map (direction_decimals (size_given o)) (or_default [] (directions_given (meant_orientation o)))) list
  pub frame_listed : (list : List ℕ) → frame_entry (take written after) list ≡ listed (flat_map (λ c. c) (or_default [] (frame_given (meant_orientation o)))) list

-- of everything that craneholt_write_header accepts
abbrev pub HeadersAreRead : Type 0
HeadersAreRead =
    (version : ℕ) (sizes : List ℕ) (t e endian : ℕ) (given out : List ℕ)
    → let a = write_header_entry version sizes t e endian given out in
    NotRefused a.0.refusal → HeaderReadBack version sizes t e endian (orientation_lent given) out a.0.length a.1

-- ---- any list of calls of craneholt_set_key after craneholt_read, each lent what the one before it left
-- (rules, "Lists of settings")

-- what is lent, its table as the numbers that the table's bytes hold
abbrev pub in_numbers : Lent → Lent
in_numbers (lent buf used table count) = lent buf used (numbers_of entry_bytes table) count

-- the bytes of as many entries as the count
abbrev pub bytes_counted : Lent → ℕ
bytes_counted l = entry_bytes * count_in l

-- an answer, and a list with the bytes of as many of these records at its front as are answered, none with a refusal
abbrev pub records_over : CountAnswer → List Axis → List ℕ → CountAnswer × List ℕ
records_over a records list = (a, over (axes_bytes (take a.count records)) list)

-- `first` was read, and `table` was lent to craneholt_read; `after` is what the list left, `done` the settings of it that were accepted
pub record Carried (first table : List ℕ) (after : Lent) (done : List Setting) : Type 0 where
  -- the first reading, and what lists of settings do (Lists.antt): header lines, data and its place, used length
  pub first_entries : List Entry
  pub first_fields : List Given
  pub first_rest : List Line
  pub reading : header first ≡ accepted first_entries first_fields first_rest
  pub settled : Settled first first_entries first_fields first_rest (in_numbers after) done
  -- the table has room for the entries of the count; past them its bytes are as lent to craneholt_read, a rest too short for one too
  pub room : bytes_counted after ≤ length (table_in after)
  pub long : length (table_in after) ≡ length table
  pub past : drop (bytes_counted after) (table_in after) ≡ drop (bytes_counted after) table
  -- a fresh craneholt_read with a table of its own, which has room, answers the first reading but for the header's length, its lines, which
  -- are as many as the count, and those before the names under LIST, and leaves the very bytes of the carried table
  pub fresh : (own : List ℕ) → AllBytes own → bytes_counted after ≤ length own
      → read_entry (file_in after) own
      ≡ (
        record { refusal = fine; reading = resized (header_length settled.entries) (count_in after) (field_lines settled.entries) (read_header_call first).reading },
        over (take (bytes_counted after) (table_in after)) own,
      )
  -- craneholt_copy_value: the value accepted last for the key, or else the one that it had in the first reading
  pub value : (key out : List ℕ) → copy_value_call (file_in after) key out ≡ copy_value out (or_else (last_accepted key done) (value_of key first_entries))
  -- craneholt_origin, craneholt_directions and craneholt_frame answer and leave what they did before, with any list
  pub origin : (list : List ℕ) → origin_entry (file_in after) list ≡ origin_entry first list
  pub directions : (list : List ℕ) → directions_entry (file_in after) list ≡ directions_entry first list
  pub frame : (list : List ℕ) → frame_entry (file_in after) list ≡ frame_entry first list
  -- craneholt_files, craneholt_file_name and craneholt_sample_file answer and leave what they did before, with any number and buffer (W5)
  pub files : file_count_call (file_in after) ≡ file_count_call first
  pub name : (n : ℕ) (out : List ℕ) → file_name_call (file_in after) n out ≡ file_name_call first n out
  pub sample_file : (s : ℕ) → sample_file_call (file_in after) s ≡ sample_file_call first s
  -- craneholt_axes answers as before, with any list, and leaves the bytes of the first records but for the places of labels and units, which move with their lines; their texts
  -- are the same (Lists.antt: `label`, `unit`). Bytes past the records are as lent (W6)
  pub axes : (list : List ℕ)
      → axes_entry (file_in after) list
      ≡ records_over (axes_entry first list).0 (map (moved_axis first_fields first_entries settled.entries) (axes_of first_entries first_fields)) list
  -- craneholt_samples answers and leaves what it did before, with any second file and list
  pub samples : (second list : List ℕ) → samples_entry (file_in after) second list ≡ samples_entry first second list

pub record SettingsAreCarried : Type 0 where
  pub lists : (buf : List ℕ) (used : ℕ) (table : List ℕ) → used ≤ length buf → AllBytes table
      → let r = read_entry (take used buf) table in
      NotRefused r.0.refusal
      → (ss : List Setting)
      → let after = set_keys_by set_key_entry ss (lent buf used r.1 r.0.reading.lines) [] in
      Carried (take used buf) table after.0 after.1
  -- whatever is lent, in such a list or not: the calls leave and accept what the calls on numbers do, so that `SettingsHold` (Lists.antt) holds of them
  pub numbers : (l : Lent) (ss : List Setting) → AllBytes (table_in l)
      → let after = set_keys_by set_key_entry ss l [] in set_keys ss (in_numbers l) [] ≡ (in_numbers after.0, after.1)
  -- past the entries of the count the table's bytes stay
  pub tables : (l : Lent) (ss : List Setting) → AllBytes (table_in l)
      → let after = (set_keys_by set_key_entry ss l []).0 in drop (bytes_counted after) (table_in after) ≡ drop (bytes_counted after) (table_in l)
  -- a call is refused by the first case that holds, and accepted, which the number 0 says, exactly when none does
  pub cases : (l : Lent) (s : Setting) → (call_on set_key_entry l s).0.refusal ≡ or_default fine (first_case (set_cases (in_numbers l) s))
  pub taken : (l : Lent) (s : Setting) → ((call_on set_key_entry l s).0.refusal.number == 0) ≡ not (is_some (first_case (set_cases (in_numbers l) s)))

-- ---- the statement

pub record CallersHold : Type 0 where
  pub refused : RefusedKeeps
  pub written : WritesAreRead
  pub headers : HeadersAreRead
  pub set : SettingsAreCarried
