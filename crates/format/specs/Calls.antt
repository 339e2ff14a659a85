-- The whole answer of each public call: its result and every lent byte and entry as it returns, refused or not.
-- The rules fix the part that comes with a refused data call, and that a refused setting leaves length and count;
-- with any other refusal come zeros (docs/DECISIONS.md, "What comes with a refusal").
use Rattle.std.specs.Prelude.{ℕ, ◌+◌, ◌-◌, true, false, List, [], ◌∷◌, ◌++◌, ◌==◌, nat_lt, ℤ, length, replicate, if◌then◌else◌}
use Rattle.std.proofs.Math.Option.{Option, none, some}
use Rattle.format.specs.declared.Refusal.{Refusal}
use Rattle.format.specs.declared.Reading.{Reading}
use Rattle.format.specs.declared.ReadAnswer.{ReadAnswer}
use Rattle.format.specs.declared.FindAnswer.{FindAnswer}
use Rattle.format.specs.declared.ValueAnswer.{ValueAnswer}
use Rattle.format.specs.declared.DataAnswer.{DataAnswer}
use Rattle.format.specs.declared.CountAnswer.{CountAnswer}
use Rattle.format.specs.declared.NumberAnswer.{NumberAnswer}
use Rattle.format.specs.declared.WriteAnswer.{WriteAnswer}
use Rattle.format.specs.declared.SetAnswer.{SetAnswer}
use Rattle.format.specs.Bytes.{is_some, over}
use Rattle.format.specs.Limits.{max_axes}
use Rattle.format.specs.Refusals.{lent_too_short, bad_coordinates, refusal, fine}
use Rattle.format.specs.Lines.{text, size}
use Rattle.format.specs.Pairs.{Marked, unmarked, field_mark, pair_mark, mark, escape}
use Rattle.format.specs.Fields.{Given, given, named, is_given, space_origin, space_directions, measurement_frame}
use Rattle.format.specs.Descriptors.{from_descriptor, bytes_forward, is_from_end, is_detached, dimension_of, type_of, encoding_of, endian_of, sizes_of, line_skip_of, byte_skip_of, space_of, space_size_of, extent_of, sample_bytes, number_kind, product, file_count_of}
use Rattle.format.specs.Header.{Item, pair_of, given_of, Entry, entry, Outcome, refused, accepted, header, version_of, value_of, value_in, table_of, header_length, field_lines}
use Rattle.format.specs.Data.{Place, nowhere, part, place_of, part_of}
use Rattle.format.specs.Samples.{Decoded, samples_of}
use Rattle.format.specs.Axes.{inside, sample_number}
use Rattle.format.specs.Writer.{file_bytes, write_refusal}
use Rattle.format.specs.Settings.{Lent, lent, Setting, setting, SetOutcome, kept, changed, set_key, has_key}

-- ---- read_header::read_header: the reading without the table

unfoldable pub no_reading : Reading
no_reading =
    record { version = 0; form = 0; dimension = 0; sampletype = 0; encoding = 0; endian = 0; sizes = replicate max_axes 0; lineskip = 0; byteskip = 0; extent = 0; length = 0; lines = 0; fromend = false; origin = false; directions = false; frame = false; space = 0; spacedimension = 0; files = 0; fieldlines = 0 }

abbrev pub form_of : List Given → ℕ
form_of gs = if is_detached gs then 1 else 0

-- sizes, 0 past the last axis
abbrev pub padded : List ℕ → List ℕ
padded ns = ns ++ replicate (max_axes - length ns) 0

-- the reading of a header of so many bytes and lines, so many of them before the names under LIST, by its version and what is given
abbrev pub reading_at : ℕ → List Given → ℕ → ℕ → ℕ → Reading
reading_at version gs bytes count before =
    record {
      version = version;
      form = form_of gs;
      dimension = dimension_of gs;
      sampletype = type_of gs;
      encoding = encoding_of gs;
      endian = endian_of gs;
      sizes = padded (sizes_of gs);
      lineskip = line_skip_of gs;
      byteskip = bytes_forward (byte_skip_of gs);
      extent = extent_of gs;
      length = bytes;
      lines = count;
      fromend = is_from_end (byte_skip_of gs);
      origin = is_given space_origin gs;
      directions = is_given space_directions gs;
      frame = is_given measurement_frame gs;
      space = space_of gs;
      spacedimension = space_size_of gs;
      files = file_count_of gs;
      fieldlines = before;
    }

unfoldable pub reading_of : List Entry → List Given → Reading
reading_of es gs = reading_at (version_of es) gs (header_length es) (length es) (field_lines es)

abbrev pub read_answer : Outcome → ReadAnswer
read_answer (refused r) = record { refusal = r; reading = no_reading }
read_answer (accepted es gs ls) = record { refusal = fine; reading = reading_of es gs }

abbrev pub read_header_call : List ℕ → ReadAnswer
read_header_call file = read_answer (header file)

-- ---- read_header::read: the reading, then 22 for the table; the lent table as it returns

-- the answer and the table, by the reading of the file
unfoldable pub with_table : List ℕ → Outcome → ReadAnswer × List ℕ
with_table table (refused r) = (read_answer (refused r), table)
with_table table (accepted es gs ls) =
    if nat_lt (length table) (length es) then (read_answer (refused (refusal lent_too_short)), table)
    else (read_answer (accepted es gs ls), over (table_of es) table)

abbrev pub read_call : List ℕ → List ℕ → ReadAnswer × List ℕ
read_call file table = with_table table (header file)

-- ---- read_lookup::find_key, read_lookup::find_field: where the bytes lie in the file, or that they are absent; which bytes these are says specs/Found.antt

abbrev pub no_place : Refusal → FindAnswer
no_place r = record { refusal = r; found = false; start = 0; length = 0 }

abbrev pub found_at : ℕ → ℕ → FindAnswer
found_at at n = record { refusal = fine; found = true; start = at; length = n }

-- the value's text of a pair, in a line that starts at `at`: it follows the key's text and `:=`
abbrev pub pair_place : ℕ → Option (List ℕ × List ℕ) → FindAnswer
pair_place at none = no_place fine
pair_place at (some p) = found_at (at + (length (escape p.0) + 2)) (length (escape p.1))

abbrev pub value_place : ℕ → Item → FindAnswer
value_place at i = pair_place at (pair_of i)

-- the place of the value's text in the last line with the key, in entries that start at `at`
unfoldable pub key_place : List ℕ → ℕ → List Entry → FindAnswer
key_place k at [] = no_place fine
key_place k at (entry l i ∷ es) =
    if has_key k es then key_place k (at + size l) es
    else if is_some (value_in k i) then value_place at i
    else no_place fine

abbrev pub find_key_in : List ℕ → Outcome → FindAnswer
find_key_in k (refused r) = no_place r
find_key_in k (accepted es gs ls) = key_place k 0 es

abbrev pub find_key_call : List ℕ → List ℕ → FindAnswer
find_key_call file k = find_key_in k (header file)

-- what follows the mark of a field's line
abbrev pub after_mark : Marked → List ℕ
after_mark unmarked = []
after_mark (field_mark n rest) = rest
after_mark (pair_mark k v) = []

-- how many bytes of a field's line stand before its descriptor
abbrev pub before_descriptor : ℕ → List ℕ → ℕ
before_descriptor f t = length t - length (from_descriptor f (after_mark (mark t)))

-- the place of the descriptor that a line gives the field f, or what the lines after it say
abbrev pub given_place : ℕ → ℕ → List ℕ → Option Given → FindAnswer → FindAnswer
given_place f at t none rest = rest
given_place f at t (some (given g d)) rest = if f == g then found_at (at + before_descriptor f t) (length d) else rest
given_place f at t (some (named n)) rest = rest

abbrev pub descriptor_place : ℕ → ℕ → List ℕ → Item → FindAnswer → FindAnswer
descriptor_place f at t i rest = given_place f at t (given_of i) rest

unfoldable pub field_place : ℕ → ℕ → List Entry → FindAnswer
field_place f at [] = no_place fine
field_place f at (entry l i ∷ es) = descriptor_place f at (text l) i (field_place f (at + size l) es)

abbrev pub find_field_in : ℕ → Outcome → FindAnswer
find_field_in f (refused r) = no_place r
find_field_in f (accepted es gs ls) = field_place f 0 es

abbrev pub find_field_call : List ℕ → ℕ → FindAnswer
find_field_call file f = find_field_in f (header file)

-- ---- read_lookup::copy_value: the value of a key, escapes resolved, at the front of a lent buffer; 22 if it is short

abbrev pub no_value : Refusal → ValueAnswer
no_value r = record { refusal = r; found = false; length = 0 }

abbrev pub copy_value : List ℕ → Option (List ℕ) → ValueAnswer × List ℕ
copy_value buf none = (no_value fine, buf)
copy_value buf (some v) =
    if nat_lt (length buf) (length v) then (no_value (refusal lent_too_short), buf)
    else (record { refusal = fine; found = true; length = length v }, over v buf)

abbrev pub copy_value_in : List ℕ → List ℕ → Outcome → ValueAnswer × List ℕ
copy_value_in k buf (refused r) = (no_value r, buf)
copy_value_in k buf (accepted es gs ls) = copy_value buf (value_of k es)

abbrev pub copy_value_call : List ℕ → List ℕ → List ℕ → ValueAnswer × List ℕ
copy_value_call file k buf = copy_value_in k buf (header file)

-- ---- data_place::data_place and data_place::data

abbrev pub no_data : Refusal → DataAnswer
no_data r = record { refusal = r; second = false; start = 0; length = 0 }

abbrev pub data_answer : Place → DataAnswer
data_answer (nowhere n) = no_data (refusal n)
data_answer (part s start n) = record { refusal = fine; second = s; start = start; length = n }

abbrev pub data_place_in : List ℕ → List ℕ → Outcome → DataAnswer
data_place_in file second (refused r) = no_data r
data_place_in file second (accepted es gs ls) = data_answer (place_of false gs (header_length es) file second)

abbrev pub data_place_call : List ℕ → List ℕ → DataAnswer
data_place_call file second = data_place_in file second (header file)

-- the bytes of the part, none with a refusal; `data_place_call` has the refusal's number and line
abbrev pub data_in : List ℕ → List ℕ → Outcome → List ℕ
data_in file second (refused r) = []
data_in file second (accepted es gs ls) = part_of (place_of false gs (header_length es) file second) file second

abbrev pub data_call : List ℕ → List ℕ → List ℕ
data_call file second = data_in file second (header file)

-- where the part starts, as a pointer (block and offset): in the file that holds it; with a refusal the start of the header's file
abbrev pub data_pointer : ℕ × ℕ → ℕ × ℕ → DataAnswer → ℕ × ℕ
data_pointer file second d = if d.second then (second.0, d.start + second.1) else (file.0, d.start + file.1)

-- ---- data_samples::check_samples and data_samples::samples: a list of `room` entries is lent

abbrev pub no_samples : Refusal → CountAnswer
no_samples r = record { refusal = r; count = 0 }

-- how many samples the sizes ask for
abbrev pub count_of : List Given → ℕ
count_of gs = product (sizes_of gs)

abbrev pub decoded : List Given → List ℕ → Decoded
decoded gs s = samples_of (encoding_of gs) (number_kind (type_of gs)) (sample_bytes (type_of gs)) (endian_of gs) (count_of gs) s

abbrev pub answer_decoded : ℕ → Decoded → CountAnswer
answer_decoded n d = if d.number == 0 then record { refusal = fine; count = n } else no_samples (refusal d.number)

abbrev pub check_at : List Given → Place → ℕ → List ℕ → List ℕ → CountAnswer
check_at gs (nowhere n) room file second = no_samples (refusal n)
check_at gs (part s start n) room file second =
    if nat_lt room (count_of gs) then no_samples (refusal lent_too_short)
    else answer_decoded (count_of gs) (decoded gs (part_of (part s start n) file second))

abbrev pub check_in : ℕ → List ℕ → List ℕ → Outcome → CountAnswer
check_in room file second (refused r) = no_samples r
check_in room file second (accepted es gs ls) = check_at gs (place_of true gs (header_length es) file second) room file second

abbrev pub check_samples_call : List ℕ → List ℕ → ℕ → CountAnswer
check_samples_call file second room = check_in room file second (header file)

-- the samples where nothing is refused
abbrev pub seen_in : List ℕ → List ℕ → Outcome → List ℤ
seen_in file second (refused r) = []
seen_in file second (accepted es gs ls) = (decoded gs (part_of (place_of true gs (header_length es) file second) file second)).seen

-- the lent list as it returns: the samples at its front, or as it was where they are refused
abbrev pub list_after : CountAnswer → List ℤ → List ℤ → List ℤ
list_after a zs list = if a.refusal.number == 0 then over zs list else list

abbrev pub samples_call : List ℕ → List ℕ → List ℤ → CountAnswer × List ℤ
samples_call file second list =
    let a = check_samples_call file second (length list) in (a, list_after a (seen_in file second (header file)) list)

-- ---- data_place::sample_number

abbrev pub number_answer : List ℕ → Outcome → NumberAnswer
number_answer cs (refused r) = record { refusal = r; number = 0 }
number_answer cs (accepted es gs ls) =
    if inside (sizes_of gs) cs then record { refusal = fine; number = sample_number (sizes_of gs) cs }
    else record { refusal = refusal bad_coordinates; number = 0 }

abbrev pub sample_number_call : List ℕ → List ℕ → NumberAnswer
sample_number_call file cs = number_answer cs (header file)

-- ---- write_file::write: the answer, and the lent buffer as it returns

abbrev pub write_answer : ℕ → List ℕ → List ℕ → WriteAnswer × List ℕ
write_answer n file out =
    if n == 0 then (record { refusal = fine; length = length file }, over file out)
    else (record { refusal = refusal n; length = 0 }, out)

abbrev pub write_call : ℕ → List ℕ → ℕ → ℕ → ℕ → List ℤ → List ℕ → WriteAnswer × List ℕ
write_call version sizes t e endian zs out =
    write_answer (write_refusal version sizes t e endian zs (length out)) (file_bytes version sizes t e endian zs) out

-- ---- set_key::set_key: the answer, and the lent buffer and table as it returns

abbrev pub set_answer : List ℕ → ℕ → List ℕ → ℕ → SetOutcome → SetAnswer × (List ℕ × List ℕ)
set_answer buf used table count (kept r) = (record { refusal = r; length = used; count = count }, (buf, table))
set_answer buf used table count (changed (lent buf' used' table' count')) =
    (record { refusal = fine; length = used'; count = count' }, (buf', table'))

abbrev pub set_key_call : List ℕ → ℕ → List ℕ → ℕ → List ℕ → List ℕ → SetAnswer × (List ℕ × List ℕ)
set_key_call buf used table count k v = set_answer buf used table count (set_key (lent buf used table count) (setting k v))

-- ---- lists of settings (rules, "Lists of settings"): each setting is lent what the one before it left

-- a call that sets a key: buffer, used length, table, count, key, value
abbrev pub SetCall : Type 0
SetCall = List ℕ → ℕ → List ℕ → ℕ → List ℕ → List ℕ → SetAnswer × (List ℕ × List ℕ)

-- a call on what is lent
abbrev pub call_on : SetCall → Lent → Setting → SetAnswer × (List ℕ × List ℕ)
call_on call (lent buf used table count) (setting k v) = call buf used table count k v

-- what a call left, with the length and the count that it answered
abbrev pub left : SetAnswer × (List ℕ × List ℕ) → Lent
left a = lent a.1.0 a.0.length a.1.1 a.0.count

-- the settings accepted so far, the last of them first; the number 0 says that nothing is refused
abbrev pub recorded : SetAnswer → Setting → List Setting → List Setting
recorded a s done = if a.refusal.number == 0 then s ∷ done else done

-- what is lent after the list, and the settings accepted; `done` were accepted before
unfoldable pub set_keys_by : SetCall → List Setting → Lent → List Setting → Lent × List Setting
set_keys_by call [] l done = (l, done)
set_keys_by call (s ∷ ss) l done = let a = call_on call l s in set_keys_by call ss (left a) (recorded a.0 s done)

abbrev pub set_keys : List Setting → Lent → List Setting → Lent × List Setting
set_keys = set_keys_by set_key_call
