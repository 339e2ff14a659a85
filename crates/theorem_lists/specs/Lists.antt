-- What every list of settings does (rules, "Lists of settings"), as one statement: `SettingsHold`.
-- It speaks of `set_key_call`, the definition that the setter's contract cites, and of `set_keys`, which is that call again and again.
use Rattle.std.specs.Prelude.{ℕ, ◌+◌, ◌-◌, ◌≤◌, ◌<◌, max, ◌≡◌, Bool, true, false, not, ◌&&◌, ◌||◌, List, [], ◌∷◌, ◌++◌, map, ◌==◌, nat_lt, ℤ, length, take, drop, replicate, if◌then◌else◌}
use Rattle.std.proofs.Math.Option.{Option, none, some}
use Rattle.format.specs.declared.Refusal.{Refusal}
use Rattle.format.specs.declared.Reading.{Reading}
use Rattle.format.specs.declared.DataAnswer.{DataAnswer}
use Rattle.format.specs.declared.CountAnswer.{CountAnswer}
use Rattle.format.specs.declared.Axis.{Axis}
use Rattle.format.specs.Bytes.{same, is_some, or_else, or_default, over}
use Rattle.format.specs.Limits.{max_file, max_header, max_lines}
use Rattle.format.specs.Refusals.{file_too_long, header_too_long, too_many_lines, not_in_version, lent_too_short, bad_key, bad_value, wrong_table, refusal, fine}
use Rattle.format.specs.Lines.{Line, line, Ending, ending, size, unlines}
use Rattle.format.specs.Fields.{Given, given, named, is_given, labels, units, pairs_since}
use Rattle.format.specs.Descriptors.{dimension_of}
use Rattle.format.specs.Header.{pair_of, given_of, Entry, entry, lines_of, Outcome, refused, accepted, header, version_of, value_of, table_of, header_length, field_lines}
use Rattle.format.specs.Settings.{key_fine, value_fine, pair_text, has_key, new_lines, table_fine, Lent, lent, Setting, setting}
use Rattle.format.specs.Orientation.{origin_call, direction_call, frame_call}
use Rattle.format.specs.Files.{file_count_call, file_name_call, sample_file_call}
use Rattle.format.specs.AxisRecords.{axis_of, axes_call}
use Rattle.format.specs.Calls.{read_header_call, read_call, data_place_call, data_call, samples_call, set_key_call, call_on, left, set_keys}

-- ---- parts of what is lent

abbrev pub buffer_of : Lent → List ℕ
buffer_of (lent buf used table count) = buf

abbrev pub used_of : Lent → ℕ
used_of (lent buf used table count) = used

abbrev pub table_in : Lent → List ℕ
table_in (lent buf used table count) = table

abbrev pub count_in : Lent → ℕ
count_in (lent buf used table count) = count

-- the file in the buffer
abbrev pub file_in : Lent → List ℕ
file_in l = take (used_of l) (buffer_of l)

-- ---- what accepted settings ask; `done` has them, the last one first

-- the value accepted last for a key
unfoldable pub last_accepted : List ℕ → List Setting → Option (List ℕ)
last_accepted k [] = none
last_accepted k (setting j v ∷ done) = if same k j then some v else last_accepted k done

-- a line of the key k at a value, with its ending kept; as it was where there is no value
abbrev pub held_line : Line → List ℕ → Option (List ℕ) → Line
held_line l k none = l
held_line l k (some v) = line (pair_text k v) (ending l)

-- what becomes of a header line before the entries `later`: the last line of a key that was set holds the key's last accepted value
abbrev pub settled_pair : List Setting → Line → Option (List ℕ × List ℕ) → List Entry → Line
settled_pair done l none later = l
settled_pair done l (some p) later = if has_key p.0 later then l else held_line l p.0 (last_accepted p.0 done)

unfoldable pub settled_lines : List Setting → List Entry → List Line
settled_lines done [] = []
settled_lines done (entry l i ∷ es) = settled_pair done l (pair_of i) es ∷ settled_lines done es

unfoldable pub is_key_in : List ℕ → List (List ℕ) → Bool
is_key_in k [] = false
is_key_in k (j ∷ js) = same k j || is_key_in k js

-- the accepted keys that the first file has no line for: one first accepted later stands above one first accepted earlier
unfoldable pub new_keys : List Setting → List Entry → List (List ℕ)
new_keys [] es = []
new_keys (setting k v ∷ done) es = if has_key k es || is_key_in k (new_keys done es) then new_keys done es else k ∷ new_keys done es

-- a line for each of these keys
unfoldable pub inserted_lines : List Setting → Ending → List (List ℕ) → List Line
inserted_lines done e [] = []
inserted_lines done e (k ∷ ks) = held_line (line [] e) k (last_accepted k done) ∷ inserted_lines done e ks

-- the header's lines: line 1, the inserted lines, and the first file's other lines, in order
unfoldable pub settled : List Setting → List Entry → List Line
settled done [] = []
settled done (entry l i ∷ es) = l ∷ (inserted_lines done (ending l) (new_keys done es) ++ settled_lines done es)

-- ---- what holds after a list

-- the numbers of a reading, of a header of another length, another count of lines, and another count of those before the names under LIST
abbrev pub resized : ℕ → ℕ → ℕ → Reading → Reading
resized n k before r =
    record {
      version = r.version;
      form = r.form;
      dimension = r.dimension;
      sampletype = r.sampletype;
      encoding = r.encoding;
      endian = r.endian;
      sizes = r.sizes;
      lineskip = r.lineskip;
      byteskip = r.byteskip;
      extent = r.extent;
      length = n;
      lines = k;
      fromend = r.fromend;
      origin = r.origin;
      directions = r.directions;
      frame = r.frame;
      space = r.space;
      spacedimension = r.spacedimension;
      files = r.files;
      fieldlines = before;
    }

-- the data was found, in the header's file
abbrev pub in_first : DataAnswer → Bool
in_first d = d.refusal.number == 0 && not d.second

-- the place of the data once a header of h bytes has n: data in the header's file starts as far past the header as before,
-- and a place in the second file stays, as does a refusal
abbrev pub moved_place : ℕ → ℕ → DataAnswer → DataAnswer
moved_place h n d =
    record { refusal = d.refusal; second = d.second; start = if in_first d then n + (d.start - h) else d.start; length = d.length }

-- ---- axis records (W6): a label or a unit counts by its text, and its place moves with the lines before it

-- what a line gives is the field f
abbrev pub is_field : ℕ → Option Given → Bool
is_field f none = false
is_field f (some (given g d)) = f == g
is_field f (some (named t)) = false

-- where the line that gives the field f starts in the header: after as many bytes as the lines before it have
unfoldable pub line_start : ℕ → List Entry → ℕ
line_start f [] = 0
line_start f (entry l i ∷ es) = if is_field f (given_of i) then 0 else size l + line_start f es

-- a place in that line once the header's entries es have become fs: as far past the line's start as before; 0 where the field is not given
abbrev pub moved_in : ℕ → List Given → List Entry → List Entry → ℕ → ℕ
moved_in f gs es fs p = if is_given f gs then line_start f fs + (p - line_start f es) else 0

-- the record of an axis then: the places of its label and of its unit move, all else stays
abbrev pub moved_axis : List Given → List Entry → List Entry → Axis → Axis
moved_axis gs es fs a =
    record {
      size = a.size;
      centring = a.centring;
      kind = a.kind;
      labelplace = moved_in labels gs es fs a.labelplace;
      labellength = a.labellength;
      unitplace = moved_in units gs es fs a.unitplace;
      unitlength = a.unitlength;
    }

-- an answer of `axes` and its list then: as many records as it answers have moved, those past them stay
abbrev pub moved_axes : List Given → List Entry → List Entry → CountAnswer × List Axis → CountAnswer × List Axis
moved_axes gs es fs a = (a.0, map (moved_axis gs es fs) (take a.0.count a.1) ++ drop a.0.count a.1)

-- the texts that a record tells of: the bytes of the file at their places
abbrev pub label_in : List ℕ → Axis → List ℕ
label_in file a = take a.labellength (drop a.labelplace file)

abbrev pub unit_in : List ℕ → Axis → List ℕ
unit_in file a = take a.unitlength (drop a.unitplace file)

-- `after` is what the list left, `done` the settings of it that were accepted; the first file was `first`, its header es with the fields gs,
-- before the lines ls
pub record Settled (first : List ℕ) (es : List Entry) (gs : List Given) (ls : List Line) (after : Lent) (done : List Setting) : Type 0 where
  -- a fresh reading is accepted, with the form and the descriptors of the first: the same fields are given, the same lines follow
  pub entries : List Entry
  pub reading : header (file_in after) ≡ accepted entries gs ls
  pub version : version_of entries ≡ version_of es
  -- its numbers are the first ones, but for the header's length, the count of its lines, which is the carried one, and how many of these stand before the names under LIST
  pub numbers : read_header_call (file_in after) ≡ record { refusal = fine; reading = resized (header_length entries) (count_in after) (field_lines entries) (read_header_call first).reading }
  -- the orientation is the first one: the origin, the direction of each axis, the frame (W2)
  pub origin : origin_call (file_in after) ≡ origin_call first
  pub direction : (axis : ℕ) → direction_call (file_in after) axis ≡ direction_call first axis
  pub frame : frame_call (file_in after) ≡ frame_call first
  -- as many files hold the data as in the first reading, whether one, or several by a pattern or under LIST (W5)
  pub files : file_count_call (file_in after) ≡ file_count_call first
  -- the name of each of them is the same, into whatever buffer; a number past the last is refused as before (W5)
  pub name : (n : ℕ) (out : List ℕ) → file_name_call (file_in after) n out ≡ file_name_call first n out
  -- each sample is in the same file, at the same byte of that file's share (W5)
  pub sample_file : (s : ℕ) → sample_file_call (file_in after) s ≡ sample_file_call first s
  -- the record of each axis is the first one, but for the places of its label and of its unit: each is as far past the start of its line as it was (W6)
  pub axis : (i : ℕ) → i < dimension_of gs → axis_of entries gs i ≡ moved_axis gs es entries (axis_of es gs i)
  -- where the field is given, such a place is never before the start of its line
  pub label_in_line : (i : ℕ) → i < dimension_of gs → is_given labels gs ≡ true → line_start labels es ≤ (axis_of es gs i).labelplace
  pub unit_in_line : (i : ℕ) → i < dimension_of gs → is_given units gs ≡ true → line_start units es ≤ (axis_of es gs i).unitplace
  -- the text of each label and of each unit is the same bytes (W6)
  pub label : (i : ℕ) → label_in (file_in after) (axis_of entries gs i) ≡ label_in first (axis_of es gs i)
  pub unit : (i : ℕ) → unit_in (file_in after) (axis_of entries gs i) ≡ unit_in first (axis_of es gs i)
  -- the call for the records answers as before, a refusal too, and leaves these records in whatever list; those past the dimension are as lent (W6)
  pub axes : (list : List Axis) → axes_call (file_in after) list ≡ moved_axes gs es entries (axes_call first list)
  -- a key that was set has its latest accepted value, any other key the one that it had in the first reading
  pub values : (k : List ℕ) → value_of k entries ≡ or_else (last_accepted k done) (value_of k es)
  -- the carried count and table are those of the fresh reading
  pub count : count_in after ≡ length entries
  pub table : take (count_in after) (table_in after) ≡ table_of entries
  -- a fresh reading with a table of its own, which has room for every line, answers them
  pub fresh : (own : List ℕ) → length entries ≤ length own
      → read_call (file_in after) own ≡ (read_header_call (file_in after), over (take (count_in after) (table_in after)) own)
  -- all other header lines are the same, in order, names under LIST among them, also those that look like a pair (W5);
  -- lines set keep place and ending, inserted ones stand after line 1, later above earlier
  pub lines : lines_of entries ≡ settled done es
  -- the lines from the first name under LIST on, the names and the line that closes the header, are the first ones (W5)
  pub names : drop (field_lines entries) (lines_of entries) ≡ drop (field_lines es) (lines_of es)
  -- the data and all else after the header is the same bytes
  pub rest : drop (header_length entries) (file_in after) ≡ drop (header_length es) first
  -- with any second file: the data call refuses as before, more than one file too, or finds the data as far past the header or at the same place of the second file
  pub place : (second : List ℕ) → data_place_call (file_in after) second ≡ moved_place (header_length es) (header_length entries) (data_place_call first second)
  -- data in the header's file is never before the header's end
  pub past_header : (second : List ℕ) → in_first (data_place_call first second) ≡ true → header_length es ≤ (data_place_call first second).start
  -- the data's bytes and the samples are the same
  pub bytes : (second : List ℕ) → data_call (file_in after) second ≡ data_call first second
  pub samples : (second : List ℕ) (list : List ℤ) → samples_call (file_in after) second list ≡ samples_call first second list
  -- the used length stays within the buffer
  pub fits : used_of after ≤ length (buffer_of after)

-- the largest used length that the buffer has before, between and after the settings of a list
unfoldable pub most_used : List Setting → Lent → ℕ
most_used [] l = used_of l
most_used (s ∷ ss) l = max (used_of l) (most_used ss (left (call_on set_key_call l s)))

-- ---- the cases of refusal, in order

abbrev pub Case : Type 0
Case = Bool × Refusal

-- the first case that holds
unfoldable pub first_case : List Case → Option Refusal
first_case [] = none
first_case (c ∷ cs) = if c.0 then some c.1 else first_case cs

-- of the new file: 3, 4, 1, 22
abbrev pub new_file_cases : List ℕ → List ℕ → List Line → List Line → List Case
new_file_cases buf table new rest =
    (nat_lt max_header (length (unlines new)), refusal header_too_long)
    ∷ (nat_lt max_lines (length new), refusal too_many_lines)
    ∷ (nat_lt max_file (length (unlines new ++ unlines rest)), refusal file_too_long)
    ∷ (nat_lt (length buf) (length (unlines new ++ unlines rest)) || nat_lt (length table) (length new), refusal lent_too_short)
    ∷ []

-- after the reading: its own refusal, or 8, 24, 25, 26 and those of the new file
abbrev pub read_cases : List ℕ → List ℕ → ℕ → List ℕ → List ℕ → Outcome → List Case
read_cases buf table count k v (refused r) = (true, r) ∷ []
read_cases buf table count k v (accepted es gs ls) =
    (nat_lt (version_of es) pairs_since, refusal not_in_version)
    ∷ (not (key_fine k), refusal bad_key)
    ∷ (not (value_fine v), refusal bad_value)
    ∷ (not (table_fine table count (table_of es)), refusal wrong_table)
    ∷ new_file_cases buf table (new_lines k v es) ls

-- 22 where the used length passes the buffer, then the rest
abbrev pub set_cases : Lent → Setting → List Case
set_cases (lent buf used table count) (setting k v) =
    (nat_lt (length buf) used, refusal lent_too_short) ∷ read_cases buf table count k v (header (take used buf))

-- ---- the statement

pub record SettingsHold : Type 0 where
  -- an accepted file, its table and its count; then any settings at all
  pub lists : (buf : List ℕ) (used : ℕ) (table : List ℕ) (es : List Entry) (gs : List Given) (ls : List Line)
      → used ≤ length buf → header (take used buf) ≡ accepted es gs ls → take (length es) table ≡ table_of es
      → (ss : List Setting)
      → let after = set_keys ss (lent buf used table (length es)) [] in Settled (take used buf) es gs ls after.0 after.1
  -- whatever is lent: past the file, bytes that a longer one had are 0 and those past every one stay, as do entries past the count
  pub buffers : (l : Lent) (ss : List Setting)
      → let after = (set_keys ss l []).0 in let most = most_used ss l in
      buffer_of after ≡ file_in after ++ (replicate (most - used_of after) 0 ++ drop most (buffer_of l))
  pub tables : (l : Lent) (ss : List Setting)
      → let after = (set_keys ss l []).0 in drop (count_in after) (table_in after) ≡ drop (count_in after) (table_in l)
  -- of any single setting: the refusal is the first case that holds, none if no case does
  pub cases : (l : Lent) (s : Setting) → (call_on set_key_call l s).0.refusal ≡ or_default fine (first_case (set_cases l s))
  -- it is accepted, which the number 0 says, exactly when no case holds
  pub taken : (l : Lent) (s : Setting) → ((call_on set_key_call l s).0.refusal.number == 0) ≡ not (is_some (first_case (set_cases l s)))
  -- a refused one leaves all that it was lent as it was
  pub kept : (l : Lent) (s : Setting) → ((call_on set_key_call l s).0.refusal.number == 0) ≡ false → left (call_on set_key_call l s) ≡ l
