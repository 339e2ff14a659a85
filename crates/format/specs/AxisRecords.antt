-- Axis records (W6): what a header says of each axis, and the calls that hand the records over, the whole answer and the whole lent list, refused or not.
use Rattle.std.specs.Prelude.{ℕ, zero, suc, ◌+◌, ◌/◌, List, [], ◌∷◌, ◌++◌, nat_lt, length, slice_index, replicate, if◌then◌else◌}
use Rattle.format.specs.declared.Axis.{Axis}
use Rattle.format.specs.declared.Axes.{Axes}
use Rattle.format.specs.declared.Refusal.{Refusal}
use Rattle.format.specs.declared.CountAnswer.{CountAnswer}
use Rattle.format.specs.Bytes.{or_default, each, over}
use Rattle.format.specs.Limits.{max_axes}
use Rattle.format.specs.Refusals.{lent_too_short, refusal, fine}
use Rattle.format.specs.Fields.{Given, descriptor_of, centers, labels, units, kinds}
use Rattle.format.specs.Kinds.{centrings_said, kinds_said}
use Rattle.format.specs.Strings.{Quoted, quoted, strings_said}
use Rattle.format.specs.Descriptors.{meaning, dimension_of, sizes_of}
use Rattle.format.specs.Header.{Entry, Outcome, refused, accepted, header}
use Rattle.format.specs.Samples.{to_bytes}
use Rattle.format.specs.Calls.{field_place, no_samples}

-- ---- what the fields given say, axis after axis; nothing where a field is not given

unfoldable pub centrings_of : List Given → List ℕ
centrings_of gs = meaning [] (λ t. or_default [] (centrings_said (dimension_of gs) t)) (descriptor_of centers gs)

unfoldable pub kinds_of : List Given → List ℕ
kinds_of gs = meaning [] (λ t. or_default [] (kinds_said (dimension_of gs) t)) (descriptor_of kinds gs)

-- labels or units, by their field
unfoldable pub strings_of : ℕ → List Given → List Quoted
strings_of f gs = meaning [] (λ t. or_default [] (strings_said (dimension_of gs) t)) (descriptor_of f gs)

-- ---- records

-- place and length of the text of string i, in a descriptor that starts at a byte of the file; both 0 where there is no such string
unfoldable pub string_place : ℕ → List Quoted → ℕ → ℕ × ℕ
string_place from [] i = (0, 0)
string_place from (quoted at w ∷ qs) zero = (from + at, length w)
string_place from (q ∷ qs) (suc i) = string_place from qs i

-- the same for axis i, by its field: labels or units
abbrev pub string_place_of : ℕ → List Entry → List Given → ℕ → ℕ × ℕ
string_place_of f es gs i = string_place (field_place f 0 es).start (strings_of f gs) i

-- the record of axis i; of an accepted header it is all 0 past the last axis
unfoldable pub axis_of : List Entry → List Given → ℕ → Axis
axis_of es gs i =
    record {
      size = slice_index (sizes_of gs) i;
      centring = slice_index (centrings_of gs) i;
      kind = slice_index (kinds_of gs) i;
      labelplace = (string_place_of labels es gs i).0;
      labellength = (string_place_of labels es gs i).1;
      unitplace = (string_place_of units es gs i).0;
      unitlength = (string_place_of units es gs i).1;
    }

-- the records of all axes
abbrev pub axes_of : List Entry → List Given → List Axis
axes_of es gs = each (axis_of es gs) 0 (dimension_of gs)

-- ---- read_records::records: by value, for a list that has room for so many; 22 for a short list comes after the reading

abbrev pub no_axis : Axis
no_axis = record { size = 0; centring = 0; kind = 0; labelplace = 0; labellength = 0; unitplace = 0; unitlength = 0 }

abbrev pub no_axes : Refusal → Axes
no_axes r = record { answer = no_samples r; records = replicate max_axes no_axis }

unfoldable pub records_in : ℕ → Outcome → Axes
records_in room (refused r) = no_axes r
records_in room (accepted es gs ls) =
    if nat_lt room (dimension_of gs) then no_axes (refusal lent_too_short)
    else record { answer = record { refusal = fine; count = dimension_of gs }; records = each (axis_of es gs) 0 max_axes }

abbrev pub records_call : List ℕ → ℕ → Axes
records_call file room = records_in room (header file)

-- ---- read_records::axes: the answer, and the lent list as it returns; records past the dimension stay

unfoldable pub axes_in : List Axis → Outcome → CountAnswer × List Axis
axes_in list (refused r) = (no_samples r, list)
axes_in list (accepted es gs ls) =
    if nat_lt (length list) (dimension_of gs) then (no_samples (refusal lent_too_short), list)
    else (record { refusal = fine; count = dimension_of gs }, over (axes_of es gs) list)

abbrev pub axes_call : List ℕ → List Axis → CountAnswer × List Axis
axes_call file list = axes_in list (header file)

-- ---- the same in lent bytes, for callers in C: 32 for a record, the low byte first; a rest too short for a record stays

abbrev pub axis_width : ℕ
axis_width = 32

-- size in 8 bytes, the other six in 4 each
unfoldable pub axis_bytes : Axis → List ℕ
axis_bytes a =
    to_bytes 8 a.size
    ++ (to_bytes 4 a.centring
    ++ (to_bytes 4 a.kind
    ++ (to_bytes 4 a.labelplace
    ++ (to_bytes 4 a.labellength
    ++ (to_bytes 4 a.unitplace
    ++ to_bytes 4 a.unitlength)))))

unfoldable pub axes_bytes : List Axis → List ℕ
axes_bytes [] = []
axes_bytes (a ∷ ys) = axis_bytes a ++ axes_bytes ys

unfoldable pub axes_listed : List ℕ → Outcome → CountAnswer × List ℕ
axes_listed list (refused r) = (no_samples r, list)
axes_listed list (accepted es gs ls) =
    if nat_lt (length list / axis_width) (dimension_of gs) then (no_samples (refusal lent_too_short), list)
    else (record { refusal = fine; count = dimension_of gs }, over (axes_bytes (axes_of es gs)) list)

abbrev pub axes_entry : List ℕ → List ℕ → CountAnswer × List ℕ
axes_entry file list = axes_listed list (header file)
