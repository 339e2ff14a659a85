-- Internal to this crate. What the functions by value are asked, and what they answer.
use Rattle.std.specs.Prelude.{ℕ, ◌≡◌, Bool, List, [], slice_index, slice_index_or}
use Rattle.std.specs.Prelude.{Result, Ok, Err}
use Rattle.format.specs.declared.Axis.{Axis}
use Rattle.format.specs.declared.Axes.{Axes}
use Rattle.format.specs.declared.reason.Refused.{Refused}
use Rattle.format.specs.Refusals.{fine}
use Rattle.format.specs.Reasons.{refusal_of}
use Rattle.read_records.specs.declared.values.AxisRecords.{AxisRecords}
use Rattle.format.specs.declared.FindAnswer.{FindAnswer}
use Rattle.format.specs.Bytes.{each, or_default}
use Rattle.format.specs.Limits.{max_axes}
use Rattle.format.specs.Lines.{Line}
use Rattle.format.specs.Fields.{Given, descriptor_of}
use Rattle.format.specs.Descriptors.{meaning, dimension_of}
use Rattle.format.specs.Header.{Entry, Outcome, refused, accepted, header, field_lines}
use Rattle.format.specs.Calls.{padded, find_field_call}
use Rattle.format.specs.AxisRecords.{string_place_of, no_axes}
use Rattle.read_axes.specs.declared.strings.Span.{Span}
use Rattle.read_axes.specs.Codes.{codes_said}
use Rattle.read_axes.specs.Strings.{span_of, no_span}

-- a file whose header is accepted, with so many lines before the names under LIST, and so many axes
pub record Asked (file : List ℕ) (lines axes : ℕ) : Type 0 where
  pub entries : List Entry
  pub fields : List Given
  pub after : List Line
  pub is : header file ≡ accepted entries fields after
  pub many : lines ≡ field_lines entries
  pub axes_are : axes ≡ dimension_of fields

-- the same, and a field was looked up in it, with this answer
pub record LookedUp (file : List ℕ) (axes : ℕ) (place : FindAnswer) : Type 0 where
  pub lines : ℕ
  pub field : ℕ
  pub asked : Asked file lines axes
  pub is : place ≡ find_field_call file field

-- what the field f says by a word for each axis, of kinds or else of centrings; nothing where it is not given
unfoldable pub codes_in : Bool → ℕ → List Given → List ℕ
codes_in k f gs = meaning [] (λ t. or_default [] (codes_said k (dimension_of gs) t)) (descriptor_of f gs)

-- these are the numbers that the field f says in an accepted file, 0 past them
abbrev pub Coded : Bool → ℕ → List ℕ → Outcome → Type 0
Coded k f r (refused x) = Unit
Coded k f r (accepted es gs ls) = r ≡ padded (codes_in k f gs)

-- these are the places of the strings that the field f says in an accepted file, 0 past them
abbrev pub Placed : ℕ → List Span → Outcome → Type 0
Placed f r (refused x) = Unit
Placed f r (accepted es gs ls) = r ≡ each (λ i. span_of (string_place_of f es gs i)) 0 max_axes

-- the record of axis i, by what is said of all axes
abbrev pub axis_from : List ℕ → List ℕ → List ℕ → List Span → List Span → ℕ → Axis
axis_from sizes centrings kinds labels units i =
    record {
      size = slice_index sizes i;
      centring = slice_index centrings i;
      kind = slice_index kinds i;
      labelplace = (slice_index_or labels i no_span).start;
      labellength = (slice_index_or labels i no_span).length;
      unitplace = (slice_index_or units i no_span).start;
      unitlength = (slice_index_or units i no_span).length;
    }

-- the answer and the records, by the records or why there are none
abbrev pub records_answered : Result AxisRecords Refused → Axes
records_answered (Ok r) = record { answer = record { refusal = fine; count = r.count }; records = r.all }
records_answered (Err r) = no_axes (refusal_of r)
