-- Laws of the records by value: what is said by a word or a string for each axis, where its field is found in an accepted file and where it is not,
-- and the records that come of it.
-- Assumes nothing.
use Prim.Native.Nat.{ℕ, ◌+◌, ◌-◌, ◌≤◌, ◌<◌}
use native.Mathlib.Nat.{zero-add}
use native.Mathlib.Omega.{arith}
use mathlib.Core.Path.{◌≡◌, refl, sym, ap, subst, ◌∙◌}
use mathlib.Core.Bool.{Bool, true, false, false≢true}
use mathlib.Core.List.{List, []}
use mathlib.Core.Option.{Option, none, some}
use lib.ListN.{length, take, drop, get_or, replicate, length-take, length-drop}
use borrow.Author.Tests.{lt-ltb, le-ltb}
use Rattle.format.specs.declared.FindAnswer.{FindAnswer}
use Rattle.format.specs.declared.ReadAnswer.{ReadAnswer}
use Rattle.format.specs.Bytes.{each, or_default}
use Rattle.format.specs.Limits.{max_file, max_axes}
use Rattle.format.specs.Refusals.{lent_too_short, refusal, fine}
use Rattle.format.specs.Fields.{descriptor_of, centers, labels, units, kinds}
use Rattle.format.specs.Kinds.{centrings_said, kinds_said}
use Rattle.format.specs.Strings.{Quoted, strings_said}
use Rattle.format.specs.Descriptors.{meaning, dimension_of, sizes_of}
use Rattle.format.specs.Header.{accepted, header}
use Rattle.format.specs.Calls.{padded, reading_of, read_answer, read_header_call, field_place, find_field_call}
use Rattle.format.specs.Found.{Finds, FindsField}
use Rattle.format.specs.AxisRecords.{centrings_of, kinds_of, strings_of, string_place, string_place_of, axis_of, no_axes, records_in, records_call}
use Rattle.format.proofs.Bytes.{each_from, each_same}
use Rattle.format.proofs.Header.{header_sound}
use Rattle.format.proofs.Found.{field_found}
use Rattle.format.proofs.Oriented.{axes_few}
use Rattle.read_header.specs.Accepted.{Fielded}
use Rattle.std.specs.Prelude.{unwrap_or}
use Rattle.read_axes.specs.declared.strings.Span.{Span}
use Rattle.read_axes.specs.Codes.{codes_said, codes_padded}
use Rattle.read_axes.specs.Strings.{span_of, no_span, spans_from}
use Rattle.read_axes.proofs.CodeLaws.{codes_kinds, codes_centrings, code_at}
use Rattle.read_records.specs.Values.{Asked, LookedUp, codes_in, Coded, Placed, axis_from}

-- ---- a field in an accepted file, as the look-up finds it

module _ {file : List ℕ} {lines axes : ℕ} (w : Asked file lines axes) (f : ℕ) (place : FindAnswer) (p : place ≡ find_field_call file f) where
  finds : Finds file (descriptor_of f w.fields) place
  finds = rw w.is at (subst (FindsField file f (header file)) (sym p) (field_found file f))

  -- it is not given
  absent : place.found ≡ false → descriptor_of f w.fields ≡ none
  absent h = go (descriptor_of f w.fields) finds
    where
      go : (o : Option (List ℕ)) → Finds file o place → o ≡ none
      go none r = refl
      go (some t) r = absurd (false≢true (sym h ∙ r.there))

  -- it is given: it lies in the file, and its descriptor is the part that was found
  abbrev part : List ℕ
  part = take (place.start + place.length - place.start) (drop place.start file)

  lies : place.found ≡ true → (place.start + place.length ≤ length file) × (descriptor_of f w.fields ≡ some part)
  lies h = go (descriptor_of f w.fields) finds
    where
      go : (o : Option (List ℕ)) → Finds file o place → (place.start + place.length ≤ length file) × (o ≡ some part)
      go none r = absurd (false≢true (sym (ap (λ (a : FindAnswer). a.found) r) ∙ h))
      go (some t) r =
          let n : place.start + place.length - place.start ≡ place.length = omega arith in
          (r.within, ap some (sym (ap (λ (k : ℕ). take k (drop place.start file)) n ∙ r.bytes)))

  pub found_within : place.found ≡ true → place.start + place.length ≤ length file
  found_within h = (lies h).0

  -- a file is short enough for places of 32 bits
  pub found_small : place.found ≡ true → (place.start + place.length ≤ max_file) × (place.start + length part ≤ max_file)
  found_small h =
      let s = (header_sound file w.is).small in
      let l = (lies h).0 in
      (omega arith, omega (arith, length-take (place.start + place.length - place.start) (drop place.start file), length-drop place.start file))

  -- ---- what is read of it

  module _ (k : Bool) where
    pub codes_absent : place.found ≡ false → Coded k f (replicate max_axes 0) (header file)
    unfolding codes_in
    codes_absent h = rw (w.is, absent h)

    codes_by : (o : Option (List ℕ)) → unwrap_or (codes_padded o) (replicate max_axes 0) ≡ padded (or_default [] o)
    codes_by none = refl
    codes_by (some ns) = refl

    pub codes_there : place.found ≡ true → Coded k f (unwrap_or (codes_padded (codes_said k axes part)) (replicate max_axes 0)) (header file)
    unfolding codes_in
    codes_there h = rw (w.is, (lies h).1, w.axes_are) (codes_by (codes_said k (dimension_of w.fields) part))

  -- the place of its descriptor, by the lines of the header
  starts : place.start ≡ (field_place f 0 w.entries).start
  starts = ap (λ (a : FindAnswer). a.start) (rw w.is at p)

  pub spans_absent : place.found ≡ false → Placed f (replicate max_axes no_span) (header file)
  unfolding strings_of string_place each
  spans_absent h = rw (w.is, absent h)

  spans_by : (base : ℕ) (o : Option (List Quoted))
      → unwrap_or (spans_from base o) (replicate max_axes no_span) ≡ each (λ i. span_of (string_place base (or_default [] o) i)) 0 max_axes
  unfolding spans_from string_place each
  spans_by base none = refl
  spans_by base (some qs) = refl

  pub spans_there : place.found ≡ true → Placed f (unwrap_or (spans_from place.start (strings_said axes part)) (replicate max_axes no_span)) (header file)
  unfolding strings_of
  spans_there h = rw (w.is, (lies h).1, ← starts, w.axes_are) (spans_by place.start (strings_said (dimension_of w.fields) part))

-- ---- an accepted header

-- it has at most so many axes
pub asked_few : {file : List ℕ} {lines axes : ℕ} → Asked file lines axes → axes ≤ max_axes
asked_few {file} w = rw w.axes_are (axes_few file w.is)

module _ (file : List ℕ) (read : ReadAnswer) (e : read ≡ read_header_call file) {lines : ℕ} (w : Fielded file lines) where
  read_is : read ≡ read_answer (accepted w.entries w.fields w.after)
  read_is = e ∙ ap read_answer w.is

  axes_read : read.reading.dimension ≡ dimension_of w.fields
  unfolding reading_of
  axes_read = ap (λ (a : ReadAnswer). a.reading.dimension) read_is

  sizes_read : read.reading.sizes ≡ padded (sizes_of w.fields)
  unfolding reading_of
  sizes_read = ap (λ (a : ReadAnswer). a.reading.sizes) read_is

  pub asked : Asked file lines read.reading.dimension
  asked = record { entries = w.entries; fields = w.fields; after = w.after; is = w.is; many = w.many; axes_are = axes_read }

  -- a field was looked up in it
  pub looked_up : (f : ℕ) (place : FindAnswer) → place ≡ find_field_call file f → LookedUp file read.reading.dimension place
  looked_up f place p = record { lines = lines; field = f; asked = asked; is = p }

  -- ---- the records

  pub too_short : (room : ℕ) → room < read.reading.dimension → records_call file room ≡ no_axes (refusal lent_too_short)
  unfolding records_in
  too_short room h = rw (w.is, lt-ltb room (dimension_of w.fields) (rw axes_read at h))

  -- words of kinds and of centrings are what the fields say
  kinds_in : codes_in true kinds w.fields ≡ kinds_of w.fields
  unfolding codes_in kinds_of
  kinds_in = go (descriptor_of kinds w.fields)
    where
      go : (o : Option (List ℕ)) → meaning [] (λ t. or_default [] (codes_said true (dimension_of w.fields) t)) o ≡ meaning [] (λ t. or_default [] (kinds_said (dimension_of w.fields) t)) o
      go none = refl
      go (some t) = ap (or_default []) (codes_kinds (dimension_of w.fields) t)

  centrings_in : codes_in false centers w.fields ≡ centrings_of w.fields
  unfolding codes_in centrings_of
  centrings_in = go (descriptor_of centers w.fields)
    where
      go : (o : Option (List ℕ)) → meaning [] (λ t. or_default [] (codes_said false (dimension_of w.fields) t)) o ≡ meaning [] (λ t. or_default [] (centrings_said (dimension_of w.fields) t)) o
      go none = refl
      go (some t) = ap (or_default []) (codes_centrings (dimension_of w.fields) t)

  module _ (cs ks : List ℕ) (ls us : List Span)
      (centrings : Coded false centers cs (header file)) (kinds : Coded true kinds ks (header file))
      (labels : Placed labels ls (header file)) (units : Placed units us (header file)) where
    places_are : (f : ℕ) (ss : List Span) → Placed f ss (header file) → (i : ℕ) → i < max_axes → get_or ss i no_span ≡ span_of (string_place_of f w.entries w.fields i)
    places_are f ss h i l =
        let q : ss ≡ each (λ k. span_of (string_place_of f w.entries w.fields k)) 0 max_axes = rw w.is at h in
        rw q (each_from (λ k. span_of (string_place_of f w.entries w.fields k)) no_span 0 max_axes i l ∙ rw zero-add)

    axis_is : (i : ℕ) → i < max_axes → axis_from read.reading.sizes cs ks ls us i ≡ axis_of w.entries w.fields i
    unfolding axis_of
    axis_is i l =
        let c : cs ≡ padded (centrings_of w.fields) = (rw w.is at centrings) ∙ ap padded centrings_in in
        let k : ks ≡ padded (kinds_of w.fields) = (rw w.is at kinds) ∙ ap padded kinds_in in
        rw (sizes_read, c, k, code_at (sizes_of w.fields) i, code_at (centrings_of w.fields) i, code_at (kinds_of w.fields) i, places_are _ ls labels i l, places_are _ us units i l)

    pub records_are : (room : ℕ) → read.reading.dimension ≤ room
        → record { answer = record { refusal = fine; count = read.reading.dimension }; records = each (axis_from read.reading.sizes cs ks ls us) 0 max_axes } ≡ records_call file room
    unfolding records_in
    records_are room h =
        let n : dimension_of w.fields ≤ room = omega (arith, axes_read) in
        rw (w.is, le-ltb room (dimension_of w.fields) n, axes_read, each_same (axis_from read.reading.sizes cs ks ls us) (axis_of w.entries w.fields) 0 max_axes (λ i a b. axis_is i (omega arith)))
