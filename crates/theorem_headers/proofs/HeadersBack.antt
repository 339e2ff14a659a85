-- A header that is written with its orientation is read back: the statement of specs/HeadersBack.antt.
-- Assumes nothing.
use Rattle.std.specs.Prelude.{if◌then◌else◌}
use Prim.Native.Nat.{ℕ, ◌≤◌, ◌<◌}
use native.Mathlib.Omega.{arith}
use mathlib.Core.Path.{◌≡◌, refl, sym, ap, ◌∙◌}
use mathlib.Core.Bool.{Bool, true, false, not, ◌&&◌, false≢true}
use mathlib.Core.List.{List, [], ◌∷◌, ◌++◌, map}
use mathlib.Core.Option.{Option, none, some}
use lib.Dec.{ltb}
use lib.ListN.{length, get_or, length-map}
use borrow.Author.Tests.{ltb-true, lt-ltb, le-ltb, ltb-false}
use Rattle.format.specs.declared.Decimal.{Decimal}
use Rattle.format.specs.Bytes.{is_some, or_default}
use Rattle.format.specs.Limits.{max_file, max_extent}
use Rattle.format.specs.Refusals.{fine, refusal, bad_descriptor, not_in_version}
use Rattle.format.specs.Lines.{Line, lines, unlines}
use Rattle.format.specs.Fields.{Given, is_given, file_names, data_file}
use Rattle.format.specs.Spaces.{space_count}
use Rattle.format.specs.Vectors.{Direction, without, along}
use Rattle.format.specs.Descriptors.{extent, space_of}
use Rattle.format.specs.Header.{Entry, entry, line_of, lines_of, magic, Outcome, refused, accepted, header, before_names, field_lines}
use Rattle.format.specs.Rules.{closed}
use Rattle.format.specs.Calls.{reading_of}
use Rattle.format.specs.Orientation.{no_vector, vector_given, direction_given}
use Rattle.format.specs.Writer.{header_with, writable}
use Rattle.format.specs.Room.{Enough}
use Rattle.format.specs.HeaderWriter.{Orientation, orientation, space_listed, in_version, header_refused, after_reading, orientation_lines, oriented_bytes, write_header}
use Rattle.format.proofs.Bytes.{and_left, and_right}
use Rattle.format.proofs.Numbered.{NumberedOutcome, header_numbered}
use Rattle.format.proofs.Header.{header_ends}
use Rattle.format.proofs.Rules.{accepted_keeps}
use Rattle.theorem_roundtrip.proofs.Accepted.{writable_is}
use Rattle.theorem_orientation.specs.ReadBack.{kept, each, meant, meant_direction}
use Rattle.theorem_orientation.proofs.Components.{Itself, kept_itself}
use Rattle.theorem_orientation.proofs.Vectors.{each_itself}
use Rattle.theorem_headers.specs.HeadersBack.{mapped, kept_along, if_there, kept_orientation, meant_orientation, origin_by, direction_by, Acceptable, max_written, read_back, ReadsBack, answered, Accepted, HeadersReadBack}
use Rattle.theorem_headers.proofs.Lined.{If}
use Rattle.theorem_headers.proofs.Told.{Inputs, inputs, Listed, Numbers, Told, lines_are, text, told, whole}
use Rattle.theorem_headers.proofs.Meant.{Means, means}
use Rattle.theorem_headers.proofs.NoNames.{all_before, none_named}
use Rattle.theorem_headers.proofs.Taken.{fitting_of, parts_of, text_short}
use Rattle.theorem_headers.proofs.Built.{header_built}

-- ---- what the header writer has accepted

-- no test refuses, and the text is read
record Passed (version : ℕ) (ns : List ℕ) (t e n : ℕ) (shaped : Bool) (o : Orientation) (out : List ℕ) : Type 0 where
  tested : (writable version ns t e n && (shaped && space_listed o)) ≡ true
  known : in_version version o ≡ true
  enough : length (oriented_bytes version ns t e n o) ≤ length out
  es : List Entry
  gs : List Given
  r : List Line
  reads : header (oriented_bytes version ns t e n o) ≡ accepted es gs r

passed : (version : ℕ) (ns : List ℕ) (t e n : ℕ) (shaped : Bool) (o : Orientation) (out : List ℕ)
    → (write_header version ns t e n shaped o out).0.refusal.number ≡ 0
    → Passed version ns t e n shaped o out × (write_header version ns t e n shaped o out ≡ answered (oriented_bytes version ns t e n o) out)
unfolding write_header
passed version ns t e n shaped o out h =
    go (writable version ns t e n && (shaped && space_listed o)) refl (in_version version o) refl (header text) refl (header_numbered text) (ltb (length out) (length text)) refl h
  where
    text : List ℕ
    text = oriented_bytes version ns t e n o

    go : (a : Bool) → (writable version ns t e n && (shaped && space_listed o)) ≡ a → (b : Bool) → in_version version o ≡ b → (q : Outcome) → header text ≡ q → NumberedOutcome q
        → (x : Bool) → ltb (length out) (length text) ≡ x
        → (if not a then header_refused (refusal bad_descriptor) out else if not b then header_refused (refusal not_in_version) out else after_reading q text out).0.refusal.number ≡ 0
        → Passed version ns t e n shaped o out
        × ((if not a then header_refused (refusal bad_descriptor) out else if not b then header_refused (refusal not_in_version) out else after_reading q text out) ≡ answered text out)
    go false p b v q r s x u k = absurd (let g : ⊥ = omega (arith, k) in g)
    go true p false v q r s x u k = absurd (let g : ⊥ = omega (arith, k) in g)
    go true p true v (refused y) r s x u k = absurd (let g : ⊥ = omega (arith, k, s.0) in g)
    go true p true v (accepted es gs ls) r s true u k = absurd (let g : ⊥ = omega (arith, rw u at k) in g)
    go true p true v (accepted es gs ls) r s false u k =
        (record { tested = p; known = v; enough = ltb-false (length out) (length text) u; es = es; gs = gs; r = ls; reads = r }, rw u)

-- a space that is listed is below their count
listed_is : (i size : Option ℕ) (origin : Option (List Decimal)) (directions : Option (List Direction)) (frame : Option (List (List Decimal)))
    → space_listed (orientation i size origin directions frame) ≡ true → If i (λ k. k < space_count)
listed_is none size origin directions frame h = tt
listed_is (some k) size origin directions frame h = ltb-true k space_count h

-- ---- the reading of a file that begins with the text

closed_after : (e : Entry) (es : List Entry) → closed es ≡ true → closed (e ∷ es) ≡ true
unfolding closed
closed_after e [] h = absurd (false≢true h)
closed_after e (f ∷ es) h = h

module _ (put : Inputs) (shaped : Bool) (out : List ℕ)
    (a : Passed put.version put.ns put.t put.e put.n shaped (whole put) out) where
  abbrev o : Orientation
  o = whole put

  abbrev file : List ℕ → List ℕ
  file s = text put ++ s

  abbrev tests : Bool
  tests = shaped && space_listed o

  numbers : Numbers put
  numbers = writable_is put.version put.ns put.t put.e put.n (and_left (writable put.version put.ns put.t put.e put.n) tests a.tested)

  others : tests ≡ true
  others = and_right (writable put.version put.ns put.t put.e put.n) tests a.tested

  places : Listed put
  places = listed_is put.i put.size put.origin put.directions put.frame (and_right shaped (space_listed o) others)

  says : Told put a.es a.gs a.r
  says = told put numbers places a.reads

  meaning_is : Means a.gs put
  meaning_is =
      rw says.fields (means put numbers places says.parts)

  -- the lines of the text are those of the header
  lines_of_lem : lines_of a.es ≡ header_with put.version put.ns put.t put.e put.n (orientation_lines o)
  lines_of_lem = says.lines_of ∙ sym (lines_are put)

  text_of : unlines (lines_of a.es) ≡ text put
  unfolding oriented_bytes
  text_of = ap unlines lines_of_lem

  -- the last one closes it, since there is no data file
  ends_closed : closed a.es ≡ true
  ends_closed =
      let k = accepted_keeps (text put) a.reads in
      ap closed k.entries ∙ closed_after (entry k.first (magic k.version)) k.others (go k.others (closed k.others) refl k.unclosed)
    where
      go : (es : List Entry) (x : Bool) → closed es ≡ x → (closed es ≡ false → (a.r ≡ []) × (is_given data_file a.gs ≡ true)) → closed es ≡ true
      go es true q h = q
      go es false q h = absurd (false≢true (sym meaning_is.attached ∙ (h q).1))

  -- no line is a name
  every_before : before_names a.es ≡ a.es
  unfolding before_names
  every_before =
      let k = accepted_keeps (text put) a.reads in
      let none = all_before k.others (ap file_names (sym k.fields ∙ says.fields) ∙ none_named put) in
      rw (k.entries, none)

  -- with any bytes after it
  header_is : (s : List ℕ) → length (file s) ≤ max_file → header (file s) ≡ accepted a.es a.gs (lines s)
  header_is s h =
      ap (λ (b : List ℕ). header (b ++ s)) (sym text_of)
      ∙ header_ends (text put) a.reads ends_closed s (rw text_of h)

  reads_back : (s : List ℕ) → length (file s) ≤ max_file → ReadsBack put.version put.ns put.t put.e put.n o s
  unfolding reading_of
  reads_back s h =
      let m = meaning_is in
      let is = header_is s h in
      record {
        entries = a.es;
        fields = a.gs;
        header_is = is;
        origin_is = m.origin_is;
        directions_are = m.directions_are;
        frame_is = m.frame_is;
        one_each = m.one_each;
        reading = rw (is, m.attached, m.dimension_is, m.type_is, m.encoding_is, m.endian_is, m.sizes_are, m.no_line_skip, m.no_byte_skip, m.origin_given, m.directions_given, m.frame_given, m.space_size, space_read, m.one_file, says.version_is, ap length text_of, before, count);
        origin = rw (is, m.origin_given, m.origin_is) (origin_by_lem put.origin);
        direction = λ axis l. rw (is, m.dimension_is, lt-ltb axis (length put.ns) l, m.directions_given, m.directions_are) (direction_by_lem axis put.directions);
        frame = rw (is, m.frame_is);
      }
    where
      space_read : space_of a.gs ≡ (read_back put.version put.ns put.t put.e put.n o).reading.space
      space_read = meaning_is.space_number

      count : length a.es ≡ length (header_with put.version put.ns put.t put.e put.n (orientation_lines o))
      count = sym (length-map a.es line_of) ∙ ap length lines_of_lem

      before : field_lines a.es ≡ length a.es
      before = ap length every_before

      origin_by_lem : (g : Option (List Decimal))
          → (if is_some g then vector_given (or_default [] (mapped (map meant) g)) else no_vector fine) ≡ origin_by (mapped (map meant) g)
      origin_by_lem none = refl
      origin_by_lem (some ds) = refl

      direction_by_lem : (axis : ℕ) (g : Option (List Direction))
          → (if is_some g then direction_given (get_or (or_default [] (mapped (map meant_direction) g)) axis without) else no_vector fine) ≡ direction_by axis (mapped (map meant_direction) g)
      direction_by_lem axis none = refl
      direction_by_lem axis (some ds) = refl

  -- ---- there was nothing to refuse, and the text is short

  small : extent put.ns put.t ≤ max_extent
  small =
      let m = means put numbers places says.parts in
      rw (m.sizes_are, m.type_is) at says.whole_is.small

  acceptable_is : Acceptable put.version put.ns put.t put.e put.n shaped o (length out)
  acceptable_is =
      record {
        numbers = and_left (writable put.version put.ns put.t put.e put.n) tests a.tested;
        shape = and_left shaped (space_listed o) others;
        listed = and_right shaped (space_listed o) others;
        known = a.known;
        fits = fitting_of put numbers places says.parts;
        small = small;
        enough = a.enough;
      }

  is_short : length (text put) ≤ max_written
  is_short = text_short put numbers places says.parts small

-- ---- what is acceptable is accepted

accepts : (version : ℕ) (ns : List ℕ) (t e n : ℕ) (shaped : Bool) (o : Orientation) (out : List ℕ)
    → Acceptable version ns t e n shaped o (length out) → (write_header version ns t e n shaped o out).0.refusal.number ≡ 0
unfolding write_header
accepts version ns t e n shaped (orientation i size origin directions frame) out h =
    let put = inputs version ns t e n i size origin directions frame in
    let w = writable_is version ns t e n h.numbers in
    let l = listed_is i size origin directions frame h.listed in
    let p = parts_of put w l h.known h.fits in
    rw (h.numbers, h.shape, h.listed, h.known, header_built put w l p h.small, le-ltb (length out) (length (text put)) h.enough)

-- ---- what is kept means itself

mapped_itself : {A : Type 0} (keeps : A → Bool) (g : A → A) → Itself keeps g → (o : Option A) → if_there keeps o ≡ true → mapped g o ≡ o
mapped_itself keeps g same none h = refl
mapped_itself keeps g same (some a) h = ap some (same a h)

along_itself : Itself kept_along meant_direction
along_itself without h = refl
along_itself (along ds) h = ap along (each_itself kept meant kept_itself ds h)

exactly : (o : Orientation) → kept_orientation o ≡ true → meant_orientation o ≡ o
exactly (orientation i size origin directions frame) h =
    let rest = if_there (each kept_along) directions && if_there (each (each kept)) frame in
    let k = and_right (if_there (each kept) origin) rest h in
    let vectors : Itself (each kept) (map meant) = each_itself kept meant kept_itself in
    rw (mapped_itself (each kept) (map meant) vectors origin (and_left (if_there (each kept) origin) rest h), mapped_itself (each kept_along) (map meant_direction) (each_itself kept_along meant_direction along_itself) directions (and_left (if_there (each kept_along) directions) (if_there (each (each kept)) frame) k), mapped_itself (each (each kept)) (map (map meant)) (each_itself (each kept) (map meant) vectors) frame (and_right (if_there (each kept_along) directions) (if_there (each (each kept)) frame) k))

-- ---- all

holds : (version : ℕ) (ns : List ℕ) (t e n : ℕ) (shaped : Bool) (o : Orientation) (out : List ℕ)
    → (write_header version ns t e n shaped o out).0.refusal.number ≡ 0 → Accepted version ns t e n shaped o out
holds version ns t e n shaped (orientation i size origin directions frame) out h =
    let put = inputs version ns t e n i size origin directions frame in
    let a = passed version ns t e n shaped (whole put) out h in
    record {
      acceptable = acceptable_is put shaped out a.0;
      written = a.1;
      short = is_short put shaped out a.0;
      back = reads_back put shaped out a.0;
    }

-- 22 is told of a text that is read, and no such text is longer
room : (version : ℕ) (ns : List ℕ) (t e n : ℕ) (shaped : Bool) (o : Orientation) (out : List ℕ)
    → max_written ≤ length out → Enough (write_header version ns t e n shaped o out).0.refusal
unfolding write_header
room version ns t e n shaped o out l =
    go (writable version ns t e n && (shaped && space_listed o)) refl (in_version version o) refl (header u) refl (header_numbered u) (ltb (length out) (length u)) refl
  where
    u : List ℕ
    u = oriented_bytes version ns t e n o

    go : (a : Bool) → (writable version ns t e n && (shaped && space_listed o)) ≡ a → (b : Bool) → in_version version o ≡ b
        → (x : Outcome) → header u ≡ x → NumberedOutcome x → (c : Bool) → ltb (length out) (length u) ≡ c
        → Enough (if not a then header_refused (refusal bad_descriptor) out else if not b then header_refused (refusal not_in_version) out else after_reading x u out).0.refusal
    go false p b q x r k c s h = omega arith
    go true p false q x r k c s h = omega arith
    go true p true q (refused y) r k c s h = omega (arith, k)
    go true p true q (accepted es gs ls) r k false s h = let z : ◌≡◌ {A = ℕ} 0 22 = rw s at h in omega arith
    go true p true q (accepted es gs ls) r k true s h =
        let fits : (write_header version ns t e n shaped o u).0.refusal.number ≡ 0 = rw (p, q, r, le-ltb (length u) (length u) (omega arith)) in
        omega (arith, (holds version ns t e n shaped o u fits).short, ltb-true (length out) (length u) s)

pub headers_back : HeadersReadBack
headers_back = record { holds = holds; accepts = accepts; enough = room; exact = exactly }
