-- Axis records after any list of settings: the line that gives a field stays the same line (`line_stays`), so that a label or a unit is as far past its start as before, and
-- its text, which is in the field's descriptor, is the same.
-- Assumes nothing.
use Rattle.std.specs.Prelude.{if◌then◌else◌}
use Prim.Native.Nat.{ℕ, zero, suc, ◌+◌, ◌≤◌, ◌<◌}
use native.Mathlib.Omega.{arith}
use mathlib.Core.Path.{◌≡◌, refl, sym, ap, ◌∙◌}
use mathlib.Core.Bool.{Bool, true, false, false≢true}
use mathlib.Core.List.{List, [], ◌∷◌, map}
use mathlib.Core.Option.{Option, none, some}
use lib.Dec.{eqb, ltb}
use lib.ListN.{length, drop, get_or, length-map}
use lib.Seq.{take_at, drop_at}
use Rattle.format.specs.declared.Refusal.{Refusal}
use Rattle.format.specs.declared.FindAnswer.{FindAnswer}
use Rattle.format.specs.declared.CountAnswer.{CountAnswer}
use Rattle.format.specs.declared.Axis.{Axis}
use Rattle.format.specs.Bytes.{is_some, or_default, each, over}
use Rattle.format.specs.Refusals.{refusal, lent_too_short, fine}
use Rattle.format.specs.Lines.{Line, text, ending, size}
use Rattle.format.specs.Fields.{Given, given, named, descriptor_of, is_given, labels, units}
use Rattle.format.specs.Strings.{Quoted, start_of, text_of, no_string, strings_said}
use Rattle.format.specs.Descriptors.{meaning, dimension_of}
use Rattle.format.specs.Header.{Item, magic, comment, field, pair, file_name, closing, given_of, Entry, entry, accepted, header}
use Rattle.format.specs.Settings.{has_key, Setting, setting}
use Rattle.format.specs.Calls.{no_place, found_at, before_descriptor, given_place, field_place, no_samples}
use Rattle.format.specs.Found.{HasAt, Finds}
use Rattle.format.specs.AxisRecords.{strings_of, string_place, string_place_of, axis_of, axes_of, axes_in, axes_call}
use Rattle.format.proofs.Bytes.{length_each}
use Rattle.format.proofs.Strings.{strings_counted, place_there, field_there, string_text, Said, labels_said, units_said}
use Rattle.theorem_lists.specs.Lists.{last_accepted, is_field, line_start, moved_in, moved_axis, moved_axes, label_in, unit_in}
use Rattle.theorem_lists.proofs.Entries.{pair_entry}
use Rattle.theorem_lists.proofs.Settled.{held_entry, settled_entry, settled_entries, grown, after_list}

-- ---- the line that gives a field

-- its text and its descriptor; `rest` is that of the lines after one that gives o
abbrev giving : ℕ → List ℕ → Option Given → Option (List ℕ × List ℕ) → Option (List ℕ × List ℕ)
giving f t none rest = rest
giving f t (some (given g d)) rest = if eqb f g then some (t, d) else rest
giving f t (some (named n)) rest = rest

abbrev pub line_giving : ℕ → List Entry → Option (List ℕ × List ℕ)
line_giving f [] = none
line_giving f (entry l i ∷ es) = giving f (text l) (given_of i) (line_giving f es)

-- the place of its descriptor, where it starts at a byte
abbrev place_in : ℕ → ℕ → Option (List ℕ × List ℕ) → FindAnswer
place_in f at none = no_place fine
place_in f at (some p) = found_at (at + before_descriptor f p.0) (length p.1)

place_is : (f at : ℕ) (es : List Entry) → field_place f at es ≡ place_in f (at + line_start f es) (line_giving f es)
unfolding field_place line_start
place_is f at [] = refl
place_is f at (entry l i ∷ es) = go (given_of i) (place_is f (at + size l) es)
  where
    on : field_place f (at + size l) es ≡ place_in f (at + size l + line_start f es) (line_giving f es)
        → field_place f (at + size l) es ≡ place_in f (at + (size l + line_start f es)) (line_giving f es)
    on h = let e : at + size l + line_start f es ≡ at + (size l + line_start f es) = omega arith in h ∙ ap (λ (n : ℕ). place_in f n (line_giving f es)) e

    by : (d : List ℕ) (x : Bool) → field_place f (at + size l) es ≡ place_in f (at + size l + line_start f es) (line_giving f es)
        → (if x then found_at (at + before_descriptor f (text l)) (length d) else field_place f (at + size l) es)
        ≡ place_in f (at + (if x then 0 else size l + line_start f es)) (if x then some (text l, d) else line_giving f es)
    by d true h = let e : at + 0 ≡ at = omega arith in rw e
    by d false h = on h

    go : (o : Option Given) → field_place f (at + size l) es ≡ place_in f (at + size l + line_start f es) (line_giving f es)
        → given_place f at (text l) o (field_place f (at + size l) es)
        ≡ place_in f (at + (if is_field f o then 0 else size l + line_start f es)) (giving f (text l) o (line_giving f es))
    go none h = on h
    go (some (given g d)) h = by d (eqb f g) h
    go (some (named n)) h = on h

-- where it is found, its start is as far past the line's as the line says
abbrev before : ℕ → Option (List ℕ × List ℕ) → ℕ
before f none = 0
before f (some p) = before_descriptor f p.0

start_is : (f : ℕ) (es : List Entry) → (field_place f 0 es).found ≡ true → (field_place f 0 es).start ≡ line_start f es + before f (line_giving f es)
start_is f es h = ap (λ (a : FindAnswer). a.start) (place_is f 0 es) ∙ go (line_giving f es) (sym (ap (λ (a : FindAnswer). a.found) (place_is f 0 es)) ∙ h)
  where
    go : (o : Option (List ℕ × List ℕ)) → (place_in f (0 + line_start f es) o).found ≡ true → (place_in f (0 + line_start f es) o).start ≡ line_start f es + before f o
    go none q = absurd (false≢true q)
    go (some p) q = omega arith

-- ---- settings give no field: they set and insert pairs

line_settled : (f : ℕ) (done : List Setting) (es : List Entry) → line_giving f (settled_entries done es) ≡ line_giving f es
line_settled f done [] = refl
line_settled f done (entry l i ∷ es) = go i (line_settled f done es)
  where
    held : (k v : List ℕ) (x : Bool) (o : Option (List ℕ)) → line_giving f (settled_entries done es) ≡ line_giving f es
        → line_giving f ((if x then entry l (pair k v) else held_entry l (pair k v) k o) ∷ settled_entries done es) ≡ line_giving f es
    held k v true o h = h
    held k v false none h = h
    held k v false (some w) h = h

    go : (i : Item) → line_giving f (settled_entries done es) ≡ line_giving f es
        → line_giving f (settled_entry done l i es ∷ settled_entries done es) ≡ line_giving f (entry l i ∷ es)
    go (magic n) h = h
    go comment h = h
    go (field g d) h = rw h
    go (pair k v) h = held k v (has_key k es) (last_accepted k done) h
    go (file_name t) h = h
    go closing h = h

line_grown : (f : ℕ) (done : List Setting) (l : Line) (es : List Entry) → line_giving f (grown done (ending l) es) ≡ line_giving f es
line_grown f [] l es = refl
line_grown f (setting k v ∷ done) l es = go (has_key k (grown done (ending l) es)) (line_grown f done l es)
  where
    go : (x : Bool) → line_giving f (grown done (ending l) es) ≡ line_giving f es
        → line_giving f (if x then grown done (ending l) es else pair_entry k v (ending l) ∷ grown done (ending l) es) ≡ line_giving f es
    go true h = h
    go false h = h

pub line_stays : (done : List Setting) (l : Line) (n : ℕ) (es : List Entry) (f : ℕ)
    → line_giving f (entry l (magic n) ∷ after_list done (ending l) es) ≡ line_giving f (entry l (magic n) ∷ es)
line_stays done l n es f = line_settled f done (grown done (ending l) es) ∙ line_grown f done l es

-- ---- the strings of a field, in an accepted file

module _ (file : List ℕ) {es : List Entry} {gs : List Given} {ls : List Line} (e : header file ≡ accepted es gs ls) where
  -- where it stands: past the start of its line by what the line and the descriptor have before it
  module _ (f : ℕ) (said : Said f gs) (i : ℕ) (l : i < dimension_of gs) where
    abbrev string : Quoted
    string = get_or (strings_of f gs) i no_string

    string_placed : is_given f gs ≡ true → string_place_of f es gs i ≡ (line_start f es + before f (line_giving f es) + start_of string, length (text_of string))
    unfolding strings_of
    string_placed g = go (descriptor_of f gs) refl (field_there file e f) g
      where
        start : ℕ
        start = (field_place f 0 es).start

        by : (t : List ℕ) → HasAt file t (field_place f 0 es) → (o : Option (List Quoted)) → strings_said (dimension_of gs) t ≡ o → is_some o ≡ true
            → let q = get_or (or_default [] o) i no_string in
            string_place start (or_default [] o) i ≡ (line_start f es + before f (line_giving f es) + start_of q, length (text_of q))
        by t h none q x = absurd (false≢true x)
        by t h (some qs) q x = place_there start qs i (omega (arith, strings_counted (dimension_of gs) t qs q)) ∙ rw (start_is f es h.there)

        go : (o : Option (List ℕ)) → descriptor_of f gs ≡ o → Finds file o (field_place f 0 es) → is_some o ≡ true
            → let qs = meaning [] (λ t. or_default [] (strings_said (dimension_of gs) t)) o in
            let q = get_or qs i no_string in
            string_place start qs i ≡ (line_start f es + before f (line_giving f es) + start_of q, length (text_of q))
        go none q h x = absurd (false≢true x)
        go (some t) q h x = by t h (strings_said (dimension_of gs) t) refl (said t q)

    string_past : is_given f gs ≡ true → line_start f es ≤ (string_place_of f es gs i).0
    string_past g = rw (string_placed g) (omega arith)

  pub label_past : (i : ℕ) → i < dimension_of gs → is_given labels gs ≡ true → line_start labels es ≤ (axis_of es gs i).labelplace
  unfolding axis_of
  label_past i l = string_past labels (labels_said file e) i l

  pub unit_past : (i : ℕ) → i < dimension_of gs → is_given units gs ≡ true → line_start units es ≤ (axis_of es gs i).unitplace
  unfolding axis_of
  unit_past i l = string_past units (units_said file e) i l

-- where the field is not given
string_absent : (f : ℕ) (es : List Entry) (gs : List Given) (i : ℕ) → is_given f gs ≡ false → string_place_of f es gs i ≡ (0, 0)
unfolding strings_of string_place
string_absent f es gs i = go (descriptor_of f gs)
  where
    go : (o : Option (List ℕ)) → is_some o ≡ false
        → string_place (field_place f 0 es).start (meaning [] (λ t. or_default [] (strings_said (dimension_of gs) t)) o) i ≡ (0, 0)
    go none h = refl
    go (some t) h = absurd (false≢true (sym h))

-- ---- records

each_mapped : {A B : Type 0} (v : ℕ → B) (w : ℕ → A) (m : A → B) (k i n : ℕ) → i + n ≤ k → ((j : ℕ) → j < k → v j ≡ m (w j)) → each v i n ≡ map m (each w i n)
unfolding each
each_mapped v w m k i zero l h = refl
each_mapped v w m k i (suc n) l h = rw (h i (omega arith), each_mapped v w m k (i + 1) n (omega arith) h)

pub axes_counted : (es : List Entry) (gs : List Given) → length (axes_of es gs) ≡ dimension_of gs
axes_counted es gs = length_each (axis_of es gs) 0 (dimension_of gs)

-- where each record moves, all of them do
pub all_moved : (es fs : List Entry) (gs : List Given) → ((i : ℕ) → i < dimension_of gs → axis_of fs gs i ≡ moved_axis gs es fs (axis_of es gs i))
    → axes_of fs gs ≡ map (moved_axis gs es fs) (axes_of es gs)
all_moved es fs gs h = each_mapped (axis_of fs gs) (axis_of es gs) (moved_axis gs es fs) (dimension_of gs) 0 (dimension_of gs) (omega arith) h

-- a refused call leaves the list
none_moved : (gs : List Given) (es fs : List Entry) (r : Refusal) (list : List Axis) → (no_samples r, list) ≡ moved_axes gs es fs (no_samples r, list)
none_moved gs es fs r list = refl

-- two files whose headers give the same fields
module _ (first file : List ℕ) {es fs : List Entry} {gs : List Given} {ls : List Line} (e : header first ≡ accepted es gs ls)
    (g : header file ≡ accepted fs gs ls) where
  pub same_label : (i : ℕ) → label_in file (axis_of fs gs i) ≡ label_in first (axis_of es gs i)
  unfolding axis_of
  same_label i = string_text file g labels i ∙ sym (string_text first e labels i)

  pub same_unit : (i : ℕ) → unit_in file (axis_of fs gs i) ≡ unit_in first (axis_of es gs i)
  unfolding axis_of
  same_unit i = string_text file g units i ∙ sym (string_text first e units i)

  -- each on the same line
  module _ (stays : (f : ℕ) → line_giving f fs ≡ line_giving f es) where
    place_moved : (f : ℕ) → Said f gs → (i : ℕ) → i < dimension_of gs → (string_place_of f fs gs i).0 ≡ moved_in f gs es fs (string_place_of f es gs i).0
    place_moved f said i l = go (is_given f gs) refl
      where
        go : (x : Bool) → is_given f gs ≡ x → (string_place_of f fs gs i).0 ≡ moved_in f gs es fs (string_place_of f es gs i).0
        go true h = rw (h, string_placed file g f said i l h, string_placed first e f said i l h, stays f) (omega arith)
        go false h = rw (h, string_absent f fs gs i h)

    same_length : (f : ℕ) → Said f gs → (i : ℕ) → i < dimension_of gs → (string_place_of f fs gs i).1 ≡ (string_place_of f es gs i).1
    same_length f said i l = go (is_given f gs) refl
      where
        go : (x : Bool) → is_given f gs ≡ x → (string_place_of f fs gs i).1 ≡ (string_place_of f es gs i).1
        go true h = rw (string_placed file g f said i l h, string_placed first e f said i l h)
        go false h = rw (string_absent f fs gs i h, string_absent f es gs i h)

    pub axis_moved : (i : ℕ) → i < dimension_of gs → axis_of fs gs i ≡ moved_axis gs es fs (axis_of es gs i)
    unfolding axis_of
    axis_moved i l =
        let a = labels_said first e in
        let b = units_said first e in
        rw (place_moved labels a i l, same_length labels a i l, place_moved units b i l, same_length units b i l)

    pub axes_moved : (list : List Axis) → axes_call file list ≡ moved_axes gs es fs (axes_call first list)
    unfolding axes_in
    axes_moved list = rw (g, e) (go (ltb (length list) (dimension_of gs)))
      where
        rest : List Axis
        rest = drop (length (axes_of es gs)) list

        go : (x : Bool)
            → if◌then◌else◌ {A = CountAnswer × List Axis} x (no_samples (refusal lent_too_short), list) (record { refusal = fine; count = dimension_of gs }, over (axes_of fs gs) list)
            ≡ moved_axes gs es fs
            (if x then (no_samples (refusal lent_too_short), list) else (record { refusal = fine; count = dimension_of gs }, over (axes_of es gs) list))
        go true = none_moved gs es fs (refusal lent_too_short) list
        go false =
            rw (all_moved es fs gs axis_moved, length-map (axes_of es gs) (moved_axis gs es fs), take_at (axes_of es gs) rest (dimension_of gs) (axes_counted es gs), drop_at (axes_of es gs) rest (dimension_of gs) (axes_counted es gs))
