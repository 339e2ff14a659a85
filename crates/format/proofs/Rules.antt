-- The headers that keep the rules (specs/Rules.antt) are those that are accepted: `keeps_accepted`, `accepted_keeps`.
-- Assumes nothing.
use Rattle.std.specs.Prelude.{if◌then◌else◌}
use mathlib.Core.Path.{◌≡◌, refl, sym, ap, ◌∙◌}
use Prim.Native.Nat.{ℕ, zero, suc, ◌-◌, ◌%◌, ◌≤◌}
use native.Mathlib.Omega.{arith}
use mathlib.Core.Bool.{Bool, true, false, not, ◌&&◌, ◌||◌, false≢true}
use mathlib.Core.List.{List, [], ◌∷◌, ◌++◌, cons≢nil, append_assoc, append-nil, map-append}
use mathlib.Core.Option.{Option, none, some, none-ne-some}
use lib.Dec.{eqb, ltb, leb}
use lib.ListN.{length, drop, get_or}
use borrow.Author.Tests.{eqb-true, ne_eqb, eq-eqb, leb-true, le-leb, ltb-true, ltb-false, lt-ltb, le-ltb}
use Rattle.format.specs.Bytes.{between, or_default}
use Rattle.format.specs.declared.Refusal.{Refusal}
use Rattle.format.specs.Lines.{Line, line, lf, crlf, eof, text, ending, lines}
use Rattle.format.specs.Fields.{Given, is_given, file_names, dimension, type, encoding, endian, sizes, data_file}
use Rattle.format.specs.Descriptors.{ByteSkip, forward, from_end, is_from_end, endian_needed, type_of, encoding_of, byte_skip_of, raw, has_needed, end_is_raw, dimension_of, sizes_of, product, names_follow, list_empty, file_count_of, cover_of, divides, cover_fine, files_fit, files_fine}
use Rattle.format.specs.Header.{Item, magic, closing, given_of, closes, Entry, entry, lines_of, magic_version, version_of_line, Outcome, refused, accepted, with_field, after_item, header}
use Rattle.format.specs.Rules.{Keeps, has_ending, fields_of, closed, Needed, Covers, KeepsRules}
use Rattle.format.proofs.Bytes.{and_left, and_right}
use Rattle.format.proofs.Lines.{Shape, lf_line, crlf_line, eof_line, shape_of_lines, shape_after}
use Rattle.format.proofs.Judged.{is_closing, keeps_judge}
use Rattle.format.proofs.Header.{Complete, FineBy, Fine, fine_cases, fine_complete, after_closing, header_sound, header_fine}

-- ---- the needed fields

or_unless : (a n : Bool) → (a || not n) ≡ true → n ≡ true → a ≡ true
or_unless true n h e = refl
or_unless false true h e = h
or_unless false false h e = e

or_unless_is : (a n : Bool) → (n ≡ true → a ≡ true) → (a || not n) ≡ true
or_unless_is true n h = refl
or_unless_is false true h = h refl
or_unless_is false false h = refl

pub needed_of : (gs : List Given) → has_needed gs ≡ true → Needed gs
unfolding has_needed
needed_of gs h =
    let axes = is_given dimension gs in
    let named = is_given type gs in
    let coded = is_given encoding gs in
    let sized = is_given sizes gs in
    let order = is_given endian gs || not (endian_needed (type_of gs) (encoding_of gs)) in
    let i = and_right axes (named && (coded && (sized && order))) h in
    let j = and_right named (coded && (sized && order)) i in
    let k = and_right coded (sized && order) j in
    record {
      has_dimension = and_left axes (named && (coded && (sized && order))) h;
      has_type = and_left named (coded && (sized && order)) i;
      has_encoding = and_left coded (sized && order) j;
      has_sizes = and_left sized order k;
      has_endian = or_unless (is_given endian gs) (endian_needed (type_of gs) (encoding_of gs)) (and_right sized order k);
    }

of_needed : (gs : List Given) → Needed gs → has_needed gs ≡ true
unfolding has_needed
of_needed gs n =
    rw (n.has_dimension, n.has_type, n.has_encoding, n.has_sizes)
    (or_unless_is (is_given endian gs) (endian_needed (type_of gs) (encoding_of gs)) n.has_endian)

-- a byte skip of -1 stands with raw alone
raw_at_end : (gs : List Given) → end_is_raw gs ≡ true → byte_skip_of gs ≡ from_end → encoding_of gs ≡ raw
unfolding end_is_raw
raw_at_end gs h e = eqb-true (encoding_of gs) raw (rw e at h)

end_with_raw : (gs : List Given) → (byte_skip_of gs ≡ from_end → encoding_of gs ≡ raw) → end_is_raw gs ≡ true
unfolding end_is_raw
end_with_raw gs h = go (byte_skip_of gs) refl
  where
    go : (b : ByteSkip) → byte_skip_of gs ≡ b → (not (is_from_end b) || eqb (encoding_of gs) raw) ≡ true
    go (forward n) e = refl
    go from_end e = rw (h e)

-- a name follows LIST
filled_list : (gs : List Given) → list_empty gs ≡ false → names_follow gs ≡ true → 1 ≤ length (file_names gs)
unfolding list_empty
filled_list gs h n = go (length (file_names gs)) (rw n at h)
  where
    go : (k : ℕ) → eqb k 0 ≡ false → 1 ≤ k
    go zero e = absurd (false≢true (sym e))
    go (suc k) e = omega arith

list_filled_is : (gs : List Given) → (names_follow gs ≡ true → 1 ≤ length (file_names gs)) → list_empty gs ≡ false
unfolding list_empty
list_filled_is gs h = go (names_follow gs) refl
  where
    go : (x : Bool) → names_follow gs ≡ x → (x && eqb (length (file_names gs)) 0) ≡ false
    go false e = refl
    go true e = ne_eqb (length (file_names gs)) 0 (λ z. omega (arith, h e, z))

-- ---- the files and the axes that one covers

module _ (n : ℕ) (ns : List ℕ) (k c : ℕ) where
  covers_of : cover_fine n ns k c ≡ true → Covers n ns k c
  covers_of h =
      let rule = if ltb c n then eqb k (product (drop c ns)) else divides k (get_or ns (n - 1) 0) in
      let i = and_left (between 1 n c) (rule && divides k (product ns)) h in
      let j = and_right (between 1 n c) (rule && divides k (product ns)) h in
      let r = and_left rule (divides k (product ns)) j in
      record {
        least = leb-true 1 c (and_left (leb 1 c) (leb c n) i);
        most = leb-true c n (and_right (leb 1 c) (leb c n) i);
        slices = λ l. eqb-true k (product (drop c ns)) (rw (lt-ltb c n l) at r);
        slabs = λ e. eqb-true (get_or ns (n - 1) 0 % k) 0 (rw (le-ltb c n (omega (arith, e))) at r);
        shares = eqb-true (product ns % k) 0 (and_right rule (divides k (product ns)) j);
      }

  of_covers : Covers n ns k c → cover_fine n ns k c ≡ true
  of_covers w = rw (le-leb 1 c w.least, le-leb c n w.most, w.shares) (go (ltb c n) refl)
    where
      go : (x : Bool) → ltb c n ≡ x → ((if x then eqb k (product (drop c ns)) else divides k (get_or ns (n - 1) 0)) && true) ≡ true
      go true e = rw (w.slices (ltb-true c n e)) (ap (λ b. b && true) (eq-eqb (product (drop c ns)) (product (drop c ns)) refl))
      go false e = rw (w.slabs (omega (arith, w.most, ltb-false c n e)))

pub files_covered : (gs : List Given) → files_fine gs ≡ true → (axes : Option ℕ) → cover_of gs ≡ some axes
    → Covers (dimension_of gs) (sizes_of gs) (file_count_of gs) (or_default (dimension_of gs - 1) axes)
unfolding files_fine
files_covered gs h axes e = covers_of (dimension_of gs) (sizes_of gs) (file_count_of gs) (or_default (dimension_of gs - 1) axes) (rw e at h)

files_fine_lem : (gs : List Given)
    → ((axes : Option ℕ) → cover_of gs ≡ some axes → Covers (dimension_of gs) (sizes_of gs) (file_count_of gs) (or_default (dimension_of gs - 1) axes)) → files_fine gs ≡ true
unfolding files_fine
files_fine_lem gs h = go (cover_of gs) refl
  where
    go : (o : Option (Option ℕ)) → cover_of gs ≡ o → files_fit (dimension_of gs) (sizes_of gs) (file_count_of gs) o ≡ true
    go none e = refl
    go (some axes) e = of_covers (dimension_of gs) (sizes_of gs) (file_count_of gs) (or_default (dimension_of gs - 1) axes) (h axes e)

-- ---- the lines after line 1, from any of them on

-- the entries es keep the rules of lines after the fields gs, only the last one may close the header, and gs' are the fields after them
record Lined (version : ℕ) (gs : List Given) (es : List Entry) (gs' : List Given) : Type 0 where
  each : (before : List Entry) (l : Line) (i : Item) (after : List Entry) → es ≡ before ++ entry l i ∷ after
      → Keeps version (fields_of before ++ gs) (text l) i
  last : (before : List Entry) (l : Line) (after : List Entry) → es ≡ before ++ entry l closing ∷ after → after ≡ []
  fields : gs' ≡ fields_of es ++ gs

-- no entry stands among none
none_among : (before : List Entry) (e : Entry) (after : List Entry) → [] ≡ before ++ e ∷ after → ⊥
none_among [] e after h = cons≢nil (sym h)
none_among (b ∷ before) e after h = cons≢nil (sym h)

-- the fields given once a line is read
after_item_lem : (i : Item) (gs : List Given) → after_item i [] ++ gs ≡ after_item i gs
after_item_lem i gs = go (given_of i)
  where
    go : (o : Option Given) → with_field o [] ++ gs ≡ with_field o gs
    go none = refl
    go (some g) = refl

fields_next : (l : Line) (i : Item) (es : List Entry) (gs : List Given) → fields_of (entry l i ∷ es) ++ gs ≡ fields_of es ++ after_item i gs
unfolding fields_of
fields_next l i es gs = rw (append_assoc, after_item_lem i gs)

closed_next : (l : Line) (i : Item) (es : List Entry) → closes i ≡ false → closed (entry l i ∷ es) ≡ closed es
unfolding closed
closed_next l i [] c = c
closed_next l i (e ∷ es) c = refl

module _ (version : ℕ) (gs' : List Given) where
  lined_nil : (gs : List Given) → gs' ≡ gs → Lined version gs [] gs'
  unfolding fields_of
  lined_nil gs e =
      record {
        each = λ before l i after h. absurd (none_among before (entry l i) after h);
        last = λ before l after h. absurd (none_among before (entry l closing) after h);
        fields = e;
      }

  -- one entry before others
  lined_cons : (gs : List Given) (l : Line) (i : Item) (es : List Entry) → Keeps version gs (text l) i → (closes i ≡ true → es ≡ [])
      → Lined version (after_item i gs) es gs' → Lined version gs (entry l i ∷ es) gs'
  unfolding fields_of
  lined_cons gs l i es k c t = record { each = each; last = last; fields = t.fields ∙ sym (fields_next l i es gs) }
    where
      each : (before : List Entry) (m : Line) (j : Item) (after : List Entry) → entry l i ∷ es ≡ before ++ entry m j ∷ after
          → Keeps version (fields_of before ++ gs) (text m) j
      each [] m j after e =
          let p : l ≡ m = cc in
          let q : i ≡ j = cc in
          rw (← p, ← q) k
      each (entry n o ∷ before) m j after e =
          let p : i ≡ o = cc in
          let q : es ≡ before ++ entry m j ∷ after = cc in
          rw (fields_next n o before gs, ← p) (t.each before m j after q)

      last : (before : List Entry) (m : Line) (after : List Entry) → entry l i ∷ es ≡ before ++ entry m closing ∷ after → after ≡ []
      last [] m after e =
          let p : i ≡ closing = cc in
          let q : es ≡ after = cc in
          sym q ∙ c (ap closes p)
      last (b ∷ before) m after e = let q : es ≡ before ++ entry m closing ∷ after = cc in t.last before m after q

  -- the entries after one
  lined_next : (gs : List Given) (l : Line) (i : Item) (es : List Entry) → Lined version gs (entry l i ∷ es) gs' → Lined version (after_item i gs) es gs'
  lined_next gs l i es t =
      record {
        each = λ before m j after e. rw fields_next at (t.each (entry l i ∷ before) m j after (ap (λ x. entry l i ∷ x) e));
        last = λ before m after e. t.last (entry l i ∷ before) m after (ap (λ x. entry l i ∷ x) e);
        fields = t.fields ∙ fields_next l i es gs;
      }

-- ---- what is fine keeps the rules

module _ (version : ℕ) (gs' : List Given) (r : List Line) where
  fine_lined : (es : List Entry) (gs : List Given) → Fine version gs es gs' r → Lined version gs es gs'
  fine_lined [] gs f = lined_nil version gs' gs f.3
  fine_lined (entry l i ∷ es) gs f =
      fine_cases version gs l i es gs' r (λ es gs'. Lined version gs (entry l i ∷ es) gs') f
      (λ k c q. lined_cons version (after_item i gs) gs l i [] k (λ h. refl) (lined_nil version (after_item i gs) (after_item i gs) refl))
      (λ k c g. lined_cons version gs' gs l i es k (λ h. absurd (false≢true (sym c ∙ h))) (fine_lined es (after_item i gs) g))

  fine_unclosed : (es : List Entry) (gs : List Given) → Fine version gs es gs' r → closed es ≡ false → (r ≡ []) × (is_given data_file gs' ≡ true)
  unfolding closed
  fine_unclosed [] gs f u = (f.0, rw f.3 f.1)
  fine_unclosed (entry l i ∷ es) gs f u =
      fine_cases version gs l i es gs' r (λ es gs'. closed (entry l i ∷ es) ≡ false → (r ≡ []) × (is_given data_file gs' ≡ true)) f
      (λ k c q u. absurd (false≢true (sym u ∙ c))) (λ k c g u. fine_unclosed es (after_item i gs) g (sym (closed_next l i es c) ∙ u)) u

  -- ---- what keeps the rules is fine

  lined_fine : (es : List Entry) (gs : List Given) → Lined version gs es gs'
      → (closed es ≡ false → (r ≡ []) × (is_given data_file gs' ≡ true)) → Complete gs' → Fine version gs es gs' r
  unfolding fields_of closed
  lined_fine [] gs t u c = let e = t.fields in ((u refl).0, rw (← e) (u refl).1, rw (← e) c, e)
  lined_fine (entry l i ∷ es) gs t u c = (keeps_judge version gs (text l) i (t.each [] l i es refl), go (closes i) refl (lined_fine es (after_item i gs)))
    where
      next : Lined version (after_item i gs) es gs'
      next = lined_next version gs' gs l i es t

      go : (x : Bool) → closes i ≡ x
          → (Lined version (after_item i gs) es gs' → (closed es ≡ false → (r ≡ []) × (is_given data_file gs' ≡ true)) → Complete gs'
          → Fine version (after_item i gs) es gs' r)
          → FineBy x gs es gs' (Fine version (after_item i gs) es gs' r)
      go true h on =
          let e : es ≡ [] = t.last [] l es (ap (λ j. entry l j ∷ es) (is_closing i h)) in
          let f : gs' ≡ gs = rw (e, after_closing i gs h) at next.fields in
          (e, rw (← f) c, f)
      go false h on = on next (λ v. u (closed_next l i es h ∙ v)) c

-- ---- line 1, and endings

-- line 1 is a magic, and has its ending
first_is : (l : Line) {v : ℕ} → version_of_line l ≡ some v → (magic_version (text l) ≡ some v) × (has_ending (ending l) ≡ true)
first_is (line t lf) e = (e, refl)
first_is (line t crlf) e = (e, refl)
first_is (line t eof) e = absurd (none-ne-some _ e)

is_first : (l : Line) {v : ℕ} → magic_version (text l) ≡ some v → has_ending (ending l) ≡ true → version_of_line l ≡ some v
is_first (line t lf) e h = e
is_first (line t crlf) e h = e
is_first (line t eof) e h = absurd (false≢true h)

-- an empty line has its ending, as the first of lines that keep the line rule and among those of a file
first_ended : {l : Line} {ls : List Line} → Shape (l ∷ ls) → text l ≡ [] → has_ending (ending l) ≡ true
first_ended (lf_line p q s) e = refl
first_ended (crlf_line p s) e = refl
first_ended (eof_line p n) e = absurd (omega (arith, ap length e))

empty_ended : (file : List ℕ) (a : List Entry) (l : Line) (i : Item) (b : List Entry) (r : List Line)
    → lines file ≡ lines_of (a ++ entry l i ∷ b) ++ r → text l ≡ [] → has_ending (ending l) ≡ true
empty_ended file a l i b r p e =
    let s : Shape (lines_of (a ++ entry l i ∷ b) ++ r) = rw p at (shape_of_lines file) in
    first_ended (shape_after (lines_of a) (l ∷ lines_of b ++ r) (rw (map-append, append_assoc) at s)) e

-- ---- the whole header

pub keeps_accepted : (file : List ℕ) {es : List Entry} {gs : List Given} {r : List Line} → KeepsRules file es gs r → header file ≡ accepted es gs r
keeps_accepted file {es} {gs} {r} k =
    let t : Lined k.version [] k.others gs =
    record {
      each = λ before l i after h. rw append-nil (k.each before l i after h);
      last = λ before l after h. (k.last before l after h).1;
      fields = k.fields ∙ sym (append-nil (fields_of k.others));
    } in
    rw k.entries
    (header_fine file k.first k.version k.others gs r (rw k.entries at k.split) (is_first k.first k.first_magic k.first_ended)
    (lined_fine k.version gs r k.others [] t k.unclosed (record { filled = list_filled_is gs k.list_filled; needed = of_needed gs k.needed; fitting = end_with_raw gs k.end_is_raw; small = k.extent_bytes; files = files_fine_lem gs k.files_cover }))
    (rw k.entries at k.header_bytes) (rw k.entries at k.header_lines) k.file_bytes)

pub accepted_keeps : (file : List ℕ) {es : List Entry} {gs : List Given} {r : List Line} → header file ≡ accepted es gs r → KeepsRules file es gs r
accepted_keeps file {es} {gs} {r} e =
    let x = header_sound file e in
    let t = fine_lined x.version gs r x.rest [] x.fine in
    let c = fine_complete x.version x.rest [] gs r x.fine in
    let f = first_is x.first x.magical in
    record {
      split = x.split;
      first = x.first;
      version = x.version;
      others = x.rest;
      entries = x.entries;
      first_magic = f.0;
      first_ended = f.1;
      each = λ before l i after h. rw append-nil at (t.each before l i after h);
      last = λ before l after h. (
        empty_ended file (entry x.first (magic x.version) ∷ before) l closing after r (rw (x.entries, h) at x.split) (t.each before l closing after h),
        t.last before l after h,
      );
      unclosed = fine_unclosed x.version gs r x.rest [] x.fine;
      fields = t.fields ∙ append-nil (fields_of x.rest);
      needed = needed_of gs c.needed;
      list_filled = filled_list gs c.filled;
      end_is_raw = raw_at_end gs c.fitting;
      file_bytes = x.small;
      header_bytes = x.short;
      header_lines = x.few;
      extent_bytes = c.small;
      files_cover = files_covered gs c.files;
    }

pub refused_keeps_none : (file : List ℕ) {x : Refusal} → header file ≡ refused x → (es : List Entry) (gs : List Given) (r : List Line) → KeepsRules file es gs r → ⊥
refused_keeps_none file e es gs r k =
    let p = keeps_accepted file k in
    let q : false ≡ true = cc in
    false≢true q

pub keeps_none_refused : (file : List ℕ) → ((es : List Entry) (gs : List Given) (r : List Line) → KeepsRules file es gs r → ⊥)
    → (x : Refusal) × (header file ≡ refused x)
keeps_none_refused file none_keeps = go (header file) refl
  where
    go : (o : Outcome) → header file ≡ o → (x : Refusal) × (header file ≡ refused x)
    go (refused x) e = (x, e)
    go (accepted es gs r) e = absurd (none_keeps es gs r (accepted_keeps file e))
