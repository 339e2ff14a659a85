-- Laws of the look-ups: what a line gives a key or a field, and the entries that are left of a header, up to the names under LIST.
-- Assumes nothing.
use Rattle.std.specs.Prelude.{if◌then◌else◌}
use Prim.Native.Nat.{ℕ, ◌+◌, ◌-◌, ◌≤◌, ◌<◌}
use native.Mathlib.Nat.{zero-add}
use native.Mathlib.Omega.{arith}
use mathlib.Core.Path.{◌≡◌, refl, sym, ap, ◌∙◌, subst}
use mathlib.Core.Bool.{Bool, true, false, false≢true}
use mathlib.Core.List.{List, [], ◌∷◌, ◌++◌, append_assoc}
use mathlib.Core.Option.{Option, none, some, none-ne-some}
use lib.Dec.{eqb}
use lib.ListN.{length, take, drop, length-append, length-drop, length-map}
use lib.Seq.{length-take-le}
use borrow.Author.Tests.{eqb-true}
use Rattle.format.specs.declared.FindAnswer.{FindAnswer}
use Rattle.format.specs.Bytes.{same, is_some, or_else, or_default}
use Rattle.format.specs.Limits.{max_header}
use Rattle.format.specs.Refusals.{fine}
use Rattle.format.specs.Lines.{Line, line, text, size, lines, unlines}
use Rattle.format.specs.Pairs.{LineKind, kind_of, pair_texts, field_texts, escape, unescape}
use Rattle.format.specs.Fields.{field_named, Given, given, named}
use Rattle.format.specs.Descriptors.{from_descriptor, descriptor}
use Rattle.format.specs.Header.{Item, magic, pair_of, given_of, Entry, entry, line_of, lines_of, header_length, before_names, value_for, value_in, value_of}
use Rattle.format.specs.Calls.{no_place, found_at, pair_place, value_place, key_place, find_key_in, find_key_call, before_descriptor, given_place, descriptor_place, field_place, find_field_in, find_field_call, reading_of, read_header_call}
use Rattle.format.proofs.Lines.{length_lines_le, length_unlines_cons, length_unlines_append, lines_after}
use Rattle.format.proofs.Marks.{mark_of_kind}
use Rattle.format.proofs.Pairs.{unescape_of_escape, escaped_pair, named_field, field_in}
use Rattle.format.proofs.Descriptors.{from_le}
use Rattle.format.proofs.Header.{header_sound, magic_line}
use Rattle.format.proofs.Named.{from_names, before_lines, before_first, key_place_before, field_place_before}
use Rattle.read_text.specs.declared.lines.Kind.TheVariants.{Field, Pair}
use Rattle.std.specs.Prelude.{Option as Maybe, Some, None, Ok}
use Rattle.std.specs.Option.{option_or, is_some as is_some_of}
use Rattle.format.specs.declared.answers.Place.{Place}
use Rattle.format.specs.Answers.{place_found, reading_answered}
use Rattle.format.specs.declared.Reading.{Reading}
use Rattle.read_text.specs.Rows.{row_answer}
use Rattle.read_text.specs.Meanings.{means_key}
use Rattle.read_text.specs.Places.{kind_place}
use Rattle.read_text.proofs.Places.{KindAt, kind_told}
use Rattle.read_lines.specs.Spans.{LineAt, PastAt}
use Rattle.read_header.specs.Accepted.{Fielded, IsItem, Items}
use Rattle.read_lines.proofs.LineCuts.{rest_of}
use Rattle.read_header.proofs.Accepted.{was_read, header_items, item_pair, item_field}
use Rattle.read_lookup.specs.Lookup.{Left, latest_of, key_then, key_else, KeyLeft, FieldLeft, is_field, SecondAt}

-- ---- the mark of a line stands within it

pub pair_fits : (t : List ℕ) (j : ℕ) → Pair j ≡ kind_place (kind_of t) → j + 2 ≤ length t
pair_fits t j e = (kind_told t e).1

pub field_fits : (t : List ℕ) (j : ℕ) → Field j ≡ kind_place (kind_of t) → j + 2 ≤ length t
field_fits t j e = (kind_told t e).1

-- ---- a key's value, in one line

-- what a pair gives the key, or else what was found before it
abbrev pair_then : List ℕ → ℕ → Option (List ℕ × List ℕ) → FindAnswer → FindAnswer
pair_then k at o found = if is_some (value_for k o) then pair_place at o else found

-- what a line gives the key, put before what was found, is what is found once the line is passed
key_latest : (k : List ℕ) (at : ℕ) (i : Item) (found : FindAnswer) → latest_of found (key_then k at i (no_place fine)) ≡ key_then k at i found
key_latest k at i found = go (pair_of i)
  where
    go : (o : Option (List ℕ × List ℕ)) → latest_of found (pair_then k at o (no_place fine)) ≡ pair_then k at o found
    go none = refl
    go (some p) = here (same k p.0)
      where
        here : (x : Bool)
            → latest_of found (if is_some (if x then some p.1 else none) then pair_place at (some p) else no_place fine)
            ≡ (if is_some (if x then some p.1 else none) then pair_place at (some p) else found)
        here true = refl
        here false = refl

module _ (k : List ℕ) (at : ℕ) (found : FindAnswer) {t : List ℕ} {i : Item} (w : IsItem t i) where
  -- a line that is not that of a pair leaves what was found
  pub key_other : pair_texts (kind_of t) ≡ none → found ≡ key_then k at i found
  key_other e = go (pair_of i) (sym e ∙ item_pair w)
    where
      go : (o : Option (List ℕ × List ℕ)) → none ≡ escaped_pair o → found ≡ pair_then k at o found
      go none q = refl
      go (some p) q = absurd (none-ne-some _ q)

  -- the line of a pair, by what its key means
  pub key_pair : (j : ℕ) → KindAt t (kind_of t) (Pair j) → (x : Bool) → means_key k (unescape (take j t)) ≡ x
      → (if x then found_at (at + (j + 2)) (length t - (j + 2)) else found) ≡ key_then k at i found
  key_pair j e x z = go (pair_of i) (sym (ap pair_texts e.0) ∙ item_pair w)
    where
      -- a pair whose escaped texts these are
      there : (p : List ℕ × List ℕ) → escape p.0 ≡ take j t → escape p.1 ≡ drop (j + 2) t
          → (if x then found_at (at + (j + 2)) (length t - (j + 2)) else found) ≡ pair_then k at (some p) found
      there p q r =
          let m : same k p.0 ≡ x = ap (means_key k) (sym (unescape_of_escape p.0) ∙ ap unescape q) ∙ z in
          let n : length (escape p.0) ≡ j = ap length q ∙ length-take-le j t (omega (arith, e.1)) in
          let l : length (escape p.1) ≡ length t - (j + 2) = ap length r ∙ length-drop (j + 2) t in
          rw (m, n, l) (by x)
        where
          by : (x : Bool) → (if x then found_at (at + (j + 2)) (length t - (j + 2)) else found)
              ≡ (if is_some (if x then some p.1 else none) then found_at (at + (j + 2)) (length t - (j + 2)) else found)
          by true = refl
          by false = refl

      go : (o : Option (List ℕ × List ℕ)) → some (take j t, drop (j + 2) t) ≡ escaped_pair o
          → (if x then found_at (at + (j + 2)) (length t - (j + 2)) else found) ≡ pair_then k at o found
      go none q = absurd (none-ne-some _ (sym q))
      go (some p) q =
          there p (sym (ap (λ (o : Option (List ℕ × List ℕ)). (or_default ([], []) o).0) q)) (sym (ap (λ (o : Option (List ℕ × List ℕ)). (or_default ([], []) o).1) q))

-- ---- places as answers

-- what was found is found
pub found_some : (o : Maybe Place) → (place_found o).found ≡ is_some_of o
found_some (Some p) = refl
found_some None = refl

-- of two places the latter, if there is one
pub latest_is : (before here : Maybe Place) → place_found (option_or here before) ≡ latest_of (place_found before) (place_found here)
latest_is before (Some p) = refl
latest_is before None = refl

-- ---- a field's descriptor, in one line

-- the place of the descriptor in what follows a mark, which starts at `at`
abbrev pub place_in : ℕ → ℕ → List ℕ → FindAnswer
place_in f at rest = found_at (at + (length rest - length (from_descriptor f rest))) (length (descriptor f rest))

-- the name's row is the field, or not
pub field_row : (f g : ℕ) (o : Option ℕ) → Some g ≡ row_answer o → eqb f g ≡ is_field f o
field_row f g none e = let z : false ≡ true = cc in absurd (false≢true z)
field_row f g (some h) e = let z : g ≡ h = cc in rw z

pub field_no_row : (f : ℕ) (o : Option ℕ) → None ≡ row_answer o → false ≡ is_field f o
field_no_row f none e = refl
field_no_row f (some h) e = cc

module _ (f at : ℕ) (rest : FindAnswer) {t : List ℕ} {i : Item} (w : IsItem t i) where
  -- a line that is not that of a field
  pub field_other : field_texts (kind_of t) ≡ none → rest ≡ descriptor_place f at t i rest
  field_other e = ap (λ (o : Option Given). given_place f at t o rest) (sym (ap field_in e) ∙ item_field w)

  -- the line of a field, by its name
  module _ (j : ℕ) (e : KindAt t (kind_of t) (Field j)) where
    pub field_field : (x : Bool) → is_field f (field_named (take j t)) ≡ x
        → (if x then place_in f (at + (j + 2)) (drop (j + 2) t) else rest) ≡ descriptor_place f at t i rest
    field_field x z =
        go (field_named (take j t)) z ∙ ap (λ (o : Option Given). given_place f at t o rest) (sym (ap (λ (k : LineKind). field_in (field_texts k)) e.0) ∙ item_field w)
      where
        after : List ℕ
        after = drop (j + 2) t

        -- where the descriptor starts: past the mark, and what stands before it there
        starts : place_in f (at + (j + 2)) after ≡ found_at (at + before_descriptor f t) (length (descriptor f after))
        starts =
            let s : at + (j + 2) + (length after - length (from_descriptor f after)) ≡ at + (length t - length (from_descriptor f after)) =
            omega (arith, e.1, from_le f after, length-drop (j + 2) t) in
            rw (mark_of_kind t e.0, s)

        by : (g : ℕ) (x : Bool) → eqb f g ≡ x
            → (if x then found_at (at + before_descriptor f t) (length (descriptor f after)) else rest)
            ≡ (if x then found_at (at + before_descriptor f t) (length (descriptor g after)) else rest)
        by g true q = rw (eqb-true f g q)
        by g false q = refl

        go : (o : Option ℕ) → is_field f o ≡ x → (if x then place_in f (at + (j + 2)) after else rest) ≡ given_place f at t (named_field o after) rest
        go none q = rw (← q)
        go (some g) q = rw (starts, ← q) (by g (eqb f g) refl)

    pub field_there : is_field f (field_named (take j t)) ≡ true
        → (r : FindAnswer) → r ≡ place_in f (at + (j + 2)) (take (length t - (j + 2)) (drop (j + 2) t)) → r ≡ descriptor_place f at t i rest
    field_there z r q = q ∙ ap (place_in f (at + (j + 2))) (rest_of (j + 2) t) ∙ field_field true z

module _ (f at : ℕ) (t : List ℕ) (i : Item) (rest : FindAnswer) where
  -- the line has the field
  pub field_told : (descriptor_place f at t i (no_place fine)).found ≡ true → descriptor_place f at t i (no_place fine) ≡ descriptor_place f at t i rest
  field_told = go (given_of i)
    where
      by : (x : Bool) (p : FindAnswer) → (if x then p else no_place fine).found ≡ true → (if x then p else no_place fine) ≡ (if x then p else rest)
      by true p e = refl
      by false p e = absurd (false≢true e)

      go : (o : Option Given) → (given_place f at t o (no_place fine)).found ≡ true → given_place f at t o (no_place fine) ≡ given_place f at t o rest
      go none e = absurd (false≢true e)
      go (some (named n)) e = absurd (false≢true e)
      go (some (given g d)) e = by (eqb f g) (found_at (at + before_descriptor f t) (length d)) e

  -- the line does not have it
  pub field_next : (descriptor_place f at t i (no_place fine)).found ≡ false → descriptor_place f at t i rest ≡ rest
  field_next = go (given_of i)
    where
      by : (x : Bool) (p : FindAnswer) → p.found ≡ true → (if x then p else no_place fine).found ≡ false → (if x then p else rest) ≡ rest
      by true p h e = absurd (false≢true (sym e ∙ h))
      by false p h e = refl

      go : (o : Option Given) → (given_place f at t o (no_place fine)).found ≡ false → given_place f at t o rest ≡ rest
      go none e = refl
      go (some (named n)) e = refl
      go (some (given g d)) e = by (eqb f g) (found_at (at + before_descriptor f t) (length d)) refl e

-- ---- the entries that are left

-- one more line is passed: its value is kept where none comes after it
pub key_turn : (k : List ℕ) (at : ℕ) (l : Line) (i : Item) (es : List Entry) (found : FindAnswer)
    → key_else k at (entry l i ∷ es) found ≡ key_else k (at + size l) es (key_then k at i found)
unfolding key_place value_of
key_turn k at l i es found = go (value_of k es) (value_in k i)
  where
    go : (x y : Option (List ℕ))
        → (if is_some (or_else x y) then (if is_some x then key_place k (at + size l) es else if is_some y then value_place at i else no_place fine) else found)
        ≡ (if is_some x then key_place k (at + size l) es else if is_some y then value_place at i else found)
    go (some v) y = refl
    go none (some v) = refl
    go none none = refl

pub key_none : (k : List ℕ) (at : ℕ) (es : List Entry) (found : FindAnswer) → length es ≡ 0 → key_else k at es found ≡ found
unfolding value_of
key_none k at [] found h = refl
key_none k at (e ∷ es) found h = absurd (omega arith)

pub field_turn : (f at : ℕ) (l : Line) (i : Item) (es : List Entry)
    → field_place f at (entry l i ∷ es) ≡ descriptor_place f at (text l) i (field_place f (at + size l) es)
unfolding field_place
field_turn f at l i es = refl

pub field_none : (f at : ℕ) (es : List Entry) → length es ≡ 0 → field_place f at es ≡ no_place fine
unfolding field_place
field_none f at [] h = refl
field_none f at (e ∷ es) h = absurd (omega arith)

-- the lines after a line of the file, and where they start
module _ (P Q : List Entry → Type 0) (file : List ℕ) (at count e next : ℕ) (w : LineAt file at e next) where
  abbrev here : List ℕ
  here = take (e - at) (drop at file)

  passed : (es : List Entry) (after : List Line) → lines (drop at file) ≡ lines_of es ++ after → Items es
      → at + header_length es ≤ max_header → length es ≡ count → P es → 0 < count
      → ((l : Line) (i : Item) (es : List Entry) → text l ≡ here → at + size l ≡ next → IsItem (text l) i → P (entry l i ∷ es) → Q es)
      → Left Q file next (count - 1)
  passed [] after s j b m p n f = absurd (omega arith)
  passed (entry l i ∷ es) after s j b m p n f =
      let x : line here w.ending ∷ lines (drop next file) ≡ l ∷ (lines_of es ++ after) = sym w.cut ∙ s in
      let y : l ≡ line here w.ending = cc in
      let z : at + size l ≡ next = ap (λ u. at + size u) y ∙ w.bytes in
      record {
        entries = es;
        after = after;
        split = cc;
        items = j.1;
        short = omega (arith, length_unlines_cons l (lines_of es));
        many = omega arith;
        holds = f l i es (ap text y) z j.0 p;
      }

-- an entry more: the first line of the file from `at` on is its line
module _ {P : List Entry → Type 0} {file : List ℕ} {at count : ℕ} (w : Left P file at count) (more : 0 < count) where
  pub left_starts : at < length file
  left_starts =
      omega (arith, w.many, length_lines_le (drop at file), ap length w.split, length-append (lines_of w.entries) w.after, length-map w.entries line_of, length-drop at file)

  pub left_short : at ≤ max_header
  left_short = omega (arith, w.short)

  pub left_not_past : PastAt file at → ⊥
  left_not_past x = go w.entries w.split w.short w.many
    where
      go : (es : List Entry) → lines (drop at file) ≡ lines_of es ++ w.after → at + header_length es ≤ max_header → length es ≡ count → ⊥
      go [] s b m = omega arith
      go (entry l i ∷ es) s b m =
          let y : x.first ∷ x.rest ≡ l ∷ (lines_of es ++ w.after) = sym x.cut ∙ s in
          let z : x.first ≡ l = cc in
          omega (arith, x.long, ap size z, length_unlines_cons l (lines_of es))

  pub left_next : {e next : ℕ} → LineAt file at e next → (Q : List Entry → Type 0)
      → ((l : Line) (i : Item) (es : List Entry) → text l ≡ take (e - at) (drop at file) → at + size l ≡ next → IsItem (text l) i → P (entry l i ∷ es) → Q es)
      → Left Q file next (count - 1)
  left_next {e} {next} x Q f = passed P Q file at count e next x w.entries w.after w.split w.items w.short w.many w.holds more f

-- a line is passed, and its pair is kept
module _ {file : List ℕ} (k : List ℕ) {at count : ℕ} (found : FindAnswer) (w : KeyLeft file k at count found) where
  -- one more line is passed: `place` is that of the value in it, or `absent` where it has none
  pub key_next : 0 < count → {e next : ℕ} → LineAt file at e next → (absent place r : FindAnswer) → absent ≡ no_place fine
      → ((i : Item) → IsItem (take (e - at) (drop at file)) i → place ≡ key_then k at i absent) → r ≡ latest_of found place → KeyLeft file k next (count - 1) r
  key_next more {e} {next} x absent place r z h q =
      left_next w more x (λ es. find_key_call file k ≡ key_else k next es r) λ l i es t n j p.
      let g : r ≡ key_then k at i found =
      q ∙ ap (latest_of found) (h i (subst (λ u. IsItem u i) t j) ∙ ap (key_then k at i) z) ∙ key_latest k at i found in
      p ∙ key_turn k at l i es found ∙ rw (n, g)

  pub key_end : count ≡ 0 → found ≡ find_key_call file k
  key_end e = sym (w.holds ∙ key_none k at w.entries found (w.many ∙ e))

-- a line is passed, which has the field or not
module _ {file : List ℕ} (f : ℕ) {at count : ℕ} (w : FieldLeft file f at count) where
  module _ (more : 0 < count) {e next : ℕ} (x : LineAt file at e next) (r : FindAnswer)
      (h : (i : Item) → IsItem (take (e - at) (drop at file)) i → r ≡ descriptor_place f at (take (e - at) (drop at file)) i (no_place fine)) where
    here_is : (l : Line) (i : Item) → text l ≡ take (e - at) (drop at file) → IsItem (text l) i → r ≡ descriptor_place f at (text l) i (no_place fine)
    here_is l i t j = subst (λ u. IsItem u i → r ≡ descriptor_place f at u i (no_place fine)) (sym t) (h i) j

    pub field_found : r.found ≡ true → r ≡ find_field_call file f
    field_found y =
        (left_next w more x (λ es. r ≡ find_field_call file f) (λ l i es t n j p.
        let q = here_is l i t j in
        q ∙ field_told f at (text l) i (field_place f (at + size l) es) (sym (ap (λ a. a.found) q) ∙ y) ∙ sym (p ∙ field_turn f at l i es))).holds

    pub field_on : r.found ≡ false → FieldLeft file f next (count - 1)
    field_on y =
        left_next w more x (λ es. find_field_call file f ≡ field_place f next es) λ l i es t n j p.
        let q = here_is l i t j in
        p ∙ field_turn f at l i es ∙ field_next f at (text l) i (field_place f (at + size l) es) (sym (ap (λ a. a.found) q) ∙ y) ∙ rw n

  pub field_end : count ≡ 0 → no_place fine ≡ find_field_call file f
  field_end e = sym (w.holds ∙ field_none f at w.entries (w.many ∙ e))

-- ---- the start: the lines after line 1

-- so many lines stand before the names, as the reading says
pub before_lines_of : (file : List ℕ) {x : Reading} → reading_answered (Ok x) ≡ read_header_call file → Fielded file x.fieldlines
unfolding reading_of
before_lines_of file e =
    let r = was_read file e in
    record { entries = r.entries; fields = r.fields; after = r.after; is = r.is; many = ap (λ (y : Reading). y.fieldlines) r.reading_is }

-- the start of line 2, by the line that starts at 0
module _ (file : List ℕ) where
  pub second_found : (e next : ℕ) → LineAt file 0 e next → SecondAt file next
  second_found e next w l ls c h =
      let x : line (take (e - 0) file) w.ending ∷ lines (drop next file) ≡ l ∷ ls = sym w.cut ∙ c in
      let y : line (take (e - 0) file) w.ending ≡ l = cc in
      omega (arith, w.bytes, ap size y)

  pub second_past : PastAt file 0 → SecondAt file 0
  second_past w l ls c h =
      let x : w.first ∷ w.rest ≡ l ∷ ls = sym w.cut ∙ c in
      let y : w.first ≡ l = cc in
      absurd (omega (arith, w.long, ap size y))

-- the lines after line 1, up to the names under LIST, are those of the entries after it
module _ (file : List ℕ) {n at : ℕ} (a : Fielded file n) (s : SecondAt file at) where
  start : (Q : List Entry → Type 0) → ((l : Line) (v : ℕ) (es : List Entry) → at ≡ size l → before_names a.entries ≡ entry l (magic v) ∷ es → Q es)
      → Left Q file at (n - 1)
  unfolding unlines
  start Q f =
      let x = header_sound file a.is in
      let l = x.first in
      let before = before_names x.rest in
      let names = lines_of (from_names x.rest) in
      let m : lines_of x.rest ≡ lines_of before ++ names = before_lines x.rest in
      let c : lines file ≡ l ∷ (lines_of x.rest ++ a.after) = x.split ∙ ap (λ es. lines_of es ++ a.after) x.entries in
      let e : at ≡ size l = s l (lines_of x.rest ++ a.after) c (omega (arith, (magic_line l x.magical).0)) in
      let u : length (unlines (l ∷ [])) ≡ at = length_unlines_cons l [] ∙ omega arith in
      let b = ap header_length x.entries ∙ length_unlines_cons l (lines_of x.rest) in
      let d = ap (λ ls. length (unlines ls)) m ∙ length_unlines_append (lines_of before) names in
      record {
        entries = before;
        after = names ++ a.after;
        split =
            ap (λ i. lines (drop i file)) (sym u) ∙ lines_after file (l ∷ []) (lines_of x.rest ++ a.after) c ∙ ap (λ ls. ls ++ a.after) m ∙ append_assoc (lines_of before) names a.after;
        items = header_items x;
        short = omega (arith, x.short, b, d);
        many = omega (arith, a.many, ap length (before_first x));
        holds = f l x.version before e (before_first x);
      }

  pub key_start : (k : List ℕ) → KeyLeft file k at (n - 1) (no_place fine)
  unfolding key_place
  key_start k =
      start (λ es. find_key_call file k ≡ key_else k at es (no_place fine)) λ l v es e q.
      ap (find_key_in k) a.is ∙ key_place_before file a.is k ∙ ap (key_place k 0) q ∙ rw (zero-add, e)

  -- for any number of fields at once
  pub start_fields : (Q : List Entry → Type 0) → ((es : List Entry) → ((f : ℕ) → find_field_call file f ≡ field_place f at es) → Q es) → Left Q file at (n - 1)
  unfolding field_place
  start_fields Q h =
      start Q λ l v es e q. h es λ f.
      ap (find_field_in f) a.is ∙ field_place_before file a.is f ∙ ap (field_place f 0) q ∙ rw (zero-add, e)

  pub field_start : (f : ℕ) → FieldLeft file f at (n - 1)
  field_start f = start_fields (λ es. find_field_call file f ≡ field_place f at es) λ es h. h f
