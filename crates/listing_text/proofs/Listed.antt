-- The listing of a file: what the lines of its header show are its keys, and each way to its end prints what the definition says.
-- Assumes nothing.
use Rattle.std.specs.Prelude.{if◌then◌else◌}
use Prim.Native.Nat.{ℕ, ◌≤◌, ◌<◌}
use native.Mathlib.Nat.{zero-add}
use native.Mathlib.Omega.{arith}
use mathlib.Core.Path.{◌≡◌, refl, sym, ap, ◌∙◌, subst}
use mathlib.Core.Bool.{Bool, true, false, ◌||◌, false≢true}
use mathlib.Core.List.{List, [], ◌∷◌, ◌++◌, append_assoc}
use mathlib.Core.Option.{Option, none, some}
use lib.ListN.{length, take, length-append, length-map}
use lib.Seq.{sets, sets-eq, take_at}
use borrow.Author.Tests.{lt-ltb, le-ltb}
use Rattle.format.specs.declared.Reading.{Reading}
use Rattle.format.specs.declared.ReadAnswer.{ReadAnswer}
use Rattle.format.specs.declared.DataAnswer.{DataAnswer}
use Rattle.format.specs.declared.WriteAnswer.{WriteAnswer}
use Rattle.format.specs.Bytes.{bytes, same, is_some, or_else}
use Rattle.format.specs.Limits.{max_lines, max_listed}
use Rattle.format.specs.Refusals.{lent_too_short, refusal, fine}
use Rattle.format.specs.Lines.{Line, line, lf, crlf, eof, text, lines, unlines}
use Rattle.format.specs.Pairs.{mark, escape}
use Rattle.format.specs.Fields.{Given}
use Rattle.format.specs.Descriptors.{is_detached, names_follow, encodings, encoding_of, endian_of, type_of, extent_of, sizes_of}
use Rattle.format.specs.Header.{Item, pair_of, Entry, entry, line_of, lines_of, magic_version, version_of_line, Outcome, refused, accepted, header, version_of, value_for, value_in, value_of, header_length, before_names, field_lines}
use Rattle.format.specs.Data.{Place, nowhere, part, place_of}
use Rattle.format.specs.Settings.{has_key}
use Rattle.format.specs.Calls.{form_of, read_answer, read_header_call, reading_of, data_answer}
use Rattle.format.specs.Writer.{decimal, spaced, name_at}
use Rattle.format.specs.Listing.{shown, shown_refusal, shown_pair, shown_keys, shown_reading, shown_form, shown_place, shown_header, listing, listing_call}
use Rattle.format.proofs.Bytes.{same_refl, same_true}
use Rattle.format.proofs.Lines.{length_unlines_append}
use Rattle.format.proofs.Pairs.{escape_injective, escaped_pair}
use Rattle.format.proofs.Header.{Fine, header_sound}
use Rattle.format.proofs.Named.{fine_under, no_value_under, from_names, before_lines, before_few, before_first, header_before}
use Rattle.format.proofs.Numbered.{NumberedOutcome, header_numbered}
use Rattle.format.proofs.Places.{NumberedPlace, place_numbered}
use Rattle.read_header.specs.Accepted.{Items}
use Rattle.read_header.proofs.Accepted.{header_items, item_pair}
use Rattle.data_place.specs.Places.{IsReading}
use Rattle.data_place.proofs.Headers.{header_axes, header_sizes}
use Rattle.listing_print.specs.Lines.{form_text, type_text, endian_text, top_text, middle_text, end_text}
use Rattle.listing_text.specs.Shown.{pair_in, is_key, is_later, shown_texts, shown_lines, lines_from, Within, reading_text}

-- ---- the keys

-- two keys are the same where their escaped texts are
same_escape : (k j : List ℕ) → same (escape k) (escape j) ≡ same k j
same_escape k j = go (same k j) refl (same (escape k) (escape j)) refl
  where
    go : (x : Bool) → same k j ≡ x → (y : Bool) → same (escape k) (escape j) ≡ y → y ≡ x
    go true e true f = refl
    go true e false f = sym f ∙ ap (λ (s : List ℕ). same (escape s) (escape j)) (same_true k j e) ∙ same_refl (escape j)
    go false e true f = sym (sym e ∙ ap (λ (s : List ℕ). same s j) (escape_injective k j (same_true (escape k) (escape j) f)) ∙ same_refl j)
    go false e false f = refl

-- whether a pair gives the key
key_is : (k : List ℕ) (o : Option (List ℕ × List ℕ)) → is_key (escape k) (escaped_pair o) ≡ is_some (value_for k o)
key_is k none = refl
key_is k (some p) = same_escape k p.0 ∙ go (same k p.0)
  where
    go : (x : Bool) → x ≡ is_some (if x then some p.1 else none)
    go true = refl
    go false = refl

-- whether a line of these gives it
later_is : (k : List ℕ) (es : List Entry) → Items es → is_later (escape k) (lines_of es) ≡ has_key k es
unfolding is_later value_of
later_is k [] h = refl
later_is k (entry l i ∷ es) h = rw (later_is k es h.1, item_pair h.0, key_is k (pair_of i)) (go (value_of k es) (value_in k i))
  where
    go : (a b : Option (List ℕ)) → (is_some b || is_some a) ≡ is_some (or_else a b)
    go none none = refl
    go none (some v) = refl
    go (some v) none = refl
    go (some v) (some u) = refl

-- what a line shows
pair_shown : (o : Option (List ℕ × List ℕ)) (es : List Entry) → Items es → shown_texts (escaped_pair o) (lines_of es) ≡ shown_pair o es
pair_shown none es h = refl
pair_shown (some p) es h = rw (later_is p.0 es h)

lines_shown : (es : List Entry) → Items es → shown_lines (lines_of es) ≡ shown_keys es
unfolding shown_lines shown_keys
lines_shown [] h = refl
lines_shown (entry l i ∷ es) h = rw (item_pair h.0, pair_shown (pair_of i) es h.1, lines_shown es h.1)

-- ---- no key stands under LIST

-- of lines and those of them before the names: the keys that they show, and the value of each key
abbrev SameKeys : List Entry → List Entry → Type 0
SameKeys es fs = (shown_keys es ≡ shown_keys fs) × ((k : List ℕ) → value_of k es ≡ value_of k fs)

keys_under : (version : ℕ) (gs : List Given) (es : List Entry) (gs' : List Given) (r : List Line) → Fine version gs es gs' r → names_follow gs ≡ true → SameKeys es []
unfolding shown_keys value_of
keys_under version gs es gs' r f n =
    (fine_under version gs' r (λ at es. shown_keys es ≡ []) (λ at. refl) (λ at l e. refl) (λ at l es e p. p) 0 gs es f n, λ k. no_value_under version gs' r k gs es f n)

-- one line more
keys_more : (l : Line) (i : Item) (es fs : List Entry) → SameKeys es fs → SameKeys (entry l i ∷ es) (entry l i ∷ fs)
unfolding shown_keys value_of
keys_more l i es fs h = (rw h.0 (ap (λ s. s ++ shown_keys fs) (pair (pair_of i))), λ k. rw (h.1 k))
  where
    pair : (o : Option (List ℕ × List ℕ)) → shown_pair o es ≡ shown_pair o fs
    pair none = refl
    pair (some p) = rw (h.1 p.0)

keys_before : (file : List ℕ) {es : List Entry} {gs : List Given} {ls : List Line} → header file ≡ accepted es gs ls → shown_keys es ≡ shown_keys (before_names es)
keys_before file e =
    (header_before (λ at es fs. SameKeys es fs) (λ at. (refl, λ k. refl)) (λ version at. keys_under version) (λ at l i es fs h p. keys_more l i es fs p) file e).0

-- ---- line 1

abbrev Unmarked : List ℕ → Option ℕ → Type 0
Unmarked t none = Unit {0}
Unmarked t (some v) = pair_in t ≡ none

magic_unmarked : (t : List ℕ) → Unmarked t (magic_version t)
unfolding magic_version mark
magic_unmarked t =
    go (same t (bytes "NRRD0001")) (same t (bytes "NRRD00.01")) (same t (bytes "NRRD0002")) (same t (bytes "NRRD0003")) (same t (bytes "NRRD0004"))
    (same t (bytes "NRRD0005")) (is (bytes "NRRD0001") refl) (is (bytes "NRRD00.01") refl) (is (bytes "NRRD0002") refl)
    (is (bytes "NRRD0003") refl) (is (bytes "NRRD0004") refl) (is (bytes "NRRD0005") refl)
  where
    -- what is the same as a text without a mark has none
    is : (s : List ℕ) → pair_in s ≡ none → same t s ≡ true → pair_in t ≡ none
    is s n e = ap pair_in (same_true t s e) ∙ n

    go : (a b c d e f : Bool) → (a ≡ true → pair_in t ≡ none) → (b ≡ true → pair_in t ≡ none) → (c ≡ true → pair_in t ≡ none)
        → (d ≡ true → pair_in t ≡ none) → (e ≡ true → pair_in t ≡ none) → (f ≡ true → pair_in t ≡ none)
        → Unmarked t (if a then some 1 else if b then some 1 else if c then some 2 else if d then some 3 else if e then some 4 else if f then some 5 else none)
    go true b c d e f p q r s u v = p refl
    go false true c d e f p q r s u v = q refl
    go false false true d e f p q r s u v = r refl
    go false false false true e f p q r s u v = s refl
    go false false false false true f p q r s u v = u refl
    go false false false false false true p q r s u v = v refl
    go false false false false false false p q r s u v = tt

first_unmarked : (l : Line) {v : ℕ} → version_of_line l ≡ some v → pair_in (text l) ≡ none
first_unmarked (line t lf) e = subst (Unmarked t) e (magic_unmarked t)
first_unmarked (line t crlf) e = subst (Unmarked t) e (magic_unmarked t)
first_unmarked (line t eof) e = let z : false ≡ true = cc in absurd (false≢true z)

-- ---- an accepted header

regroup : (a b c d e f g h k : List ℕ)
    → (a ++ (b ++ c)) ++ ((d ++ (e ++ f)) ++ ((g ++ h) ++ k)) ≡ a ++ (b ++ (c ++ (d ++ (e ++ (f ++ (g ++ (h ++ k)))))))
regroup a b c d e f g h k = simp append_assoc

module _ (file : List ℕ) {es : List Entry} {gs : List Given} {ls : List Line} (e : header file ≡ accepted es gs ls) where
  -- the lines before the names, and those after them
  header_split : lines file ≡ lines_of (before_names es) ++ (lines_of (from_names es) ++ ls)
  header_split = (header_sound file e).split ∙ ap (λ (x : List Line). x ++ ls) (before_lines es) ∙ append_assoc (lines_of (before_names es)) (lines_of (from_names es)) ls

  header_lines : lines_from file 0 (field_lines es) ≡ lines_of (before_names es)
  header_lines =
      ap (take (field_lines es)) header_split
      ∙ take_at (lines_of (before_names es)) (lines_of (from_names es) ++ ls) (field_lines es) (length-map (before_names es) line_of)

  header_within : Within file 0 (field_lines es)
  header_within =
      let x = header_sound file e in
      let n = ap (λ (y : List Line). length (unlines y)) (before_lines es) in
      record {
        inside = omega arith;
        there = omega (arith, ap length header_split, length-append (lines_of (before_names es)) (lines_of (from_names es) ++ ls), length-map (before_names es) line_of);
        short = rw header_lines (omega (arith, x.short, n, length_unlines_append (lines_of (before_names es)) (lines_of (from_names es))));
      }

  header_shown : shown_lines (lines_from file 0 (field_lines es)) ≡ shown_keys es
  unfolding shown_lines shown_keys
  header_shown =
      let x = header_sound file e in
      let rest = before_names x.rest in
      let n = ap (λ (o : Option (List ℕ × List ℕ)). shown_texts o (lines_of rest)) (first_unmarked x.first x.magical) in
      ap shown_lines header_lines
      ∙ ap (λ (y : List Entry). shown_lines (lines_of y)) (before_first x)
      ∙ ap (λ (s : List ℕ). s ++ shown_lines (lines_of rest)) n
      ∙ lines_shown rest (header_items x)
      ∙ sym (ap shown_keys (before_first x))
      ∙ sym (keys_before file e)

form_is : (gs : List Given) → form_text (form_of gs) ≡ shown_form gs
form_is gs = go (is_detached gs)
  where
    go : (b : Bool) → form_text (if b then 1 else 0) ≡ (if b then bytes "detached" else bytes "attached")
    go true = refl
    go false = refl

module _ {file : List ℕ} {x : Reading} {es : List Entry} {gs : List Given} (w : IsReading file x es gs) where
  pub reading_within : Within file 0 x.fieldlines
  unfolding reading_of
  reading_within = rw w.is (header_within file w.header_is)

  pub reading_few : x.fieldlines ≤ max_lines
  unfolding reading_of
  reading_few = rw w.is (omega (arith, before_few es, (header_sound file w.header_is).few))

  pub reading_axes : x.dimension ≤ length x.sizes
  unfolding reading_of
  reading_axes = rw w.is (header_axes file w.header_is)

  reading_shown : (start : ℕ) → reading_text file x start ≡ shown_reading es gs start
  unfolding reading_text top_text middle_text end_text shown_reading reading_of
  reading_shown start =
      rw (w.is, header_shown file w.header_is, header_sizes file w.header_is, form_is gs)
      (regroup (shown "version" (decimal (version_of es))) (shown "form" (shown_form gs)) (shown "type" (type_text (type_of gs)))
      (shown "sizes" (spaced (sizes_of gs))) (shown "encoding" (name_at encodings (encoding_of gs))) (shown "endian" (endian_text (endian_of gs)))
      (shown "start" (decimal start)) (shown "extent" (decimal (extent_of gs))) (shown_keys es))

-- ---- each way to the end

-- the reading of an accepted file
pub record WasRead (file : List ℕ) (x : Reading) : Type 0 where
  pub entries : List Entry
  pub fields : List Given
  pub reading : IsReading file x entries fields

module _ (file : List ℕ) where
  pub listing_long : max_listed < length file → shown_refusal (refusal lent_too_short) ≡ listing file
  unfolding listing
  listing_long h = rw (lt-ltb max_listed (length file) h)

  module _ (a : ReadAnswer) (e : a ≡ read_header_call file) where
    pub was_read : a.refusal.number ≡ 0 → WasRead file a.reading
    was_read z = go (header file) refl e (header_numbered file)
      where
        go : (o : Outcome) → header file ≡ o → a ≡ read_answer o → NumberedOutcome o → WasRead file a.reading
        go (refused r) p q n = absurd (let g : ⊥ = omega (arith, ap (λ (y : ReadAnswer). y.refusal.number) q) in g)
        go (accepted es gs ls) p q n =
            record { entries = es; fields = gs; reading = record { rest = ls; header_is = p; is = ap (λ (y : ReadAnswer). y.reading) q } }

    pub listing_refused : length file ≤ max_listed → (a.refusal.number ≡ 0 → ⊥) → shown_refusal a.refusal ≡ listing file
    unfolding listing
    listing_refused h n = rw (le-ltb max_listed (length file) h) (go (header file) e)
      where
        go : (o : Outcome) → a ≡ read_answer o → shown_refusal a.refusal ≡ shown_header file o
        go (refused r) q = rw q
        go (accepted es gs ls) q = absurd (n (ap (λ (y : ReadAnswer). y.refusal.number) q))

  module _ {x : Reading} (w : WasRead file x) (h : length file ≤ max_listed) where
    abbrev es : List Entry
    es = w.entries

    abbrev gs : List Given
    gs = w.fields

    -- by the form, as a number
    listing_by : (b : Bool) → is_detached gs ≡ b
        → listing file ≡ (if b then shown_reading es gs 0 else shown_place es gs (place_of false gs (header_length es) file []))
    unfolding listing
    listing_by b e = rw (le-ltb max_listed (length file) h, w.reading.header_is, e)

    form_by : (b : Bool) → is_detached gs ≡ b → x.form ≡ (if b then 1 else 0)
    unfolding reading_of
    form_by b e = rw (w.reading.is, e)

    pub listing_detached : x.form ≡ 1 → reading_text file x 0 ≡ listing file
    listing_detached f = reading_shown w.reading 0 ∙ sym (go (is_detached gs) refl)
      where
        go : (b : Bool) → is_detached gs ≡ b → listing file ≡ shown_reading es gs 0
        go true e = listing_by true e
        go false e = absurd (let g : ⊥ = omega (arith, form_by false e) in g)

    module _ (n : x.form ≡ 1 → ⊥) where
      listing_attached : listing file ≡ shown_place es gs (place_of false gs (header_length es) file [])
      listing_attached = go (is_detached gs) refl
        where
          go : (b : Bool) → is_detached gs ≡ b → listing file ≡ shown_place es gs (place_of false gs (header_length es) file [])
          go true e = absurd (n (form_by true e))
          go false e = listing_by false e

      module _ (d : DataAnswer) (q : d ≡ data_answer (place_of false gs (header_length es) file [])) where
        pub listing_nowhere : (d.refusal.number ≡ 0 → ⊥) → shown_refusal d.refusal ≡ listing file
        listing_nowhere z = go (place_of false gs (header_length es) file []) q ∙ sym listing_attached
          where
            go : (p : Place) → d ≡ data_answer p → shown_refusal d.refusal ≡ shown_place es gs p
            go (nowhere m) e = rw e
            go (part s start m) e = absurd (z (ap (λ (y : DataAnswer). y.refusal.number) e))

        pub listing_placed : d.refusal.number ≡ 0 → reading_text file x d.start ≡ listing file
        listing_placed z =
            reading_shown w.reading d.start
            ∙ go (place_of false gs (header_length es) file []) q (place_numbered gs false (header_length es) file [])
            ∙ sym listing_attached
          where
            go : (p : Place) → d ≡ data_answer p → NumberedPlace p → shown_reading es gs d.start ≡ shown_place es gs p
            go (nowhere m) e k = absurd (let g : ⊥ = omega (arith, ap (λ (y : DataAnswer). y.refusal.number) e) in g)
            go (part s start m) e k = rw e

-- ---- the call

module _ (file out : List ℕ) where
  pub call_refused : length out < length (listing file)
      → ◌≡◌ {A = WriteAnswer × List ℕ} (record { refusal = refusal lent_too_short; length = 0 }, out) (listing_call file out)
  call_refused h = rw (lt-ltb (length out) (length (listing file)) h)

  pub call_written : (n : ℕ) → n ≡ length (listing file) → n ≤ length out → (d : List ℕ) → d ≡ sets out 0 (listing file)
      → ◌≡◌ {A = WriteAnswer × List ℕ} (record { refusal = fine; length = n }, d) (listing_call file out)
  call_written n e h d q =
      let l : length (listing file) ≤ length out = omega arith in
      rw (le-ltb (length out) (length (listing file)) l, q, sets-eq (listing file) out 0 (omega arith), e, zero-add)
