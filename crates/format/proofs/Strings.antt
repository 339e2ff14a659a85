-- Laws of strings in double quotes: how many there are, where each stands in its descriptor, and the place in the header that a record tells.
-- Assumes nothing.
use Rattle.std.specs.Prelude.{if◌then◌else◌}
use Prim.Native.Nat.{ℕ, zero, suc, ◌+◌, ◌-◌, ◌≤◌, ◌<◌}
use native.Mathlib.Nat.{le_of_suc-le-suc, not-suc-le-zero}
use native.Mathlib.Omega.{arith}
use mathlib.Core.Path.{◌≡◌, refl, sym, ap, subst, ◌∙◌}
use mathlib.Core.Bool.{Bool, true, false, not, ◌&&◌, ◌||◌, false≢true}
use mathlib.Core.List.{List, [], ◌∷◌, ◌++◌}
use mathlib.Core.Option.{Option, none, some}
use lib.Dec.{eqb, ltb}
use lib.ListN.{length, take, drop, get_or, length-append, length-drop, take-append-drop, get_or-eq_default}
use lib.Seq.{drop-drop, take-append-le, drop-append-le, append_snoc, take-append_seam, drop-append_seam, take-append-add, drop-append-add}
use borrow.Author.Tests.{eqb-true, ltb-true, ltb-false}
use Rattle.format.specs.declared.FindAnswer.{FindAnswer}
use Rattle.format.specs.Bytes.{is_some, or_default, space_or_tab, QUOTE, BACKSLASH}
use Rattle.format.specs.Lines.{Line, unlines}
use Rattle.format.specs.Fields.{Given, descriptor_of, is_given, labels, units}
use Rattle.format.specs.Descriptors.{meaning, dimension_of, may_describe}
use Rattle.format.specs.Header.{Entry, lines_of, Outcome, accepted, header, header_length}
use Rattle.format.specs.Rules.{closed as closed_header}
use Rattle.format.specs.Calls.{field_place, find_field_in}
use Rattle.format.specs.Found.{HasAt, Finds, FindsField}
use Rattle.format.specs.Laws.{Each, InQuotes}
use Rattle.format.specs.Strings.{Quoted, quoted, start_of, text_of, Stands, apart, closed, inside, closes, joins, strings_from, as_many, strings_said, no_string}
use Rattle.format.specs.AxisRecords.{strings_of, string_place, string_place_of}
use Rattle.format.proofs.Bytes.{and_left}
use Rattle.format.proofs.Found.{field_found}
use Rattle.format.proofs.Header.{header_sound, header_ends}
use Rattle.format.proofs.Rules.{accepted_keeps}
use Rattle.format.proofs.Oriented.{header_described}

-- ---- how many there are

pub many_some : (n : ℕ) (o : Option (List Quoted)) (qs : List Quoted) → as_many n o ≡ some qs → (o ≡ some qs) × (length qs ≡ n)
many_some n none qs h = (h, cc)
many_some n (some rs) qs h = go (eqb (length rs) n) refl h
  where
    go : (x : Bool) → eqb (length rs) n ≡ x → (if x then some rs else none) ≡ some qs → (some rs ≡ some qs) × (length qs ≡ n)
    go true e h = let g : rs ≡ qs = cc in (h, rw g at (eqb-true (length rs) n e))
    go false e h = (cc, cc)

pub strings_counted : (n : ℕ) (t : List ℕ) (qs : List Quoted) → strings_said n t ≡ some qs → length qs ≡ n
unfolding strings_said
strings_counted n t qs h = (many_some n (strings_from apart 0 t) qs h).1

-- ---- where they stand

-- the same by what stands before and after the quotes
abbrev Parted : List ℕ → Quoted → Type 0
Parted t q = (p r : List ℕ) × (t ≡ p ++ QUOTE ∷ (text_of q ++ QUOTE ∷ r)) × (start_of q ≡ length p + 1)

stood : (t : List ℕ) (q : Quoted) → Parted t q → InQuotes t q
stood t q (p, r, e, k) =
    let w = text_of q in
    let front : start_of q - 1 ≡ length p = omega arith in
    let two : length w + 2 ≡ suc (length w + 1) = omega arith in
    record {
      after = omega arith;
      within = rw (e, length-append, length-append) (omega arith);
      between = rw (e, front, drop-append_seam, two, take-append-add);
      text = rw (e, k, drop-append-add, take-append_seam);
    }

-- what is read from a byte on, where no string is open: the strings stand in t
abbrev AllParted : List ℕ → Option (List Quoted) → Type 0
AllParted t none = Unit {0}
AllParted t (some qs) = Each (Parted t) qs

-- where one is open: the rest of it and its quote stand from here on, and the others in t
abbrev Begun : List ℕ → ℕ → List ℕ → Option (List Quoted) → Type 0
Begun t at s none = Unit {0}
Begun t at s (some []) = Unit {0}
Begun t at s (some (q ∷ qs)) = (start_of q ≡ at) × ((r : List ℕ) × (s ≡ text_of q ++ QUOTE ∷ r)) × Each (Parted t) qs

abbrev Read : Stands → List ℕ → ℕ → List ℕ → Option (List Quoted) → Type 0
Read apart t at s o = AllParted t o
Read closed t at s o = AllParted t o
Read (inside b) t at s o = Begun t at s o

if_blank : (t : List ℕ) (x : Bool) (o : Option (List Quoted)) → AllParted t o → AllParted t (if x then o else none)
if_blank t true o h = h
if_blank t false o h = tt

module _ (t p s : List ℕ) (at c : ℕ) (e : t ≡ p ++ c ∷ s) (k : at ≡ length p) where
  -- one byte more is passed
  more : t ≡ (p ++ c ∷ []) ++ s
  more = e ∙ sym (append_snoc p c s)

  count : at + 1 ≡ length (p ++ c ∷ [])
  count = rw (k, length-append)

  -- a quote opens a string
  if_opens : (y : Bool) → eqb c QUOTE ≡ y → (o : Option (List Quoted)) → Begun t (at + 1) s o → AllParted t (if y then o else none)
  if_opens false f o h = tt
  if_opens true f none h = tt
  if_opens true f (some []) h = tt
  if_opens true f (some (q ∷ qs)) h =
      ((p, h.1.0, e ∙ rw (eqb-true c QUOTE f, h.1.1), h.0 ∙ rw k), h.2)

  if_apart : (x y : Bool) → eqb c QUOTE ≡ y → (a o : Option (List Quoted)) → AllParted t a → Begun t (at + 1) s o
      → AllParted t (if x then a else if y then o else none)
  if_apart true y f a o g h = g
  if_apart false y f a o g h = if_opens y f o h

  -- a quote that no backslash stands before closes it, any other byte is of it
  if_closes : (x : Bool) → (x ≡ true → c ≡ QUOTE) → (a o : Option (List Quoted)) → AllParted t a → Begun t (at + 1) s o
      → Begun t at (c ∷ s) (if x then closes at a else joins at c o)
  if_closes true f none o g h = tt
  if_closes true f (some qs) o g h = (refl, (s, rw (f refl)), g)
  if_closes false f a none g h = tt
  if_closes false f a (some []) g h = tt
  if_closes false f a (some (quoted j w ∷ qs)) g h = (refl, (h.1.0, rw h.1.1), h.2)

read : (t : List ℕ) (st : Stands) (at : ℕ) (p s : List ℕ) → t ≡ p ++ s → at ≡ length p → Read st t at s (strings_from st at s)
unfolding strings_from
read t apart at p [] e k = tt
read t apart at p (c ∷ s) e k =
    if_apart t p s at c e k (space_or_tab c) (eqb c QUOTE) refl (strings_from apart (at + 1) s) (strings_from (inside false) (at + 1) s)
    (read t apart (at + 1) (p ++ c ∷ []) s (more t p s at c e k) (count t p s at c e k))
    (read t (inside false) (at + 1) (p ++ c ∷ []) s (more t p s at c e k) (count t p s at c e k))
read t closed at p [] e k = tt
read t closed at p (c ∷ s) e k =
    if_blank t (space_or_tab c) (strings_from apart (at + 1) s) (read t apart (at + 1) (p ++ c ∷ []) s (more t p s at c e k) (count t p s at c e k))
read t (inside b) at p [] e k = tt
read t (inside b) at p (c ∷ s) e k =
    if_closes t p s at c e k (eqb c QUOTE && not b) (λ h. eqb-true c QUOTE (and_left (eqb c QUOTE) (not b) h))
    (strings_from closed (at + 1) s) (strings_from (inside (eqb c BACKSLASH)) (at + 1) s)
    (read t closed (at + 1) (p ++ c ∷ []) s (more t p s at c e k) (count t p s at c e k))
    (read t (inside (eqb c BACKSLASH)) (at + 1) (p ++ c ∷ []) s (more t p s at c e k) (count t p s at c e k))

-- ---- by their number

each_parted : (t : List ℕ) (qs : List Quoted) → Each (Parted t) qs → (i : ℕ) → i < length qs → Parted t (get_or qs i no_string)
each_parted t [] h i l = absurd (not-suc-le-zero l)
each_parted t (q ∷ qs) h zero l = h.0
each_parted t (q ∷ qs) h (suc i) l = each_parted t qs h.1 i (le_of_suc-le-suc l)

pub strings_there : (n : ℕ) (t : List ℕ) (qs : List Quoted) → strings_said n t ≡ some qs → (i : ℕ) → i < length qs → InQuotes t (get_or qs i no_string)
unfolding strings_said
strings_there n t qs h i l =
    let o = (many_some n (strings_from apart 0 t) qs h).0 in
    stood t (get_or qs i no_string) (each_parted t qs (subst (AllParted t) o (read t apart 0 [] t refl refl)) i l)

-- ---- the place that a record tells

pub place_there : (from : ℕ) (qs : List Quoted) (i : ℕ) → i < length qs
    → string_place from qs i ≡ (from + start_of (get_or qs i no_string), length (text_of (get_or qs i no_string)))
unfolding string_place
place_there from [] i l = absurd (not-suc-le-zero l)
place_there from (quoted at w ∷ qs) zero l = refl
place_there from (q ∷ qs) (suc i) l = place_there from qs i (le_of_suc-le-suc l)

pub place_past : (from : ℕ) (qs : List Quoted) (i : ℕ) → length qs ≤ i → string_place from qs i ≡ (0, 0)
unfolding string_place
place_past from [] i l = refl
place_past from (q ∷ qs) zero l = absurd (not-suc-le-zero l)
place_past from (q ∷ qs) (suc i) l = place_past from qs i (le_of_suc-le-suc l)

-- ---- the strings of a field, in an accepted file

-- a part of a text t that stands in a file
part_there : (file t : List ℕ) (start s m : ℕ) → take (length t) (drop start file) ≡ t → s + m ≤ length t → take m (drop (start + s) file) ≡ take m (drop s t)
part_there file t start s m h l =
    let r = drop (length t) (drop start file) in
    let whole : drop start file ≡ t ++ r = sym (take-append-drop (length t) (drop start file)) ∙ ap (λ (u : List ℕ). u ++ r) h in
    ap (take m) (sym (drop-drop s start file) ∙ ap (drop s) whole ∙ drop-append-le s t r (omega arith)) ∙ take-append-le m (drop s t) r (omega (arith, length-drop s t))

-- a string in quotes in such a text
quotes_there : (file t : List ℕ) (a : FindAnswer) (q : Quoted) → HasAt file t a → InQuotes t q → InQuotes file (quoted (a.start + start_of q) (text_of q))
quotes_there file t a q h s =
    let start = a.start in
    let n = length (text_of q) in
    let whole : take (length t) (drop start file) ≡ t = rw h.long at h.bytes in
    let front : start + start_of q - 1 ≡ start + (start_of q - 1) = omega (arith, s.after) in
    record {
      after = omega (arith, s.after);
      within = omega (arith, h.within, h.long, s.within);
      between = rw front (part_there file t start (start_of q - 1) (n + 2) whole (omega (arith, s.after, s.within)) ∙ s.between);
      text = part_there file t start (start_of q) n whole (omega (arith, s.within)) ∙ s.text;
    }

module _ (file : List ℕ) {es : List Entry} {gs : List Given} {ls : List Line} (e : header file ≡ accepted es gs ls) (f : ℕ) where
  -- what the look-up finds is the descriptor that is given
  pub field_there : Finds file (descriptor_of f gs) (field_place f 0 es)
  field_there = subst (λ (o : Outcome). FindsField file f o (find_field_in f o)) e (field_found file f)

  -- the bytes at the place of a string are its text
  pub string_text : (i : ℕ) → let p = string_place_of f es gs i in take p.1 (drop p.0 file) ≡ text_of (get_or (strings_of f gs) i no_string)
  unfolding strings_of string_place
  string_text i = go (descriptor_of f gs) field_there
    where
      start : ℕ
      start = (field_place f 0 es).start

      by : (t : List ℕ) (qs : List Quoted) → HasAt file t (field_place f 0 es) → strings_said (dimension_of gs) t ≡ some qs → (x : Bool) → ltb i (length qs) ≡ x
          → let p = string_place start qs i in take p.1 (drop p.0 file) ≡ text_of (get_or qs i no_string)
      by t qs h q true b =
          let l = ltb-true i (length qs) b in
          let s = strings_there (dimension_of gs) t qs q i l in
          rw (place_there start qs i l) (quotes_there file t (field_place f 0 es) (get_or qs i no_string) h s).text
      by t qs h q false b =
          let l = ltb-false i (length qs) b in
          rw (place_past start qs i l, get_or-eq_default qs no_string l)

      said : (t : List ℕ) → HasAt file t (field_place f 0 es) → (o : Option (List Quoted)) → strings_said (dimension_of gs) t ≡ o
          → let p = string_place start (or_default [] o) i in take p.1 (drop p.0 file) ≡ text_of (get_or (or_default [] o) i no_string)
      said t h none q = refl
      said t h (some qs) q = by t qs h q (ltb i (length qs)) refl

      go : (o : Option (List ℕ)) → Finds file o (field_place f 0 es)
          → let qs = meaning [] (λ t. or_default [] (strings_said (dimension_of gs) t)) o in
          let p = string_place start qs i in take p.1 (drop p.0 file) ≡ text_of (get_or qs i no_string)
      go none h = refl
      go (some t) h = said t h (strings_said (dimension_of gs) t) refl

-- ---- they stand in the header

-- the field has a string for each axis
abbrev pub Said : ℕ → List Given → Type 0
Said f gs = (t : List ℕ) → descriptor_of f gs ≡ some t → is_some (strings_said (dimension_of gs) t) ≡ true

-- string i of qs, which are of a descriptor that starts at a byte of the file, stands in quotes at the place that is told of it
abbrev Told : List ℕ → ℕ → List Quoted → ℕ → Type 0
Told file from qs i =
    InQuotes file (quoted (string_place from qs i).0 (text_of (get_or qs i no_string))) × ((string_place from qs i).1 ≡ length (text_of (get_or qs i no_string)))

string_told : (file : List ℕ) {es : List Entry} {gs : List Given} {ls : List Line} → header file ≡ accepted es gs ls → (f i : ℕ) → Said f gs → is_given f gs ≡ true → i < dimension_of gs
    → Told file (field_place f 0 es).start (strings_of f gs) i
unfolding strings_of
string_told file {es} {gs} {ls} e f i said g l = go (descriptor_of f gs) (field_there file e f) said g
  where
    place : FindAnswer
    place = field_place f 0 es

    by : (t : List ℕ) → HasAt file t place → (o : Option (List Quoted)) → strings_said (dimension_of gs) t ≡ o → is_some o ≡ true → Told file place.start (or_default [] o) i
    by t h none q x = absurd (false≢true x)
    by t h (some qs) q x =
        let k : i < length qs = omega (arith, strings_counted (dimension_of gs) t qs q, l) in
        rw (place_there place.start qs i k) (quotes_there file t place (get_or qs i no_string) h (strings_there (dimension_of gs) t qs q i k), refl)

    go : (o : Option (List ℕ)) → Finds file o place → ((t : List ℕ) → o ≡ some t → is_some (strings_said (dimension_of gs) t) ≡ true) → is_some o ≡ true
        → Told file place.start (meaning [] (λ t. or_default [] (strings_said (dimension_of gs) t)) o) i
    go none h s x = absurd (false≢true x)
    go (some t) h s x = by t h (strings_said (dimension_of gs) t) refl (s t refl)

-- without a closing line after line 1 there is none
others_open : (x : Entry) (es : List Entry) → closed_header (x ∷ es) ≡ false → closed_header es ≡ false
unfolding closed_header
others_open x [] h = refl
others_open x (y ∷ es) h = h

module _ (file : List ℕ) {es : List Entry} {gs : List Given} {ls : List Line} (e : header file ≡ accepted es gs ls) where
  pub labels_said : Said labels gs
  unfolding may_describe
  labels_said t q = (header_described file e labels t q).described

  pub units_said : Said units gs
  unfolding may_describe
  units_said t q = (header_described file e units t q).described

  either_said : (f : ℕ) → (eqb f labels || eqb f units) ≡ true → Said f gs
  either_said f h = go (eqb f labels) refl h
    where
      go : (x : Bool) → eqb f labels ≡ x → (x || eqb f units) ≡ true → Said f gs
      go true q h = rw (eqb-true f labels q) labels_said
      go false q h = rw (eqb-true f units h) units_said

  -- the bytes of the header alone have it too: they are the file, or a header that its closing line ends
  pub string_quoted : (f i : ℕ) → (eqb f labels || eqb f units) ≡ true → is_given f gs ≡ true → i < dimension_of gs
      → InQuotes file (quoted (string_place_of f es gs i).0 (text_of (get_or (strings_of f gs) i no_string))) × ((string_place_of f es gs i).0 + (string_place_of f es gs i).1 + 1 ≤ header_length es)
  unfolding unlines
  string_quoted f i h g l = (there.0, go (closed_header es) refl)
    where
      there : Told file (field_place f 0 es).start (strings_of f gs) i
      there = string_told file e f i (either_said f h) g l

      long : length file ≡ header_length es + length (unlines ls)
      long = ap length (header_sound file e).bytes ∙ length-append (unlines (lines_of es)) (unlines ls)

      go : (x : Bool) → closed_header es ≡ x → (string_place_of f es gs i).0 + (string_place_of f es gs i).1 + 1 ≤ header_length es
      go true c =
          let n = length-append (unlines (lines_of es)) [] in
          let own = header_ends file e c [] (omega (arith, n, long, (header_sound file e).small)) in
          let alone = string_told (unlines (lines_of es) ++ []) own f i (either_said f h) g l in
          omega (arith, n, alone.0.within, alone.1)
      go false c =
          let k = accepted_keeps file e in
          let rest : ls ≡ [] = (k.unclosed (others_open _ k.others (rw k.entries at c))).0 in
          let none_left : length (unlines ls) ≡ 0 = rw rest in
          omega (arith, long, none_left, there.0.within, there.1)
