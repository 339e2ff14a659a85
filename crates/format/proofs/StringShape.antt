-- A descriptor is read as strings exactly where it is laid out as `Layout` says, and the strings read are those of the layout.
-- Assumes nothing.
use Rattle.std.specs.Prelude.{if◌then◌else◌}
use Prim.Native.Nat.{ℕ, ◌+◌, ◌≤◌}
use native.Mathlib.Nat.{not-suc-le-zero}
use native.Mathlib.Omega.{arith}
use mathlib.Core.Path.{◌≡◌, refl, sym, ap, subst, ◌∙◌}
use mathlib.Core.Bool.{Bool, true, false, not, ◌&&◌, false≢true}
use mathlib.Core.List.{List, [], ◌∷◌, ◌++◌}
use mathlib.Core.Option.{Option, none, some}
use lib.Dec.{eqb}
use lib.ListN.{length}
use borrow.Author.Tests.{eqb-true, eq-eqb}
use Rattle.format.specs.Bytes.{every, space_or_tab, QUOTE, BACKSLASH}
use Rattle.format.specs.Strings.{Quoted, quoted, Stands, apart, closed, inside, closes, joins, strings_from, strings_said}
use Rattle.format.specs.Laws.{Each, Piece, piece, blanks_of, word_of, laid, placed, ClosedText, Layout}
use Rattle.format.proofs.Bytes.{and_left, and_right, and_both}
use Rattle.format.proofs.Strings.{many_some}

-- ---- closed texts, by what stands before

-- the last byte is a backslash; of an empty text b says whether one stands before it
unfoldable ended : Bool → List ℕ → Bool
ended b [] = b
ended b (c ∷ w) = ended (eqb c BACKSLASH) w

ended_snoc : (b : Bool) (a : List ℕ) → ended b (a ++ BACKSLASH ∷ []) ≡ true
unfolding ended
ended_snoc b [] = refl
ended_snoc b (c ∷ a) = ended_snoc (eqb c BACKSLASH) a

snoc_ended : (b : Bool) (w : List ℕ) → ended b w ≡ true → (w ≡ [] → b ≡ false) → (a : List ℕ) × (w ≡ a ++ BACKSLASH ∷ [])
unfolding ended
snoc_ended b [] h f = absurd (false≢true (sym (f refl) ∙ h))
snoc_ended b (c ∷ []) h f = ([], rw (eqb-true c BACKSLASH h))
snoc_ended b (c ∷ d ∷ w) h f =
    let s = snoc_ended (eqb c BACKSLASH) (d ∷ w) h (λ e. cc) in
    (c ∷ s.0, ap (λ (u : List ℕ). c ∷ u) s.1)

-- the rest of a text from a byte on, b being whether a backslash stands right before that byte
abbrev ClosedFrom : Bool → List ℕ → Type 0
ClosedFrom b w = ((a d : List ℕ) → w ≡ a ++ QUOTE ∷ d → ended b a ≡ true) × (ended b w ≡ false)

from_closed : (w : List ℕ) → ClosedText w → ClosedFrom false w
from_closed w h = (λ a d e. let s = h.inner a d e in rw s.1 (ended_snoc false s.0), go (ended false w) refl)
  where
    go : (x : Bool) → ended false w ≡ x → x ≡ false
    go true e = let s = snoc_ended false w e (λ _. refl) in absurd (h.last s.0 s.1)
    go false e = refl

closed_from : (w : List ℕ) → ClosedFrom false w → ClosedText w
closed_from w h =
    record {
      inner = λ a d e. snoc_ended false a (h.0 a d e) (λ _. refl);
      last = λ a e. false≢true (sym h.1 ∙ rw e (ended_snoc false a));
    }

-- nothing is left, and no backslash stands right before the quote
from_empty : (b : Bool) → not b ≡ true → ClosedFrom b []
unfolding ended
from_empty true n = absurd (false≢true n)
from_empty false n = (no_quote, refl)
  where
    no_quote : (a d : List ℕ) → [] ≡ a ++ QUOTE ∷ d → ended false a ≡ true
    no_quote [] d e = cc
    no_quote (x ∷ a) d e = let i : [] ≡ x ∷ (a ++ QUOTE ∷ d) = e in cc

module _ (b : Bool) (c : ℕ) (w : List ℕ) where
  -- one byte less
  from_tail : ClosedFrom b (c ∷ w) → ClosedFrom (eqb c BACKSLASH) w
  unfolding ended
  from_tail h = (λ a d e. h.0 (c ∷ a) d (ap (λ (u : List ℕ). c ∷ u) e), h.1)

  -- its first byte is no quote that closes it
  from_first : ClosedFrom b (c ∷ w) → (eqb c QUOTE && not b) ≡ false
  unfolding ended
  from_first h = go (eqb c QUOTE) refl
    where
      go : (x : Bool) → eqb c QUOTE ≡ x → (x && not b) ≡ false
      go true e = rw (h.0 [] w (rw (eqb-true c QUOTE e)))
      go false e = refl

  -- one byte more
  from_more : (eqb c QUOTE && not b) ≡ false → ClosedFrom (eqb c BACKSLASH) w → ClosedFrom b (c ∷ w)
  unfolding ended
  from_more f h = (go, h.1)
    where
      flag : (x : Bool) → b ≡ x → (eqb c QUOTE && not x) ≡ false → c ≡ QUOTE → x ≡ true
      flag true e g k = refl
      flag false e g k = sym g ∙ and_both (eqb c QUOTE) true (eq-eqb c QUOTE k) refl

      go : (a d : List ℕ) → c ∷ w ≡ a ++ QUOTE ∷ d → ended b a ≡ true
      go [] d e = flag b refl f cc
      go (x ∷ a) d e =
          let i : c ∷ w ≡ x ∷ (a ++ QUOTE ∷ d) = e in
          let k : c ≡ x = cc in
          let l : w ≡ a ++ QUOTE ∷ d = cc in
          subst (λ (y : ℕ). ended (eqb y BACKSLASH) a ≡ true) k (h.0 a d l)

-- ---- a layout is read as its strings

read_text : (b : Bool) (w : List ℕ) → ClosedFrom b w → (at : ℕ) (r : List ℕ) (qs : List Quoted) → strings_from closed (at + length w + 1) r ≡ some qs
    → strings_from (inside b) at (w ++ QUOTE ∷ r) ≡ some (quoted at w ∷ qs)
unfolding strings_from ended
read_text b [] h at r qs e =
    let k : at + length {A = ℕ} [] + 1 ≡ at + 1 = omega arith in
    let f : b ≡ false = h.1 in
    rw (f, rw k at e)
read_text b (c ∷ w) h at r qs e =
    let k : at + 1 + length w + 1 ≡ at + length (c ∷ w) + 1 = omega arith in
    rw (from_first b c w h, read_text (eqb c BACKSLASH) w (from_tail b c w h) (at + 1) r qs (rw k e))

read_blanks : (s : List ℕ) → every space_or_tab s ≡ true → (at : ℕ) (r : List ℕ) → strings_from apart at (s ++ r) ≡ strings_from apart (at + length s) r
unfolding strings_from every
read_blanks [] h at r =
    let k : at ≡ at + length {A = ℕ} [] = omega arith in
    ap (λ (n : ℕ). strings_from apart n r) k
read_blanks (c ∷ s) h at r =
    let k : at + 1 + length s ≡ at + length (c ∷ s) = omega arith in
    rw (and_left (space_or_tab c) (every space_or_tab s) h, read_blanks s (and_right (space_or_tab c) (every space_or_tab s) h) (at + 1) r, k)

-- after a closing quote a blank is needed, and is read as any other
read_parted : (s : List ℕ) → every space_or_tab s ≡ true → 1 ≤ length s → (at : ℕ) (r : List ℕ) → strings_from closed at (s ++ r) ≡ strings_from apart at (s ++ r)
unfolding strings_from every
read_parted [] h l at r = absurd (not-suc-le-zero l)
read_parted (c ∷ s) h l at r = rw (and_left (space_or_tab c) (every space_or_tab s) h)

read_end : (end : List ℕ) → every space_or_tab end ≡ true → (at : ℕ) → strings_from apart at end ≡ some []
unfolding strings_from every
read_end [] h at = refl
read_end (c ∷ s) h at = rw (and_left (space_or_tab c) (every space_or_tab s) h) (read_end s (and_right (space_or_tab c) (every space_or_tab s) h) (at + 1))

read_last : (end : List ℕ) → every space_or_tab end ≡ true → (at : ℕ) → strings_from closed at end ≡ some []
unfolding strings_from every
read_last [] h at = refl
read_last (c ∷ s) h at = rw (and_left (space_or_tab c) (every space_or_tab s) h) (read_end s (and_right (space_or_tab c) (every space_or_tab s) h) (at + 1))

-- a string after its blanks
read_piece : (s w : List ℕ) → every space_or_tab s ≡ true → ClosedText w → (at : ℕ) (r : List ℕ) (qs : List Quoted)
    → strings_from closed (at + length s + 1 + length w + 1) r ≡ some qs
    → strings_from apart at (s ++ QUOTE ∷ (w ++ QUOTE ∷ r)) ≡ some (quoted (at + length s + 1) w ∷ qs)
unfolding strings_from
read_piece s w h c at r qs e =
    read_blanks s h at (QUOTE ∷ (w ++ QUOTE ∷ r)) ∙ read_text false w (from_closed w c) (at + length s + 1) r qs e

module _ (end : List ℕ) (last : every space_or_tab end ≡ true) where
  -- strings that all have blanks before them, after a closing quote
  read_others : (ps : List Piece) → Each (λ (p : Piece). every space_or_tab (blanks_of p) ≡ true) ps → Each (λ (p : Piece). 1 ≤ length (blanks_of p)) ps
      → Each (λ (p : Piece). ClosedText (word_of p)) ps → (at : ℕ) → strings_from closed at (laid ps end) ≡ some (placed at ps)
  unfolding laid placed
  read_others [] h l c at = read_last end last at
  read_others (piece s w ∷ ps) h l c at =
      let next = at + length s + 1 + length w + 1 in
      read_parted s h.0 l.0 at (QUOTE ∷ (w ++ QUOTE ∷ laid ps end))
      ∙ read_piece s w h.0 c.0 at (laid ps end) (placed next ps) (read_others ps h.1 l.1 c.1 next)

read_laid : (ps : List Piece) (end : List ℕ) → Layout ps end → strings_from apart 0 (laid ps end) ≡ some (placed 0 ps)
unfolding laid placed
read_laid [] end h = read_end end h.end_blank 0
read_laid (piece s w ∷ ps) end h =
    let next = 0 + length s + 1 + length w + 1 in
    read_piece s w h.blank.0 h.texts.0 0 (laid ps end) (placed next ps) (read_others end h.end_blank ps h.blank.1 h.parted h.texts.1 next)

length_placed : (at : ℕ) (ps : List Piece) → length (placed at ps) ≡ length ps
unfolding placed
length_placed at [] = refl
length_placed at (piece s w ∷ ps) = rw (length_placed (at + length s + 1 + length w + 1) ps)

pub strings_laid : (ps : List Piece) (end : List ℕ) → Layout ps end → strings_said (length ps) (laid ps end) ≡ some (placed 0 ps)
unfolding strings_said
strings_laid ps end h = rw (read_laid ps end h, length_placed 0 ps, eq-eqb (length ps) (length ps) refl)

-- ---- what is read has a layout

-- the strings of what follows a place, where one may begin there
abbrev Loose : ℕ → List ℕ → List Quoted → Type 0
Loose at s qs = (ps : List Piece) × (end : List ℕ) × Layout ps end × (s ≡ laid ps end) × (qs ≡ placed at ps)

-- and where a blank is needed before the first too
abbrev Tight : ℕ → List ℕ → List Quoted → Type 0
Tight at s qs = (ps : List Piece) × (end : List ℕ) × Layout ps end × (s ≡ laid ps end) × (qs ≡ placed at ps) × Each (λ (p : Piece). 1 ≤ length (blanks_of p)) ps

-- the rest of an open string, its quote, and the strings after it
abbrev Rest : Bool → ℕ → List ℕ → List Quoted → Type 0
Rest b at s qs = (w r : List ℕ) × (rs : List Quoted) × ClosedFrom b w × (s ≡ w ++ QUOTE ∷ r) × (qs ≡ quoted at w ∷ rs) × Tight (at + length w + 1) r rs

abbrev Strung : Stands → ℕ → List ℕ → List Quoted → Type 0
Strung apart at s qs = Loose at s qs
Strung closed at s qs = Tight at s qs
Strung (inside b) at s qs = Rest b at s qs

abbrev Seen : Stands → ℕ → List ℕ → Option (List Quoted) → Type 0
Seen st at s none = Unit {0}
Seen st at s (some qs) = Strung st at s qs

loosened : (at : ℕ) (s : List ℕ) (o : Option (List Quoted)) → Seen closed at s o → Seen apart at s o
loosened at s none h = tt
loosened at s (some qs) (ps, end, l, t, q, e) = (ps, end, l, t, q)

module _ (at c : ℕ) (s : List ℕ) where
  -- a blank more before the first string, or at the end
  blank_more : space_or_tab c ≡ true → (qs : List Quoted) (ps : List Piece) (end : List ℕ) → Layout ps end → s ≡ laid ps end → qs ≡ placed (at + 1) ps → Tight at (c ∷ s) qs
  unfolding laid placed every
  blank_more b qs [] end l t q =
      ([], c ∷ end, record { blank = tt; end_blank = and_both (space_or_tab c) (every space_or_tab end) b l.end_blank; parted = tt; texts = tt }, rw t, q, tt)
  blank_more b qs (piece u w ∷ ps) end l t q =
      let k : at + 1 + length u ≡ at + length (c ∷ u) = omega arith in
      let front = and_both (space_or_tab c) (every space_or_tab u) b l.blank.0 in (
        piece (c ∷ u) w ∷ ps,
        end,
        record { blank = (front, l.blank.1); end_blank = l.end_blank; parted = l.parted; texts = l.texts },
        rw t,
        q ∙ rw k,
        (omega arith, l.parted),
      )

  if_blank : (x : Bool) → space_or_tab c ≡ x → (o : Option (List Quoted)) → Seen apart (at + 1) s o → Seen closed at (c ∷ s) (if x then o else none)
  if_blank true b none h = tt
  if_blank true b (some qs) (ps, end, l, t, q) = blank_more b qs ps end l t q
  if_blank false b o h = tt

  -- a quote opens a string
  if_opens : (y : Bool) → eqb c QUOTE ≡ y → (o : Option (List Quoted)) → Seen (inside false) (at + 1) s o → Seen apart at (c ∷ s) (if y then o else none)
  unfolding laid placed every
  if_opens true e none h = tt
  if_opens true e (some qs) (w, r, rs, f, t, q, (ps, end, l, u, v, p)) =
      let k : at ≡ at + length {A = ℕ} [] = omega arith in (
        piece [] w ∷ ps,
        end,
        record { blank = (refl, l.blank); end_blank = l.end_blank; parted = p; texts = (closed_from w f, l.texts) },
        rw (eqb-true c QUOTE e, t, u),
        q ∙ ap (λ (us : List Quoted). quoted (at + 1) w ∷ us) v ∙ ap (λ (n : ℕ). quoted (n + 1) w ∷ placed (n + 1 + length w + 1) ps) k,
      )
  if_opens false e o h = tt

  if_apart : (x y : Bool) → space_or_tab c ≡ x → eqb c QUOTE ≡ y → (a o : Option (List Quoted)) → Seen apart (at + 1) s a → Seen (inside false) (at + 1) s o
      → Seen apart at (c ∷ s) (if x then a else if y then o else none)
  if_apart true y b e a o g h = loosened at (c ∷ s) a (if_blank true b a g)
  if_apart false y b e a o g h = if_opens y e o h

  -- a quote that no backslash stands before closes it, any other byte is of it
  if_closes : (b x : Bool) → (eqb c QUOTE && not b) ≡ x → (a o : Option (List Quoted)) → Seen closed (at + 1) s a → Seen (inside (eqb c BACKSLASH)) (at + 1) s o
      → Seen (inside b) at (c ∷ s) (if x then closes at a else joins at c o)
  unfolding ended
  if_closes b true e none o g h = tt
  if_closes b true e (some qs) o g h =
      let k : at + 1 ≡ at + length {A = ℕ} [] + 1 = omega arith in
      ([], s, qs, from_empty b (and_right (eqb c QUOTE) (not b) e), rw (eqb-true c QUOTE (and_left (eqb c QUOTE) (not b) e)), refl, subst (λ (n : ℕ). Tight n s qs) k g)
  if_closes b false e a none g h = tt
  if_closes b false e a (some []) g h = tt
  if_closes b false e a (some (quoted j v ∷ qs)) g (w, r, rs, f, t, q, p) =
      let k : at + 1 + length w + 1 ≡ at + length (c ∷ w) + 1 = omega arith in
      let i : v ≡ w = cc in
      let m : qs ≡ rs = cc in
      (c ∷ w, r, rs, from_more b c w e f, rw t, rw (i, m), rw k at p)

seen : (st : Stands) (at : ℕ) (s : List ℕ) → Seen st at s (strings_from st at s)
unfolding strings_from laid placed every
seen apart at [] = ([], [], record { blank = tt; end_blank = refl; parted = tt; texts = tt }, refl, refl)
seen apart at (c ∷ s) =
    if_apart at c s (space_or_tab c) (eqb c QUOTE) refl refl (strings_from apart (at + 1) s) (strings_from (inside false) (at + 1) s)
    (seen apart (at + 1) s) (seen (inside false) (at + 1) s)
seen closed at [] = ([], [], record { blank = tt; end_blank = refl; parted = tt; texts = tt }, refl, refl, tt)
seen closed at (c ∷ s) = if_blank at c s (space_or_tab c) refl (strings_from apart (at + 1) s) (seen apart (at + 1) s)
seen (inside b) at [] = tt
seen (inside b) at (c ∷ s) =
    if_closes at c s b (eqb c QUOTE && not b) refl (strings_from closed (at + 1) s) (strings_from (inside (eqb c BACKSLASH)) (at + 1) s)
    (seen closed (at + 1) s) (seen (inside (eqb c BACKSLASH)) (at + 1) s)

pub laid_strings : (n : ℕ) (t : List ℕ) (qs : List Quoted) → strings_said n t ≡ some qs
    → (ps : List Piece) × (end : List ℕ) × Layout ps end × (length ps ≡ n) × (t ≡ laid ps end) × (qs ≡ placed 0 ps)
unfolding strings_said
laid_strings n t qs h = go (subst (Seen apart 0 t) (many_some n (strings_from apart 0 t) qs h).0 (seen apart 0 t))
  where
    go : Loose 0 t qs → (ps : List Piece) × (end : List ℕ) × Layout ps end × (length ps ≡ n) × (t ≡ laid ps end) × (qs ≡ placed 0 ps)
    go (ps, end, l, e, q) = (ps, end, l, sym (length_placed 0 ps) ∙ rw q at (many_some n (strings_from apart 0 t) qs h).1, e, q)
