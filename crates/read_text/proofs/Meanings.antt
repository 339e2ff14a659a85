-- Laws of what an escaped text means, byte by byte.
-- Assumes nothing.
use Rattle.std.specs.Prelude.{if◌then◌else◌}
use Prim.Native.Nat.{ℕ, zero, suc, ◌+◌, ◌-◌, ◌≤◌, ◌<◌}
use native.Mathlib.Nat.{zero-add}
use native.Mathlib.Omega.{arith}
use mathlib.Core.Path.{◌≡◌, refl, ap, ◌∙◌}
use mathlib.Core.Bool.{Bool, true, false}
use mathlib.Core.List.{List, [], ◌∷◌}
use mathlib.Core.Option.{Option, none, some}
use lib.Dec.{eqb}
use lib.ListN.{length, drop, get_or, set, drop_of_length-le}
use lib.Seq.{sets, sets-eq}
use borrow.Author.Tests.{eqb-true, eqb-false, eq-eqb, ne_eqb}
use Rattle.format.specs.Bytes.{same, is_some, onto, over, LF, BACKSLASH}
use Rattle.format.specs.Pairs.{unescape_from, unescape}
use Rattle.read_text.specs.Meanings.{means_key, meant_from, meant, First, NoFirst}
use Rattle.read_text.specs.declared.escapes.Meant.{Meant}
use Rattle.read_text.proofs.Places.{drop_next}

-- ---- the first byte that a text means from a place on

module _ (s : List ℕ) (at : ℕ) (h : at < length s) where
  -- a byte that is no backslash means itself
  pub first_plain : (get_or s at 0 ≡ BACKSLASH → ⊥) → First s at record { byte = get_or s at 0; width = 1 }
  unfolding unescape_from meant_from
  first_plain n =
      let e = ne_eqb (get_or s at 0) BACKSLASH n in
      record { within = omega arith; wide = omega arith; good = rw (drop_next s at h, e); next = rw (drop_next s at h, e) }

  -- a backslash at the end means nothing
  pub first_last : get_or s at 0 ≡ BACKSLASH → length s - at < 2 → NoFirst s at
  unfolding unescape_from meant_from
  first_last e l =
      let d = drop_of_length-le s {i = at + 1} (omega arith) in
      record { bad = rw (drop_next s at h, d, e); ends = rw (drop_next s at h, d, e) }

  module _ (e : get_or s at 0 ≡ BACKSLASH) (more : 2 ≤ length s - at) where
    two : drop at s ≡ BACKSLASH ∷ get_or s (at + 1) 0 ∷ drop (at + 2) s
    two =
        let n : at + 1 + 1 ≡ at + 2 = omega arith in
        drop_next s at h ∙ rw (drop_next s (at + 1) (omega arith), e, n)

    pub first_newline : get_or s (at + 1) 0 ≡ 110 → First s at record { byte = LF; width = 2 }
    unfolding unescape_from meant_from
    first_newline f = record { within = omega arith; wide = omega arith; good = rw (two, f); next = rw (two, f) }

    pub first_backslash : get_or s (at + 1) 0 ≡ BACKSLASH → First s at record { byte = BACKSLASH; width = 2 }
    unfolding unescape_from meant_from
    first_backslash f = record { within = omega arith; wide = omega arith; good = rw (two, f); next = rw (two, f) }

    -- before any other byte a backslash means nothing
    pub first_other : (get_or s (at + 1) 0 ≡ 110 → ⊥) → (get_or s (at + 1) 0 ≡ BACKSLASH → ⊥) → NoFirst s at
    unfolding unescape_from meant_from
    first_other f g =
        let a = ne_eqb (get_or s (at + 1) 0) 110 f in
        let b = ne_eqb (get_or s (at + 1) 0) BACKSLASH g in
        record { bad = rw (two, a, b); ends = rw (two, a, b) }

-- nothing is left past the end, and it means nothing more
pub nothing_left : (s : List ℕ) (i : ℕ) → length s ≤ i → unescape (drop i s) ≡ some []
unfolding unescape_from
nothing_left s i h = rw (drop_of_length-le s h)

-- ---- one byte more is passed

some_onto : (b : ℕ) (o : Option (List ℕ)) → is_some (onto b o) ≡ is_some o
some_onto b none = refl
some_onto b (some t) = refl

module _ (key : List ℕ) (k b : ℕ) where
  onto_more : (o : Option (List ℕ)) → length key ≤ k → means_key (drop k key) (onto b o) ≡ false
  unfolding same
  onto_more none h = refl
  onto_more (some t) h = rw (drop_of_length-le key h)

  onto_other : (o : Option (List ℕ)) → k < length key → (get_or key k 0 ≡ b → ⊥) → means_key (drop k key) (onto b o) ≡ false
  unfolding same
  onto_other none h n = refl
  onto_other (some t) h n = rw (drop_next key k h, ne_eqb (get_or key k 0) b n)

  onto_next : (o : Option (List ℕ)) → k < length key → get_or key k 0 ≡ b → means_key (drop k key) (onto b o) ≡ means_key (drop (k + 1) key) o
  unfolding same
  onto_next none h e = refl
  onto_next (some t) h e = rw (drop_next key k h, eq-eqb (get_or key k 0) b e)

module _ {s : List ℕ} {at : ℕ} {m : Meant} (f : First s at m) where
  -- what follows it means something if and only if the text does
  pub some_next : is_some (unescape (drop at s)) ≡ is_some (unescape (drop (at + m.width) s))
  some_next = ap is_some f.good ∙ some_onto m.byte (unescape (drop (at + m.width) s))

  -- of a key k bytes are passed: the key is at its end
  pub means_more : (key : List ℕ) (k : ℕ) → length key ≤ k → means_key (drop k key) (unescape (drop at s)) ≡ false
  means_more key k h = ap (means_key (drop k key)) f.good ∙ onto_more key k m.byte (unescape (drop (at + m.width) s)) h

  -- the key has another byte there
  pub means_other : (key : List ℕ) (k : ℕ) → k < length key → (get_or key k 0 ≡ m.byte → ⊥)
      → means_key (drop k key) (unescape (drop at s)) ≡ false
  means_other key k h d = ap (means_key (drop k key)) f.good ∙ onto_other key k m.byte (unescape (drop (at + m.width) s)) h d

  -- the key has that byte there
  pub means_next : (key : List ℕ) (k : ℕ) → k < length key → get_or key k 0 ≡ m.byte
      → means_key (drop k key) (unescape (drop at s)) ≡ means_key (drop (k + 1) key) (unescape (drop (at + m.width) s))
  means_next key k h e = ap (means_key (drop k key)) f.good ∙ onto_next key k m.byte (unescape (drop (at + m.width) s)) h e

-- the text is at its end: it means the key if all of the key is passed
pub means_end : (key : List ℕ) (k : ℕ) → k ≤ length key → means_key (drop k key) (some []) ≡ eqb k (length key)
unfolding same
means_end key k h = go (eqb k (length key)) refl
  where
    go : (x : Bool) → eqb k (length key) ≡ x → means_key (drop k key) (some []) ≡ x
    go true e = rw (drop_of_length-le key {i = k} (omega (arith, eqb-true)))
    go false e = rw (drop_next key k (omega (arith, eqb-false k (length key) e)))

-- ---- what a text means, byte after byte

pub meant_end : (s : List ℕ) (i : ℕ) → length s ≤ i → meant (drop i s) ≡ []
unfolding meant_from
meant_end s i h = rw (drop_of_length-le s h)

onto_meant : (c : ℕ) (o : Option (List ℕ)) (m t : List ℕ) → ((u : List ℕ) → o ≡ some u → m ≡ u) → onto c o ≡ some t → c ∷ m ≡ t
onto_meant c none m t f e = cc
onto_meant c (some u) m t f e = let q : c ∷ u ≡ t = cc in ap (λ (r : List ℕ). c ∷ r) (f u refl) ∙ q

-- where every backslash is allowed it is the meaning of the whole
meant_from_lem : (f : Bool) (s t : List ℕ) → unescape_from f s ≡ some t → meant_from f s ≡ t
unfolding unescape_from meant_from
meant_from_lem false [] t e = cc
meant_from_lem true [] t e = cc
meant_from_lem false (b ∷ s) t e = go (eqb b BACKSLASH) (λ q. meant_from_lem true s t q) (λ u q. meant_from_lem false s u q) e
  where
    go : (x : Bool) → (unescape_from true s ≡ some t → meant_from true s ≡ t) → ((u : List ℕ) → unescape_from false s ≡ some u → meant_from false s ≡ u)
        → (if x then unescape_from true s else onto b (unescape_from false s)) ≡ some t → (if x then meant_from true s else b ∷ meant_from false s) ≡ t
    go true f g q = f q
    go false f g q = onto_meant b (unescape_from false s) (meant_from false s) t g q
meant_from_lem true (b ∷ s) t e = go (eqb b 110) (eqb b BACKSLASH) (λ u q. meant_from_lem false s u q) e
  where
    go : (x y : Bool) → ((u : List ℕ) → unescape_from false s ≡ some u → meant_from false s ≡ u)
        → (if x then onto LF (unescape_from false s) else if y then onto BACKSLASH (unescape_from false s) else none) ≡ some t
        → (if x then LF ∷ meant_from false s else if y then BACKSLASH ∷ meant_from false s else []) ≡ t
    go true y g q = onto_meant LF (unescape_from false s) (meant_from false s) t g q
    go false true g q = onto_meant BACKSLASH (unescape_from false s) (meant_from false s) t g q
    go false false g q = cc

pub meant_is : (s t : List ℕ) → unescape s ≡ some t → meant s ≡ t
meant_is s t e = meant_from_lem false s t e

-- ---- bytes stored from a place on

-- past the end nothing is stored
set_full : (l : List ℕ) (i x : ℕ) → length l ≤ i → set l i x ≡ l
set_full [] i x h = refl
set_full (a ∷ l) zero x h = absurd (omega arith)
set_full (a ∷ l) (suc i) x h = ap (λ (r : List ℕ). a ∷ r) (set_full l i x (omega arith))

pub sets_full : (l v : List ℕ) (i : ℕ) → length l ≤ i → sets l i v ≡ l
sets_full l [] i h = refl
sets_full l (x ∷ v) i h = ap (λ (r : List ℕ). sets r (suc i) v) (set_full l i x h) ∙ sets_full l v (suc i) (omega arith)

-- what a text means, stored where it has room
pub meant_stored : (s t l o : List ℕ) → o ≡ sets l 0 (meant s) → unescape s ≡ some t → length t ≤ length l → o ≡ over t l
meant_stored s t l o e m h = e ∙ ap (sets l 0) (meant_is s t m) ∙ rw zero-add at (sets-eq t l 0 (omega arith))
