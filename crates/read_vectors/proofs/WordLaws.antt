-- Laws of the words that blanks outside of brackets part: where the next one stands in a text.
-- Assumes nothing.
use Rattle.std.specs.Prelude.{if◌then◌else◌}
use Prim.Native.Nat.{ℕ, zero, suc, ◌+◌, ◌-◌, ◌≤◌, ◌<◌}
use native.Mathlib.Omega.{arith}
use mathlib.Core.Path.{◌≡◌, refl, sym, ap, ◌∙◌}
use mathlib.Core.Bool.{Bool, true, false, not, ◌&&◌, ◌||◌, false≢true}
use mathlib.Core.List.{List, [], ◌∷◌}
use lib.Dec.{eqb}
use lib.ListN.{length, take, drop, get_or, drop_of_length-le, length-drop}
use lib.Seq.{take_all, drop-drop}
use borrow.Author.Tests.{eqb-true, eq-eqb, ne_eqb, not-true}
use Rattle.format.specs.Bytes.{space_or_tab, SPACE, TAB}
use Rattle.format.specs.Fields.{field_at, dimension}
use Rattle.format.specs.Words.{join_first, not_empty, trim_front}
use Rattle.format.specs.Vectors.{part_or_join, inside_after, parts_outside, vector_words}
use Rattle.format.proofs.Bytes.{and_left, and_right}
use Rattle.format.proofs.Descriptors.{drop_to_descriptor}
use Rattle.read_text.proofs.Places.{drop_next}
use Rattle.read_vectors.specs.Outside.{first_outside, part, words_from, Next, WordAt}

-- ---- parts of a text

-- what a slice from a place on holds
pub all_after : (t : List ℕ) (at : ℕ) → take (length t - at) (drop at t) ≡ drop at t
all_after t at = take_all (length t - at) (drop at t) (rw length-drop (omega arith))

-- the trimmed text are the last bytes: the law of the descriptor of an understood field, which is trimmed so
pub drop_leading : (s : List ℕ) → drop (length s - length (trim_front s)) s ≡ trim_front s
unfolding field_at
drop_leading s = drop_to_descriptor dimension s

-- what follows the blanks at a place
after_blanks : (t : List ℕ) (at r : ℕ)
    → r ≡ length (take (length t - at) (drop at t)) - length (trim_front (take (length t - at) (drop at t)))
    → drop (at + r) t ≡ trim_front (drop at t)
after_blanks t at r e =
    let f : r ≡ length (drop at t) - length (trim_front (drop at t)) = rw all_after at e in
    sym (drop-drop r at t) ∙ rw f (drop_leading (drop at t))

-- ---- the first word, byte by byte

module _ (inside : Bool) (s : List ℕ) (i : ℕ) where
  -- a blank outside of brackets ends it
  pub word_stop : i < length s → (space_or_tab (get_or s i 0) && not inside) ≡ true → length (first_outside inside (drop i s)) ≡ 0
  unfolding first_outside
  word_stop h e = rw (drop_next s i h, e)

  -- any other byte is of it
  pub word_more : i < length s → (space_or_tab (get_or s i 0) && not inside) ≡ false
      → length (first_outside inside (drop i s)) ≡ suc (length (first_outside (inside_after inside (get_or s i 0)) (drop (i + 1) s)))
  unfolding first_outside
  word_more h e = rw (drop_next s i h, e)

  -- the end of the text ends it
  pub word_end : length s ≤ i → length (first_outside inside (drop i s)) ≡ 0
  unfolding first_outside
  word_end h = rw (drop_of_length-le s h)

-- ---- the words of a text

-- a blank is no bracket
blank_outside : (b : ℕ) → space_or_tab b ≡ true → inside_after false b ≡ false
blank_outside b e = go (eqb b SPACE) refl e
  where
    go : (x : Bool) → eqb b SPACE ≡ x → (x || eqb b TAB) ≡ true → inside_after false b ≡ false
    go true f e = rw (eqb-true b SPACE f)
    go false f e = rw (eqb-true b TAB e)

-- what ends a word is a blank, outside of brackets
module _ (inside : Bool) (b : ℕ) (e : (space_or_tab b && not inside) ≡ true) where
  end_blank : space_or_tab b ≡ true
  end_blank = and_left (space_or_tab b) (not inside) e

  end_outside : inside_after inside b ≡ false
  end_outside = rw (not-true inside (and_right (space_or_tab b) (not inside) e)) (blank_outside b end_blank)

-- the parts after the first, from where the first ends
abbrev rest : List ℕ → List (List ℕ)
rest [] = []
rest (b ∷ s) = parts_outside false s

-- the first part is the first word, which may be empty
first_part : (inside : Bool) (s : List ℕ) → parts_outside inside s ≡ first_outside inside s ∷ rest (drop (length (first_outside inside s)) s)
unfolding parts_outside first_outside
first_part inside [] = refl
first_part inside (b ∷ s) = go (space_or_tab b && not inside) refl (first_part (inside_after inside b) s)
  where
    f : List ℕ
    f = first_outside (inside_after inside b) s

    go : (x : Bool) → (space_or_tab b && not inside) ≡ x → parts_outside (inside_after inside b) s ≡ f ∷ rest (drop (length f) s)
        → part_or_join x b (parts_outside (inside_after inside b) s) ≡ (if x then [] else b ∷ f) ∷ rest (drop (length (if x then [] else b ∷ f)) (b ∷ s))
    go true e h = rw (end_outside inside b e)
    go false e h = ap (join_first b) h

-- a blank in front changes no word
blank_first : (b : ℕ) (s : List ℕ) → space_or_tab b ≡ true → vector_words (b ∷ s) ≡ vector_words s
unfolding vector_words parts_outside not_empty
blank_first b s e = rw (e, blank_outside b e)

-- where the first word ends, a blank outside of brackets or the end of the text stands, so that no part of a word is lost
word_rest : (inside : Bool) (s : List ℕ)
    → not_empty (rest (drop (length (first_outside inside s)) s)) ≡ vector_words (drop (length (first_outside inside s)) s)
unfolding vector_words parts_outside not_empty first_outside
word_rest inside [] = refl
word_rest inside (b ∷ s) = go (space_or_tab b && not inside) refl (word_rest (inside_after inside b) s)
  where
    f : List ℕ
    f = first_outside (inside_after inside b) s

    go : (x : Bool) → (space_or_tab b && not inside) ≡ x → not_empty (rest (drop (length f) s)) ≡ vector_words (drop (length f) s)
        → not_empty (rest (drop (length (if x then [] else b ∷ f)) (b ∷ s))) ≡ vector_words (drop (length (if x then [] else b ∷ f)) (b ∷ s))
    go true e h = sym (blank_first b s (end_blank inside b e))
    go false e h = h

-- the first word stands at the front
take_word : (inside : Bool) (s : List ℕ) → take (length (first_outside inside s)) s ≡ first_outside inside s
unfolding first_outside
take_word inside [] = refl
take_word inside (b ∷ s) = go (space_or_tab b && not inside) (take_word (inside_after inside b) s)
  where
    f : List ℕ
    f = first_outside (inside_after inside b) s

    go : (x : Bool) → take (length f) s ≡ f → take (length (if x then [] else b ∷ f)) (b ∷ s) ≡ (if x then [] else b ∷ f)
    go true e = refl
    go false e = rw e

-- a part with a byte is a word
filled : (w : List ℕ) (ws : List (List ℕ)) → (length w ≡ 0 → ⊥) → not_empty (w ∷ ws) ≡ w ∷ not_empty ws
unfolding not_empty
filled [] ws n = absurd (n refl)
filled (b ∷ w) ws n = refl

-- a first word that is not empty is the first of the words
word_first : (s : List ℕ) (k : ℕ) → k ≡ length (first_outside false s) → (k ≡ 0 → ⊥) → vector_words s ≡ take k s ∷ vector_words (drop k s)
unfolding vector_words
word_first s k e n =
    rw (e, take_word false s, first_part false s)
    (filled (first_outside false s) (rest (drop (length (first_outside false s)) s)) (λ z. n (e ∙ z))
    ∙ ap (λ (ws : List (List ℕ)). first_outside false s ∷ ws) (word_rest false s))

-- blanks at the front hold no word
words_trimmed : (s : List ℕ) → vector_words s ≡ vector_words (trim_front s)
unfolding trim_front
words_trimmed [] = refl
words_trimmed (b ∷ s) = go (space_or_tab b) refl (words_trimmed s)
  where
    go : (x : Bool) → space_or_tab b ≡ x → vector_words s ≡ vector_words (trim_front s)
        → vector_words (b ∷ s) ≡ vector_words (if x then trim_front s else b ∷ s)
    go true e h = blank_first b s e ∙ h
    go false e h = refl

-- a byte that is no blank is of a word
word_filled : (b : ℕ) (s : List ℕ) → space_or_tab b ≡ false → length (first_outside false (b ∷ s)) ≡ 0 → ⊥
unfolding first_outside
word_filled b s e h = let z : suc (length (first_outside (inside_after false b) s)) ≡ 0 = rw e at h in omega arith

-- after them the first word is empty only at the end of the text
trimmed_empty : (s : List ℕ) → length (first_outside false (trim_front s)) ≡ 0 → trim_front s ≡ []
unfolding trim_front
trimmed_empty [] h = refl
trimmed_empty (b ∷ s) h = go (space_or_tab b) refl h (trimmed_empty s)
  where
    go : (x : Bool) → space_or_tab b ≡ x → length (first_outside false (if x then trim_front s else b ∷ s)) ≡ 0
        → (length (first_outside false (trim_front s)) ≡ 0 → trim_front s ≡ []) → (if x then trim_front s else b ∷ s) ≡ []
    go true e h r = r h
    go false e h r = absurd (word_filled b s e h)

no_words : vector_words [] ≡ []
unfolding vector_words parts_outside not_empty
no_words = refl

-- the blanks at a place, r of them, then a word of k bytes
module _ (t : List ℕ) (at r k : ℕ)
    (e : r ≡ length (take (length t - at) (drop at t)) - length (trim_front (take (length t - at) (drop at t))))
    (f : k ≡ length (first_outside false (take (length t - (at + r)) (drop (at + r) t)))) where
  word_here : k ≡ length (first_outside false (drop (at + r) t))
  word_here = rw all_after at f

  pub next_words : vector_words (drop at t) ≡ words_from (at + r) (at + r + k) t
  next_words = words_trimmed (drop at t) ∙ rw (← after_blanks t at r e) (go (eqb k 0) refl)
    where
      go : (x : Bool) → eqb k 0 ≡ x → vector_words (drop (at + r) t) ≡ words_from (at + r) (at + r + k) t
      go true q =
          let z : k ≡ 0 = eqb-true k 0 q in
          let d : drop (at + r) t ≡ [] = after_blanks t at r e ∙ trimmed_empty (drop at t) (rw (← after_blanks t at r e, ← word_here) z) in
          rw (eq-eqb (at + r) (at + r + k) (omega arith), d) no_words
      go false q =
          let n : k ≡ 0 → ⊥ = λ z. false≢true (sym q ∙ eq-eqb k 0 z) in
          let s : at + r + k - (at + r) ≡ k = omega arith in
          rw (ne_eqb (at + r) (at + r + k) (λ z. n (omega arith)), s, ← drop-drop k (at + r) t) (word_first (drop (at + r) t) k word_here n)

-- ---- a loop over the words, by what the next one is

module _ {t : List ℕ} {at from to : ℕ} (w : Next t at from to) where
  -- no word more
  pub words_none : from ≡ to → vector_words (drop at t) ≡ []
  words_none e = w.words ∙ rw (eq-eqb from to e)

  -- a word, and those after it
  pub words_more : (from ≡ to → ⊥) → vector_words (drop at t) ≡ part from to t ∷ vector_words (drop to t)
  words_more n = w.words ∙ rw (ne_eqb from to n)

-- ---- the word number i, which is the word number `left` from a place on

get_d_less : {A : Type 0} (w : A) (ws : List A) (i : ℕ) (d : A) → 0 < i → get_or (w ∷ ws) i d ≡ get_or ws (i - 1) d
get_d_less w ws zero d h = absurd (omega arith)
get_d_less w ws (suc i) d h = let e : suc i - 1 ≡ i = omega arith in rw e

module _ {t : List ℕ} {at from to : ℕ} (i left : ℕ) (w : Next t at from to) (e : get_or (vector_words t) i [] ≡ get_or (vector_words (drop at t)) left []) where
  -- there is none
  pub word_none : from ≡ to → WordAt t i from to
  word_none n =
      let z : to - from ≡ 0 = omega arith in
      record { ordered = w.ordered; within = w.within; word = rw z (sym (e ∙ rw (words_none w n))) }

  -- it is a later one
  pub word_later : (from ≡ to → ⊥) → 0 < left → get_or (vector_words t) i [] ≡ get_or (vector_words (drop to t)) (left - 1) []
  word_later n h = e ∙ rw (words_more w n) (get_d_less (part from to t) (vector_words (drop to t)) left [] h)

  -- it is the next one
  pub word_next : left ≡ 0 → WordAt t i from to
  word_next z = go (eqb from to) refl
    where
      go : (x : Bool) → eqb from to ≡ x → WordAt t i from to
      go true q = word_none (eqb-true from to q)
      go false q =
          record { ordered = w.ordered; within = w.within; word = sym (e ∙ rw (words_more w (λ n. false≢true (sym q ∙ eq-eqb from to n)), z)) }
