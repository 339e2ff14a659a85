-- Laws of the words of a descriptor: where the next one stands, and what its first byte is.
-- Assumes nothing.
use Rattle.std.specs.Prelude.{if◌then◌else◌}
use Prim.Native.Nat.{ℕ, suc, ◌+◌, ◌-◌, ◌≤◌, min}
use native.Mathlib.Omega.{arith}
use mathlib.Core.Path.{◌≡◌, refl, sym, ap, ◌∙◌}
use mathlib.Core.Bool.{Bool, true, false, not, false≢true}
use mathlib.Core.List.{List, [], ◌∷◌}
use lib.Dec.{eqb, leb}
use lib.ListN.{length, take, drop, get_or}
use lib.Seq.{drop-drop, take-nil}
use mir.Val.{bool_byte}
use borrow.Author.Tests.{eqb-true, eq-eqb, ne_eqb, leb-true, leb-false}
use Rattle.format.specs.Bytes.{bytes, space_or_tab, same, begins_with, is_in}
use Rattle.format.specs.Fields.{field_at, dimension}
use Rattle.format.specs.Words.{join_first, parts, not_empty, words, trim_front}
use Rattle.format.specs.Decimals.{past_number, digits_of}
use Rattle.format.specs.DataFiles.{is_list}
use Rattle.format.proofs.Bytes.{neither}
use Rattle.format.proofs.Descriptors.{drop_to_descriptor}
use Rattle.read_text.specs.Numbers.{first_word}
use Rattle.read_text.specs.Places.{before}
use Rattle.read_text.proofs.Places.{not_in_text, same_lengths, begins_short}
use Rattle.read_text.proofs.NumberLaws.{words_next}
use Rattle.read_decimals.specs.Parts.{number_from, digits_answer}
use Rattle.read_decimals.specs.declared.parts.Digits.{Digits}
use Rattle.read_decimals.proofs.DigitLaws.{suffix}
use Rattle.read_files.specs.Parts.{begins, part, Next}

-- ---- the first byte, and tests of a whole text

module _ (b : ℕ) where
  pub begins_empty : (s : List ℕ) → length s ≡ 0 → begins b s ≡ false
  begins_empty [] h = refl
  begins_empty (c ∷ s) h = absurd (omega arith)

  pub begins_first : (s : List ℕ) → (length s ≡ 0 → ⊥) → begins b s ≡ eqb (get_or s 0 0) b
  begins_first [] n = absurd (n refl)
  begins_first (c ∷ s) n = refl

  -- a byte that stands there is within the text
  pub begins_within : (s : List ℕ) → bool_byte (begins b s) ≤ length s
  begins_within [] = omega arith
  begins_within (c ∷ s) = go (eqb c b)
    where
      go : (x : Bool) → bool_byte x ≤ suc (length s)
      go true = omega arith
      go false = omega arith

  -- not all bytes stand before b
  pub in_text : (t : List ℕ) → not (eqb (before b t) (length t)) ≡ is_in b t
  in_text t = rw (← not_in_text b t) (go (is_in b t))
    where
      go : (x : Bool) → not (not x) ≡ x
      go true = refl
      go false = refl

-- `LIST` has four bytes
pub list_long : (t : List ℕ) → is_list t ≡ true → 4 ≤ length t
list_long t e = go (leb 4 (length t)) refl
  where
    go : (x : Bool) → leb 4 (length t) ≡ x → 4 ≤ length t
    go true q = leb-true 4 (length t) q
    go false q =
        let k = leb-false 4 (length t) q in
        let a = same_lengths t (bytes "LIST") (λ z. omega arith) in
        let b = begins_short (bytes "LIST ") t (omega arith) in
        absurd (false≢true (sym (neither (same t (bytes "LIST")) (begins_with (bytes "LIST ") t) a b) ∙ e))

-- ---- digits, as they were read

module _ (d : Digits) (s : List ℕ) (q : d ≡ digits_answer 0 s) where
  pub digits_count : d.count ≡ length (digits_of s)
  unfolding digits_answer
  digits_count = ap (λ (x : Digits). x.count) q

  pub digits_number : d.number ≡ min (number_from 0 (digits_of s)) past_number
  unfolding digits_answer
  digits_number = ap (λ (x : Digits). x.number) q

-- ---- the next word

-- the trimmed text are the last bytes: the law of the descriptor of an understood field, which is trimmed so
drop_leading : (s : List ℕ) → drop (length s - length (trim_front s)) s ≡ trim_front s
unfolding field_at
drop_leading s = drop_to_descriptor dimension s

-- what follows the blanks at a place
after_blanks : (t : List ℕ) (at r : ℕ)
    → r ≡ length (take (length t - at) (drop at t)) - length (trim_front (take (length t - at) (drop at t)))
    → drop (at + r) t ≡ trim_front (drop at t)
after_blanks t at r e =
    let f : r ≡ length (drop at t) - length (trim_front (drop at t)) = rw (suffix t at) at e in
    sym (drop-drop r at t) ∙ rw f (drop_leading (drop at t))

-- blanks at the front hold no word
words_trimmed : (s : List ℕ) → words s ≡ words (trim_front s)
unfolding trim_front parts not_empty
words_trimmed [] = refl
words_trimmed (b ∷ s) = go (space_or_tab b) refl (words_trimmed s)
  where
    go : (x : Bool) → space_or_tab b ≡ x → words s ≡ words (trim_front s)
        → not_empty (if x then [] ∷ parts s else join_first b (parts s)) ≡ words (if x then trim_front s else b ∷ s)
    go true e h = h
    go false e h = rw e

-- after them the first word is empty only at the end of the text
trimmed_empty : (s : List ℕ) → length (first_word (trim_front s)) ≡ 0 → trim_front s ≡ []
unfolding trim_front first_word
trimmed_empty [] h = refl
trimmed_empty (b ∷ s) h = go (space_or_tab b) refl h (trimmed_empty s)
  where
    go : (x : Bool) → space_or_tab b ≡ x → length (first_word (if x then trim_front s else b ∷ s)) ≡ 0
        → (length (first_word (trim_front s)) ≡ 0 → trim_front s ≡ []) → (if x then trim_front s else b ∷ s) ≡ []
    go true e h r = r h
    go false e h r = let z : suc (length (first_word s)) ≡ 0 = rw e at h in absurd (omega arith)

no_words : words [] ≡ []
unfolding parts not_empty
no_words = refl

-- the blanks at a place, r of them, then a word of k bytes
module _ (t : List ℕ) (at r k : ℕ)
    (e : r ≡ length (take (length t - at) (drop at t)) - length (trim_front (take (length t - at) (drop at t))))
    (f : k ≡ length (first_word (take (length t - (at + r)) (drop (at + r) t)))) (h : at + r + k ≤ length t) where
  here : words (drop at t) ≡ words (drop (at + r) t)
  here = words_trimmed (drop at t) ∙ ap words (sym (after_blanks t at r e))

  no_more : k ≡ 0 → drop (at + r) t ≡ []
  no_more z =
      let q : k ≡ length (first_word (drop (at + r) t)) = rw (suffix t (at + r)) at f in
      after_blanks t at r e ∙ trimmed_empty (drop at t) (rw (← after_blanks t at r e, ← q) z)

  pub next_word : Next t at record { from = at + r; to = at + r + k }
  next_word = go (eqb k 0) refl
    where
      go : (x : Bool) → eqb k 0 ≡ x → Next t at record { from = at + r; to = at + r + k }
      go true q =
          let z : k ≡ 0 = eqb-true k 0 q in
          let s : at + r + k ≡ at + r = omega arith in
          let d : drop (at + r) t ≡ [] = no_more z in
          let w : words (drop at t) ≡ [] = here ∙ rw d no_words in
          record {
            ordered = omega arith;
            within = h;
            list = w ∙ rw (eq-eqb (at + r) (at + r + k) (sym s));
            word = rw (w, d, take-nil);
            rest = rw (s, w, d) no_words;
          }
      go false q =
          let n : k ≡ 0 → ⊥ = λ z. false≢true (sym q ∙ eq-eqb k 0 z) in
          let w : words (drop at t) ≡ part (at + r) (at + r + k) t ∷ words (drop (at + r + k) t) = here ∙ words_next t (at + r) k f n in
          record {
            ordered = omega arith;
            within = h;
            list = w ∙ rw (ne_eqb (at + r) (at + r + k) (λ z. n (omega arith)));
            word = rw w;
            rest = rw w;
          }
