-- Laws of the lines of keys: the pair of a line, and lines one after the other.
-- Assumes nothing.
use Prim.Native.Nat.{ℕ, suc, ◌+◌, ◌-◌, ◌≤◌, ◌<◌}
use native.Mathlib.Omega.{arith}
use mathlib.Core.Path.{◌≡◌, refl, sym, ap, ◌∙◌}
use mathlib.Core.Bool.{true, false, ◌&&◌}
use mathlib.Core.List.{List, [], ◌∷◌, ◌++◌, append_assoc}
use mathlib.Core.Option.{some}
use lib.Dec.{eqb}
use lib.Pointwise.{pointwise}
use lib.ListN.{length, take, drop, length-append, length-drop, length-take}
use Rattle.format.specs.Bytes.{bytes, same, LF, EQUALS}
use Rattle.format.specs.Limits.{max_header}
use Rattle.format.specs.Lines.{Line, line, lines}
use Rattle.format.specs.Pairs.{kind_of, pair_texts}
use Rattle.format.proofs.Lines.{length_lines_le, length_unlines_cons}
use Rattle.read_text.specs.declared.lines.Kind.TheVariants.{Pair}
use Rattle.read_text.proofs.Places.{KindAt}
use Rattle.read_lines.specs.Spans.{LineAt, PastAt}
use Rattle.read_lines.proofs.LineCuts.{rest_of}
use Rattle.listing_text.specs.Shown.{pair_in, is_key, is_later, key_text, shown_texts, shown_lines, lines_from, Within}

-- ---- texts

-- texts are the same where each byte is
pub same_is : (a b : List ℕ) → pointwise eqb a b ≡ same a b
unfolding same
same_is [] [] = refl
same_is [] (c ∷ t) = refl
same_is (b ∷ s) [] = refl
same_is (b ∷ s) (c ∷ t) = ap (λ r. eqb b c && r) (same_is s t)

-- ---- the pair of a line

module _ (t : List ℕ) (i : ℕ) (e : KindAt t (kind_of t) (Pair i)) where
  paired : pair_in t ≡ some (take i t, drop (i + 2) t)
  paired = ap pair_texts e.0

  pub pair_key : (k : List ℕ) → same k (take i t) ≡ is_key k (pair_in t)
  pair_key k = sym (ap (is_key k) paired)

  pub pair_later : (ls : List Line) → is_later (take i t) ls ≡ true → [] ≡ shown_texts (pair_in t) ls
  pair_later ls h = rw (paired, h)

  pub pair_last : (ls : List Line) → is_later (take i t) ls ≡ false → key_text (take i t) (drop (i + 2) t) ≡ shown_texts (pair_in t) ls
  pair_last ls h = rw (paired, h)

-- the line of a key, by its parts
pub key_parts : (t : List ℕ) (i : ℕ)
    → bytes "key " ++ (take i t ++ (EQUALS ∷ (take (length t - (i + 2)) (drop (i + 2) t) ++ LF ∷ []))) ≡ key_text (take i t) (drop (i + 2) t)
key_parts t i =
    ap (λ (s : List ℕ). bytes "key " ++ (take i t ++ (EQUALS ∷ (s ++ LF ∷ [])))) (rest_of (i + 2) t)
    ∙ ap (λ (s : List ℕ). bytes "key " ++ s) (sym (append_assoc (take i t) (EQUALS ∷ drop (i + 2) t) (LF ∷ [])))

pub key_short : (t : List ℕ) (i : ℕ) → i + 2 ≤ length t → length (key_text (take i t) (drop (i + 2) t)) ≤ length t + 4
key_short t i h =
    omega (arith, length-append (take i t ++ EQUALS ∷ drop (i + 2) t) (LF ∷ []), length-append (take i t) (EQUALS ∷ drop (i + 2) t), length-take i t, length-drop (i + 2) t)

-- ---- lines one after the other

module _ {file : List ℕ} {at count : ℕ} (w : Within file at count) where
  pub within_limit : at ≤ max_header
  within_limit = omega (arith, w.short)

  module _ (h : 0 < count) where
    one : count ≡ suc (count - 1)
    one = omega arith

    pub within_starts : at < length file
    within_starts = omega (arith, w.there, length_lines_le (drop at file), length-drop at file)

    pub within_not_past : PastAt file at → ⊥
    within_not_past p = omega (arith, rw (one, p.cut, length_unlines_cons) at w.short, p.long)

    module _ {text_end next : ℕ} (l : LineAt file at text_end next) where
      -- its text
      abbrev here : List ℕ
      here = take (text_end - at) (drop at file)

      pub lines_next : lines_from file at count ≡ line here l.ending ∷ lines_from file next (count - 1)
      lines_next = ap (λ (n : ℕ). take n (lines (drop at file))) one ∙ ap (take (suc (count - 1))) l.cut

      pub within_next : Within file next (count - 1)
      within_next =
          record {
            inside = l.within;
            there = omega (arith, rw (one, l.cut) at w.there);
            short = omega (arith, rw (one, l.cut, length_unlines_cons) at w.short, l.bytes);
          }

      -- the line has the key, or the lines after it decide
      pub later_here : (k : List ℕ) → is_key k (pair_in here) ≡ true → is_later k (lines_from file at count) ≡ true
      unfolding is_later
      later_here k e = rw (lines_next, e)

      pub later_next : (k : List ℕ) → is_key k (pair_in here) ≡ false
          → is_later k (lines_from file at count) ≡ is_later k (lines_from file next (count - 1))
      unfolding is_later
      later_next k e = rw (lines_next, e)

      pub shown_next : shown_lines (lines_from file at count)
          ≡ shown_texts (pair_in here) (lines_from file next (count - 1)) ++ shown_lines (lines_from file next (count - 1))
      unfolding shown_lines
      shown_next = rw lines_next

-- no line is left
pub lines_none : (file : List ℕ) (at count : ℕ) → count ≡ 0 → lines_from file at count ≡ []
lines_none file at count e = rw e
