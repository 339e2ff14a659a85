-- The line at a place of a file, from the search for its LF in the bytes up to the limit.
-- Assumes nothing.
use Rattle.std.specs.Prelude.{if◌then◌else◌}
use Prim.Native.Nat.{ℕ, zero, suc, ◌+◌, ◌-◌, ◌≤◌, ◌<◌, min}
use native.Mathlib.Nat.{le_of_suc-le-suc, not-suc-le-zero}
use native.Mathlib.Omega.{arith}
use mathlib.Core.Path.{◌≡◌, refl, sym, ap, ◌∙◌, subst}
use mathlib.Core.Bool.{Bool, true, false}
use mathlib.Core.List.{List, [], ◌∷◌, append-nil}
use lib.Dec.{eqb, ltb}
use lib.ListN.{length, take, drop, length-take, length-drop}
use lib.Seq.{take_all, take-take, length-take-le, drop-drop}
use borrow.Author.Tests.{ltb-true, ltb-false}
use Rattle.format.specs.Bytes.{LF, CR}
use Rattle.format.specs.Limits.{max_header}
use Rattle.format.specs.Lines.{Line, line, lf, crlf, eof, size, lines}
use Rattle.format.proofs.Lines.{lines_none}
use Rattle.read_text.specs.Places.{before, without_cr, ending_at}
use Rattle.read_text.proofs.Places.{before_le, take_without_cr, lines_by_lf, size_by_lf, lines_to_end}
use Rattle.read_lines.specs.declared.LineEnds.{LineEnds}
use Rattle.std.specs.Prelude.{Option}
use Rattle.std.specs.Prelude.{Some, None}
use Rattle.read_lines.specs.Spans.{LineAt, PastAt, SpanIs}

-- ---- the first b in the first m bytes

-- it is there, so it is the first of all
before_take : (b m : ℕ) (s : List ℕ) → before b (take m s) < length (take m s) → before b s ≡ before b (take m s)
unfolding before
before_take b zero s h = absurd (not-suc-le-zero h)
before_take b (suc m) [] h = refl
before_take b (suc m) (c ∷ s) h = go (eqb c b) h (before_take b m s)
  where
    go : (x : Bool) → (if x then 0 else suc (before b (take m s))) < suc (length (take m s))
        → (before b (take m s) < length (take m s) → before b s ≡ before b (take m s))
        → (if x then 0 else suc (before b s)) ≡ (if x then 0 else suc (before b (take m s)))
    go true k r = refl
    go false k r = ap suc (r (le_of_suc-le-suc k))

-- it is not there, so it comes later
before_past : (b m : ℕ) (s : List ℕ) → m ≤ length s → m ≤ before b (take m s) → m ≤ before b s
unfolding before
before_past b zero s k h = omega arith
before_past b (suc m) [] k h = absurd (not-suc-le-zero k)
before_past b (suc m) (c ∷ s) k h = go (eqb c b) h (before_past b m s (le_of_suc-le-suc k))
  where
    go : (x : Bool) → suc m ≤ (if x then 0 else suc (before b (take m s))) → (m ≤ before b (take m s) → m ≤ before b s)
        → suc m ≤ (if x then 0 else suc (before b s))
    go true j r = absurd (not-suc-le-zero j)
    go false j r = omega (arith, r (le_of_suc-le-suc j))

-- ---- the line of bytes s

-- what ends at an LF is ended
ending_not_eof : (t : List ℕ) → ending_at t ≡ eof → ⊥
unfolding ending_at
ending_not_eof [] e = let z : ◌≡◌ {A = ℕ} 0 1 = cc in omega arith
ending_not_eof (b ∷ []) e = go (eqb b CR) e
  where
    go : (x : Bool) → (if x then crlf else lf) ≡ eof → ⊥
    go true e = let z : ◌≡◌ {A = ℕ} 0 1 = cc in omega arith
    go false e = let z : ◌≡◌ {A = ℕ} 0 1 = cc in omega arith
ending_not_eof (b ∷ c ∷ t) e = ending_not_eof (c ∷ t) e

-- a line of more than m bytes
pub record Longer (m : ℕ) (s : List ℕ) : Type 0 where
  pub first : Line
  pub rest : List Line
  pub cut : lines s ≡ first ∷ rest
  pub long : m < size first

-- no LF is among the first m bytes, and there are more bytes
longer : (m : ℕ) (s : List ℕ) → m < length s → m ≤ before LF (take m s) → Longer m s
longer m s h k = go (ltb (before LF s) (length s)) refl
  where
    p : m ≤ before LF s
    p = before_past LF m s (omega arith) k

    go : (x : Bool) → ltb (before LF s) (length s) ≡ x → Longer m s
    go true e =
        let t : List ℕ = take (before LF s) s in
        record {
          first = line (without_cr t) (ending_at t);
          rest = lines (drop (before LF s + 1) s);
          cut = lines_by_lf s (ltb-true (before LF s) (length s) e);
          long = omega (arith, size_by_lf s, p);
        }
    go false e =
        let n : length s ≤ before LF s = ltb-false (before LF s) (length s) e in
        let l : before LF s ≤ length s = before_le LF s in
        record {
          first = line s eof;
          rest = [];
          cut = lines_to_end s (omega arith) (omega arith);
          long = simp append-nil h;
        }

-- the LF stands at n, and the text has r bytes
module _ (s : List ℕ) (n r : ℕ) (first : before LF s ≡ n) (text : r ≡ length (without_cr (take n s))) (less : r ≤ n) where
  text_is : without_cr (take n s) ≡ take r s
  text_is = sym (take_without_cr (take n s)) ∙ rw (← text, take-take r n s less)

  lines_are : n < length s → lines s ≡ line (take r s) (ending_at (take n s)) ∷ lines (drop (n + 1) s)
  lines_are h = rw (← text_is, ← first) (lines_by_lf s (rw first h))

  size_is : size (line (take r s) (ending_at (take n s))) ≡ n + 1
  size_is = rw (← text_is, ← first) (size_by_lf s)

-- ---- the line from `at` on, of which the bytes up to `to` are looked at

module _ (file : List ℕ) (at to n : ℕ) (start : (at < length file) × (at ≤ max_header)) (limit : to ≡ min (length file) max_header)
    (first : n ≡ before LF (take (to - at) (drop at file))) where
  from : at ≤ to
  from = omega arith

  within : to ≤ length file
  within = omega arith

  short : to ≤ max_header
  short = omega arith

  left : length (drop at file) ≡ length file - at
  left = length-drop at file

  looked : length (take (to - at) (drop at file)) ≡ to - at
  looked = length-take-le (to - at) (drop at file) (omega (arith, left))

  -- an LF stands at at + n
  pub line_found : at + n < to → (r : ℕ) → r ≡ length (without_cr (take (at + n - at) (drop at file))) → r ≤ length (take (at + n - at) (drop at file))
      → LineAt file at (at + r) (at + n + 1)
  line_found h r e part =
      let m : at + n - at ≡ n = omega arith in
      let less : r ≤ n = omega (arith, part, length-take (at + n - at) (drop at file)) in
      let k : at + r - at ≡ r = omega arith in
      let j : at + (n + 1) ≡ at + n + 1 = omega arith in
      let q : before LF (drop at file) ≡ n = before_take LF (to - at) (drop at file) (omega (arith, looked)) ∙ sym first in
      let t : r ≡ length (without_cr (take n (drop at file))) = rw m at e in
      record {
        ending = ending_at (take n (drop at file));
        cut = rw (k, ← j, ← drop-drop (n + 1) at file) (lines_are (drop at file) n r q t less (omega (arith, left)));
        bytes = rw k (omega (arith, size_is (drop at file) n r q t less));
        unended = (λ x. absurd (let f : ⊥ = omega arith in f), λ x. absurd (ending_not_eof (take n (drop at file)) x));
        from = omega arith;
        to = omega arith;
        within = omega arith;
        short = omega arith;
        more = omega arith;
      }

  -- none does, and the file ends at `to`
  pub line_last : to ≤ at + n → length file ≤ to → LineAt file at to to
  line_last h e =
      let t : take (to - at) (drop at file) ≡ drop at file = take_all (to - at) (drop at file) (omega (arith, left)) in
      let q : before LF (drop at file) ≡ length (drop at file) = omega (arith, rw t at first, before_le LF (drop at file), left) in
      record {
        ending = eof;
        cut = rw (t, lines_none file to e) (lines_to_end (drop at file) (omega (arith, left)) q);
        bytes = rw (t, append-nil) (omega (arith, left));
        unended = (λ x. refl, λ x. refl);
        from = omega arith;
        to = omega arith;
        within = omega arith;
        short = omega arith;
        more = omega arith;
      }

  -- none does, and there are more bytes
  pub line_past : to ≤ at + n → to < length file → PastAt file at
  line_past h e =
      let x = longer (to - at) (drop at file) (omega (arith, left)) (omega arith) in
      record { first = x.first; rest = x.rest; cut = x.cut; long = omega (arith, x.long) }

-- ---- the answer of `line_at`, by its form

module _ {file : List ℕ} {at : ℕ} {s : Option LineEnds} where
  pub found_at : {text_end next : ℕ} → s ≡ Some (record { text_end = text_end; next = next }) → SpanIs file at s → LineAt file at text_end next
  found_at e h = subst (λ (x : Option LineEnds). SpanIs file at x) e h

  pub past_at : s ≡ None → SpanIs file at s → PastAt file at
  past_at e h = subst (λ (x : Option LineEnds). SpanIs file at x) e h

-- ---- the rest of a line

-- what stands from a place on, as a part of the text
pub rest_of : (n : ℕ) (t : List ℕ) → take (length t - n) (drop n t) ≡ drop n t
rest_of n t = take_all (length t - n) (drop n t) (omega (arith, length-drop n t))
