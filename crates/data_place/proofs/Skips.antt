-- Laws of the skips: a line by the place of its LF, and what is left of the bytes.
-- Assumes nothing.
use Rattle.std.specs.Prelude.{if◌then◌else◌}
use Prim.Native.Nat.{ℕ, zero, suc, ◌+◌, ◌-◌, ◌≤◌, ◌<◌}
use native.Mathlib.Nat.{suc-add, not-suc-le-zero, le_of_suc-le-suc}
use native.Mathlib.Omega.{arith}
use mathlib.Core.Path.{◌≡◌, refl, sym, ap, ◌∙◌}
use mathlib.Core.Bool.{Bool, true, false}
use mathlib.Core.List.{List, [], ◌∷◌}
use mathlib.Core.Option.{none, some}
use lib.Dec.{eqb}
use lib.ListN.{length, take, drop, length-drop}
use lib.Seq.{take_all, drop-drop}
use borrow.Author.Tests.{lt-ltb, le-ltb}
use Rattle.format.specs.Bytes.{LF}
use Rattle.format.specs.Data.{skip_line, skip_lines, skip_bytes}
use Rattle.read_text.specs.Places.{before}

-- ---- one line

-- no LF is there
skip_line_past : (s : List ℕ) → before LF s ≡ length s → skip_line s ≡ none
unfolding skip_line before
skip_line_past [] e = refl
skip_line_past (b ∷ s) e = go (eqb b LF) e (skip_line_past s)
  where
    go : (x : Bool) → (if x then 0 else suc (before LF s)) ≡ suc (length s) → (before LF s ≡ length s → skip_line s ≡ none)
        → (if x then some s else skip_line s) ≡ none
    go true e r = absurd (let f : ⊥ = omega arith in f)
    go false e r = r (omega arith)

-- the line's LF is there
skip_line_next : (s : List ℕ) → before LF s < length s → skip_line s ≡ some (drop (before LF s + 1) s)
unfolding skip_line before
skip_line_next [] h = absurd (not-suc-le-zero h)
skip_line_next (b ∷ s) h = go (eqb b LF) h (skip_line_next s)
  where
    go : (x : Bool) → (if x then 0 else suc (before LF s)) < suc (length s)
        → (before LF s < length s → skip_line s ≡ some (drop (before LF s + 1) s))
        → (if x then some s else skip_line s) ≡ some (drop ((if x then 0 else suc (before LF s)) + 1) (b ∷ s))
    go true h r = refl
    go false h r = rw suc-add (r (le_of_suc-le-suc h))

-- ---- one line of several, at a place of the bytes

-- the bytes from a place on, as the code has them
pub rest_is : (s : List ℕ) (at : ℕ) → take (length s - at) (drop at s) ≡ drop at s
rest_is s at = take_all (length s - at) (drop at s) (omega (arith, length-drop at s))

module _ (s : List ℕ) (at left k : ℕ) (more : 0 < left) (is : k ≡ before LF (take (length s - at) (drop at s))) where
  found : k ≡ before LF (drop at s)
  found = is ∙ ap (before LF) (rest_is s at)

  one_less : left ≡ suc (left - 1)
  one_less = omega arith

  -- the skip passes the end
  pub skip_past : k ≡ length (take (length s - at) (drop at s)) → skip_lines left (drop at s) ≡ none
  unfolding skip_lines
  skip_past e =
      let l : before LF (drop at s) ≡ length (drop at s) = sym found ∙ e ∙ ap length (rest_is s at) in
      ap (λ (n : ℕ). skip_lines n (drop at s)) one_less ∙ rw (skip_line_past (drop at s) l)

  -- the next line starts after the LF
  pub skip_next : k < length (take (length s - at) (drop at s)) → skip_lines left (drop at s) ≡ skip_lines (left - 1) (drop (at + (k + 1)) s)
  unfolding skip_lines
  skip_next h =
      let l : before LF (drop at s) < length (drop at s) = rw (← found, ← rest_is s at) h in
      ap (λ (n : ℕ). skip_lines n (drop at s)) one_less ∙ rw (skip_line_next (drop at s) l, ← found, drop-drop)

-- no line is left to skip
pub skip_none : (s : List ℕ) (left : ℕ) → left ≤ 0 → skip_lines left s ≡ some s
unfolding skip_lines
skip_none s zero h = refl
skip_none s (suc n) h = absurd (not-suc-le-zero h)

-- ---- bytes

module _ (s : List ℕ) (p n : ℕ) where
  pub bytes_past : length s - p < n → skip_bytes n (drop p s) ≡ none
  unfolding skip_bytes
  bytes_past h = rw (length-drop, lt-ltb (length s - p) n h)

  pub bytes_next : n ≤ length s - p → skip_bytes n (drop p s) ≡ some (drop (p + n) s)
  unfolding skip_bytes
  bytes_next h = rw (length-drop, le-ltb (length s - p) n h, drop-drop)
