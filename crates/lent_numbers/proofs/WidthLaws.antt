-- Laws of the widths.
-- Assumes nothing.
use Rattle.std.specs.Prelude.{if◌then◌else◌}
use Prim.Native.Nat.{ℕ, ◌*◌, ◌≤◌, ◌<◌}
use native.Mathlib.Omega.{arith}
use mathlib.Core.Path.{◌≡◌, refl, sym, ◌∙◌}
use mathlib.Core.Bool.{Bool, true, false, ◌&&◌, ◌||◌, false≢true}
use mathlib.Core.Logic.{inl, inr, ⊎_elim}
use lib.Dec.{eqb, leb}
use borrow.Author.Tests.{eqb-true, le-leb, leb-true}
use Rattle.format.proofs.Bytes.{and_left, and_right}
use Rattle.lent_numbers.specs.Widths.{Width, is_width, enough}

module _ {ℓ} {A : Type ℓ} (w : ℕ) (d : Width w) where
  pub by_width : (w ≡ 1 → A) → (w ≡ 2 → A) → (w ≡ 4 → A) → (w ≡ 8 → A) → A
  by_width f1 f2 f4 f8 = ⊎_elim f1 (λ d2. ⊎_elim f2 (λ d4. ⊎_elim f4 f8 d4) d2) d

-- the width that is left
pub width_1 : (w : ℕ) → Width w → (w ≡ 8 → ⊥) → (w ≡ 4 → ⊥) → (w ≡ 2 → ⊥) → w ≡ 1
width_1 w d n8 n4 n2 = by_width w d (λ e. e) (λ e. absurd (n2 e)) (λ e. absurd (n4 e)) (λ e. absurd (n8 e))

pub width_le : (w : ℕ) → Width w → w ≤ 8
width_le w d = by_width w d (λ e. omega arith) (λ e. omega arith) (λ e. omega arith) (λ e. omega arith)

pub width_pos : (w : ℕ) → Width w → 0 < w
width_pos w d = by_width w d (λ e. omega arith) (λ e. omega arith) (λ e. omega arith) (λ e. omega arith)

pub is_width_lem : (w : ℕ) → is_width w ≡ true → Width w
is_width_lem w e = go (eqb w 1) (eqb w 2) (eqb w 4) refl refl refl e
  where
    go : (a b d : Bool) → eqb w 1 ≡ a → eqb w 2 ≡ b → eqb w 4 ≡ d → (a || (b || (d || eqb w 8))) ≡ true → Width w
    go true b d p q r h = inl (eqb-true w 1 p)
    go false true d p q r h = inr (inl (eqb-true w 2 q))
    go false false true p q r h = inr (inr (inl (eqb-true w 4 r)))
    go false false false p q r h = inr (inr (inr (eqb-true w 8 h)))

pub width_is : (w : ℕ) → Width w → is_width w ≡ true
width_is w d = by_width w d (λ e. rw e) (λ e. rw e) (λ e. rw e) (λ e. rw e)

pub not_width : (w : ℕ) → Width w → is_width w ≡ false → ⊥
not_width w d e = false≢true (sym e ∙ width_is w d)

-- a width that is not 1, 2 or 4
pub width_eight : (w : ℕ) → (w ≡ 1 → ⊥) → (w ≡ 2 → ⊥) → (w ≡ 4 → ⊥) → Width w → w ≡ 8
width_eight w a b c x =
    ⊎_elim (λ e. absurd (a e)) (λ y. ⊎_elim (λ e. absurd (b e)) (λ z. ⊎_elim (λ e. absurd (c e)) (λ e. e) z) y) x

-- ---- as many samples as are asked for

module _ (w n bytes : ℕ) where
  pub enough_is : Width w → n * w ≤ bytes → enough w n bytes ≡ true
  enough_is d h = rw (width_is w d, le-leb (n * w) bytes h)

  pub is_enough : enough w n bytes ≡ true → Width w × (n * w ≤ bytes)
  is_enough e = (is_width_lem w (and_left (is_width w) (leb (n * w) bytes) e), leb-true (n * w) bytes (and_right (is_width w) (leb (n * w) bytes) e))

-- a number that is told where a test holds, and 0 where it does not
pub told_by : (t : Bool) {r x : ℕ} → (t ≡ true → r ≡ x) → (t ≡ false → r ≡ 0) → r ≡ (if t then x else 0)
told_by true f g = f refl
told_by false f g = g refl

pub told_is : {t : Bool} {r x : ℕ} → r ≡ (if t then x else 0) → t ≡ true → r ≡ x
told_is e q = rw q at e

-- both tests hold, so that nothing is left as it was
pub not_kept : (a b : Bool) → a ≡ true → b ≡ true → (a && b) ≡ false → ⊥
not_kept a b p q e = false≢true (sym (rw (p, q) at e))
