-- The trials and the laws of stamps and steps hold: both sides of each trial are computed, and each part of the laws is shown.
-- Assumes nothing.
use Rattle.std.specs.Prelude.{if◌then◌else◌}
use Rattle.std.proofs.Common.{◌≡◌, ℕ, zero, suc, ◌+◌, ◌*◌, ◌%◌, ◌<◌, Bool, true, false, List, [], ◌∷◌, length, get_or, drop, ℤ, pos, refl, ap, ◌∙◌, suc-add, arith, get_or-drop}
use mathlib.Core.Option.{Option, none, some}
use Rattle.roof_steps.specs.Steps.{counter_values, stamp_of, step_of, is_right, stamps, wrong_from, first_wrong}
use Rattle.roof_steps.specs.StepLaws.{step_after, Says, StepLaws}
use Rattle.roof_steps.specs.StepTrials.{StepTrials}

-- ---- the trials; they stand first, so that a wrong definition is told by what comes out of it

pub trials_hold : StepTrials
unfolding stamp_of step_of stamps wrong_from
trials_hold = (refl, (refl, (refl, (refl, (refl, (refl, (refl, (refl, (refl, (refl, (refl, (refl, (refl, (refl, (refl, (refl, (refl, (refl, (refl, (refl, (refl, (refl, tt))))))))))))))))))))))

-- ---- the search

-- what it says of the stamps ts after the stamp t, where the first of ts is row `row`
record WrongAfter (largest row t : ℕ) (ts : List ℕ) (found : ℕ) : Type 0 where
  pub before : ℕ
  pub next : found ≡ row + before
  pub there : before < length ts
  pub wrong : is_right largest (step_after (t ∷ ts) before) ≡ false
  pub right : (q : ℕ) → q < before → is_right largest (step_after (t ∷ ts) q) ≡ true

abbrev SaysAfter : ℕ → ℕ → ℕ → List ℕ → Option ℕ → Type 0
SaysAfter largest row t ts none = (q : ℕ) → q < length ts → is_right largest (step_after (t ∷ ts) q) ≡ true
SaysAfter largest row t ts (some found) = WrongAfter largest row t ts found

-- with one more stamp before a list: its step is the first, and the steps of the list come later
module _ (largest t u : ℕ) (us : List ℕ) where
  step_later : (q : ℕ) → is_right largest (step_after (t ∷ u ∷ us) (suc q)) ≡ is_right largest (step_after (u ∷ us) q)
  step_later q = ap (λ (j : ℕ). is_right largest (step_of (get_or (u ∷ us) q 0) (get_or (t ∷ u ∷ us) j 0))) (suc-add q 1)

  -- all steps up to some are right: the first, and the ones after it
  right_more : is_right largest (step_of t u) ≡ true → (n : ℕ) → ((q : ℕ) → q < n → is_right largest (step_after (u ∷ us) q) ≡ true) → (q : ℕ) → q < suc n → is_right largest (step_after (t ∷ u ∷ us) q) ≡ true
  right_more e n f zero l = e
  right_more e n f (suc q) l = step_later q ∙ f q (omega arith)

  says_more : (row : ℕ) → is_right largest (step_of t u) ≡ true → (o : Option ℕ) → SaysAfter largest (row + 1) u us o → SaysAfter largest row t (u ∷ us) o
  says_more row e none f = right_more e (length us) f
  says_more row e (some found) w =
      let n : found ≡ row + suc w.before = omega (arith, w.next) in
      let h : suc w.before < suc (length us) = omega (arith, w.there) in
      record { before = suc w.before; next = n; there = h; wrong = step_later w.before ∙ w.wrong; right = right_more e w.before w.right }

says_after : (largest row t : ℕ) (ts : List ℕ) → SaysAfter largest row t ts (wrong_from largest row t ts)
unfolding wrong_from
says_after largest row t [] = λ q l. absurd (omega arith)
says_after largest row t (u ∷ us) = go (is_right largest (step_of t u)) refl (says_after largest (row + 1) u us)
  where
    go : (b : Bool) → is_right largest (step_of t u) ≡ b → SaysAfter largest (row + 1) u us (wrong_from largest (row + 1) u us) → SaysAfter largest row t (u ∷ us) (if b then wrong_from largest (row + 1) u us else some row)
    go true e r = says_more largest t u us row e (wrong_from largest (row + 1) u us) r
    go false e r =
        let n : row ≡ row + 0 = omega arith in
        let h : 0 < suc (length us) = omega arith in
        record { before = 0; next = n; there = h; wrong = e; right = λ q l. absurd (omega arith) }

from_0 : (largest t : ℕ) (ts : List ℕ) (o : Option ℕ) → SaysAfter largest 1 t ts o → Says largest (t ∷ ts) o
from_0 largest t ts none f = λ q l. f q (omega arith)
from_0 largest t ts (some found) w =
    let n : found ≡ w.before + 1 = omega (arith, w.next) in
    let h : found < suc (length ts) = omega (arith, w.next, w.there) in
    record { before = w.before; next = n; there = h; wrong = w.wrong; right = w.right }

says : (largest : ℕ) (ts : List ℕ) → Says largest ts (first_wrong largest ts)
says largest [] = λ q l. absurd (omega arith)
says largest (t ∷ ts) = from_0 largest t ts (wrong_from largest 1 t ts) (says_after largest 1 t ts)

-- ---- steps

adds : (before after : ℕ) → before < counter_values → after < counter_values → (before + step_of before after) % counter_values ≡ after
unfolding step_of
adds before after h k = omega arith

below : (before after : ℕ) → step_of before after < counter_values
unfolding step_of
below before after = omega arith

-- ---- stamps

stamp_is : (n : ℕ) → n < counter_values → stamp_of (pos n) ≡ n
unfolding stamp_of
stamp_is n h = omega arith

as_many : (rows m : ℕ) (zs : List ℤ) → length (stamps rows m zs) ≡ rows
unfolding stamps
as_many zero m zs = refl
as_many (suc rows) m zs = ap suc (as_many rows m (drop m zs))

stamp_at : (rows m : ℕ) (zs : List ℤ) (r : ℕ) → r < rows → get_or (stamps rows m zs) r 0 ≡ stamp_of (get_or zs (r * m) (pos 0))
unfolding stamps
stamp_at zero m zs r l = absurd (omega arith)
stamp_at (suc rows) m zs zero l = ap (λ (j : ℕ). stamp_of (get_or zs j (pos 0))) (omega arith)
stamp_at (suc rows) m zs (suc r) l =
    let e : m + r * m ≡ suc r * m = omega arith in
    stamp_at rows m (drop m zs) r (omega arith)
    ∙ ap stamp_of (get_or-drop m zs (r * m) (pos 0))
    ∙ ap (λ (j : ℕ). stamp_of (get_or zs j (pos 0))) e

pub steps_hold : StepLaws
steps_hold = record { says = says; adds = adds; below = below; stamp_is = stamp_is; as_many = as_many; stamp_at = stamp_at }
