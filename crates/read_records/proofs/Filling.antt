-- A list that is filled from the front out of another: after i stores it is `take i rs ++ drop i ys`. Of elements of any type.
--     fill_more     a store of rs[i] at i makes it the same at i + 1
--     filled        filled to its end, it is rs
-- Assumes nothing.
use mathlib.Core.Path.{◌≡◌, refl, sym, ap, subst}
use mathlib.Core.List.{List, [], ◌∷◌, ◌++◌, append-nil}
use Prim.Native.Nat.{ℕ, zero, suc, ◌+◌, ◌<◌, ◌≤◌}
use native.Mathlib.Nat.{not-suc-le-zero, le_of_suc-le-suc}
use native.Mathlib.Numerals.{add-one}
use native.Mathlib.Omega.{arith}
use lib.ListN.{length, get_or, set, take, drop, drop_of_length-le}
use lib.Seq.{take_all}

module _ {X : Type 0} where
  fill_suc : (i : ℕ) (rs ys : List X) (d : X) → i < length rs → i < length ys → set (take i rs ++ drop i ys) i (get_or rs i d) ≡ take (suc i) rs ++ drop (suc i) ys
  fill_suc i [] ys d l k = absurd (not-suc-le-zero l)
  fill_suc i (r ∷ rs) [] d l k = absurd (not-suc-le-zero k)
  fill_suc zero (r ∷ rs) (y ∷ ys) d l k = refl
  fill_suc (suc i) (r ∷ rs) (y ∷ ys) d l k = ap (λ (t : List X). r ∷ t) (fill_suc i rs ys d (le_of_suc-le-suc l) (le_of_suc-le-suc k))

  pub fill_more : (i : ℕ) (rs ys : List X) (d : X) → i < length rs → i < length ys → set (take i rs ++ drop i ys) i (get_or rs i d) ≡ take (i + 1) rs ++ drop (i + 1) ys
  fill_more i rs ys d l k = subst (λ (m : ℕ). set (take i rs ++ drop i ys) i (get_or rs i d) ≡ take m rs ++ drop m ys) (sym (add-one i)) (fill_suc i rs ys d l k)

  -- once it is filled to its end, it is the other
  pub filled : {n : ℕ} (i : ℕ) (rs ys : List X) → length rs ≡ n → length ys ≡ n → i ≤ n → n ≤ i → take i rs ++ drop i ys ≡ rs
  filled i rs ys e q l k = rw (take_all i rs (omega (arith, e)), drop_of_length-le ys {i = i} (omega (arith, q)), append-nil rs)
