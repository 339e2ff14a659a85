-- Laws of `lib.Seq`'s `sets l i vs`, the list l with vs stored element by element from index i, for every crate that stores. None asks that the run fits.
-- Assumes nothing.
use mathlib.Core.Path.{◌≡◌, refl, sym, ap, ◌∙◌}
use mathlib.Core.List.{List, [], ◌∷◌, ◌++◌}
use Prim.Native.Nat.{ℕ, suc, ◌+◌, ◌<◌}
use native.Mathlib.Nat.{add-zero, add-suc, suc-add, le_step, ne_of_gt}
use native.Mathlib.Numerals.{add-one}
use native.Mathlib.Omega.{arith}
use lib.ListN.{length, get_or, set, take}
use lib.Seq.{sets, set_comm, take-suc}

module _ {ℓ} {A : Type ℓ} where
  -- a store below a run
  pub set_sets : (vs l : List A) (i j : ℕ) (a : A) → i < j → set (sets l j vs) i a ≡ sets (set l i a) j vs
  set_sets [] l i j a h = refl
  set_sets (v ∷ vs) l i j a h =
      set_sets vs (set l j v) i (suc j) a (le_step h) ∙ ap (λ (m : List A). sets m (suc j) vs) (set_comm l j i v a (ne_of_gt h))

  -- a run and the run that follows it
  pub sets_append : (u v l : List A) (i : ℕ) → sets l i (u ++ v) ≡ sets (sets l i u) (i + length u) v
  sets_append [] v l i = ap (λ (k : ℕ). sets l k v) (sym (add-zero i))
  sets_append (x ∷ u) v l i =
      sets_append u v (set l i x) (suc i) ∙ ap (λ (k : ℕ). sets (sets (set l i x) (suc i) u) k v) (suc-add i (length u) ∙ sym (add-suc i (length u)))

  -- the same, where the second run begins at a place known by an equation
  pub sets_then : (l u v : List A) (i k : ℕ) → k ≡ i + length u → sets (sets l i u) k v ≡ sets l i (u ++ v)
  sets_then l u v i k e = ap (λ (j : ℕ). sets (sets l i u) j v) e ∙ sym (sets_append u v l i)

  -- a run and the run before it, stored after it
  pub sets_before : (u v l : List A) (i : ℕ) → sets (sets l (i + length u) v) i u ≡ sets l i (u ++ v)
  sets_before [] v l i = ap (λ (k : ℕ). sets l k v) (add-zero i)
  sets_before (x ∷ u) v l i =
      ap (λ (m : List A). sets m (suc i) u) (set_sets v l i (i + suc (length u)) x (omega arith))
      ∙ ap (λ (k : ℕ). sets (sets (set l i x) k v) (suc i) u) (add-suc i (length u) ∙ sym (suc-add i (length u)))
      ∙ sets_before u v (set l i x) (suc i)

  -- the first i + 1 elements of s, after the first i: what a loop that stores has passed
  pub take_more : (s : List A) (i : ℕ) (z : A) → i < length s → take (i + 1) s ≡ take i s ++ (get_or s i z ∷ [])
  take_more s i z h = rw (add-one i) (take-suc s i z h)
