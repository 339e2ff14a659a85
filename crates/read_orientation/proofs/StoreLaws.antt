-- Laws of vectors stored one after the other.
-- Assumes nothing.
use Prim.Native.Nat.{ℕ, zero, suc, ◌+◌, ◌*◌, ◌≤◌, ◌<◌}
use native.Mathlib.Nat.{mul-zero, mul-suc, mul-le-mul_left, mul-le-mul_right}
use native.Mathlib.Numerals.{add-one}
use native.Mathlib.Omega.{arith}
use mathlib.Core.Path.{◌≡◌, refl, sym, ap, ◌∙◌}
use mathlib.Core.List.{List, [], ◌∷◌, ◌++◌, flat_map, append-nil, append_assoc}
use lib.ListN.{length, take, get_or, length-append}
use lib.Seq.{sets, take-suc}
use Rattle.format.specs.declared.Decimal.{Decimal}
use Rattle.format.specs.Boundary.{decimals_bytes}
use Rattle.format.proofs.Stores.{sets_then}
use Rattle.format.proofs.Boundary.{length_decimals}
use Rattle.read_orientation.specs.Told.{joined}

decimals_append : (u v : List Decimal) → decimals_bytes (u ++ v) ≡ decimals_bytes u ++ decimals_bytes v
unfolding decimals_bytes
decimals_append [] v = refl
decimals_append (d ∷ u) v = rw (decimals_append u v, append_assoc)

flat_append : {A : Type 0} (g : A → List Decimal) (u v : List A) → flat_map g (u ++ v) ≡ flat_map g u ++ flat_map g v
unfolding flat_map
flat_append g [] v = refl
flat_append g (a ∷ u) v = rw (flat_append g u v, append_assoc)

-- what g gives for each element, joined
pub joined_flat : {A : Type 0} (g : A → List Decimal) (xs : List A) (z : A) (k : ℕ) → k ≤ length xs → joined (λ i. g (get_or xs i z)) k ≡ flat_map g (take k xs)
unfolding joined flat_map
joined_flat g xs z zero h = refl
joined_flat g xs z (suc k) h =
    rw (take-suc xs k z h, flat_append g (take k xs) (get_or xs k z ∷ []), append-nil (g (get_or xs k z)), joined_flat g xs z k (omega arith))

module _ (f : ℕ → List Decimal) (n : ℕ) where
  pub joined_length : (k : ℕ) → ((i : ℕ) → i < k → length (f i) ≡ n) → length (joined f k) ≡ n * k
  unfolding joined
  joined_length zero h = sym (mul-zero n)
  joined_length (suc k) h =
      length-append (joined f k) (f k) ∙ omega (arith, joined_length k (λ i l. h i (omega arith)), h k (omega arith), mul-suc n k)

  -- nothing is stored yet
  pub stored_none : (d : List ℕ) → d ≡ sets d 0 (decimals_bytes (joined f 0))
  unfolding joined decimals_bytes
  stored_none d = refl

  -- vector k stored after those before it
  pub stored_more : (d₀ d : List ℕ) (k : ℕ) {d' : List ℕ} → ((i : ℕ) → i < k → length (f i) ≡ n) → d ≡ sets d₀ 0 (decimals_bytes (joined f k))
      → d' ≡ sets d (16 * (n * k)) (decimals_bytes (f k)) → d' ≡ sets d₀ 0 (decimals_bytes (joined f (k + 1)))
  unfolding joined
  stored_more d₀ d k h e q =
      let u = joined f k in
      q
      ∙ ap (λ (l : List ℕ). sets l (16 * (n * k)) (decimals_bytes (f k))) e
      ∙ sets_then d₀ (decimals_bytes u) (decimals_bytes (f k)) 0 (16 * (n * k)) (omega (arith, length_decimals u, joined_length k h))
      ∙ rw (add-one k, decimals_append u (f k))

-- ---- room

-- vector i of k, each of n components, ends within all of them
pub next_fits : (n k i : ℕ) → i < k → n * i + n ≤ n * k
next_fits n k i h = omega (arith, mul-le-mul_left n h, mul-suc n i)

-- a product is small where its factors are
pub few_times : (n k : ℕ) → n ≤ 8 → n * k ≤ 8 * k
few_times n k h = mul-le-mul_right k h
