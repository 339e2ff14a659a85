-- Laws of products that stop at the least number that is no extent.
-- Assumes nothing.
use Prim.Native.Nat.{ℕ, suc, ◌+◌, ◌*◌, ◌≤◌, ◌<◌}
use native.Mathlib.Nat.{one-mul, zero-mul, mul_assoc, mul_comm, mul-le-mul}
use native.Mathlib.Numerals.{add-one}
use native.Mathlib.Omega.{arith}
use mathlib.Core.Path.{◌≡◌, refl}
use mathlib.Core.Bool.{Bool, true, false}
use mathlib.Core.List.{List}
use lib.Dec.{eqb, leb}
use lib.ListN.{length, get_or, drop, drop_of_length-le}
use lib.Seq.{drop-cons}
use borrow.Author.Tests.{leb-true, leb-false, eqb-true, eqb-false}
use Rattle.format.specs.Limits.{max_extent, past_extent}
use Rattle.format.specs.Descriptors.{product, capped}

-- a product is at least one factor where the other one is not 0
pub times_right : (a b c : ℕ) → 1 ≤ a → c ≤ b → c ≤ a * b
times_right a b c h k = rw one-mul at (mul-le-mul {n₁ = 1} {m₁ = c} h k)

-- the product of two extents is a number of 64 bits
pub factors_fit : (a b : ℕ) → a < past_extent → b < past_extent → a * b ≤ max_extent * max_extent
factors_fit a b h k = mul-le-mul {n₁ = a} {m₁ = b} {n₂ = max_extent} {m₂ = max_extent} (omega arith) (omega arith)

-- a factor may be capped
pub times_capped : (a b : ℕ) → capped (a * capped b) ≡ capped (a * b)
times_capped a b = go (leb b past_extent) refl (eqb a 0) refl
  where
    go : (x : Bool) → leb b past_extent ≡ x → (y : Bool) → eqb a 0 ≡ y → capped (a * capped b) ≡ capped (a * b)
    go true e y f = let m : capped b ≡ b = omega (arith, leb-true) in rw m
    go false e true f = rw (eqb-true a 0 f, zero-mul (capped b), zero-mul b)
    go false e false f =
        let l = leb-false b past_extent e in
        let z = eqb-false a 0 f in
        let m : capped b ≡ past_extent = omega arith in
        let p = times_right a past_extent past_extent (omega arith) (omega arith) in
        let q = times_right a b past_extent (omega arith) (omega arith) in
        rw m (omega arith)

module _ (s : List ℕ) (i p : ℕ) where
  -- one number more
  pub product_next : i < length s
      → capped (product (drop i s) * p) ≡ capped (product (drop (i + 1) s) * capped (get_or s i 0 * p))
  unfolding product
  product_next h =
      rw (add-one i, drop-cons s i 0 h, times_capped, ← mul_assoc, mul_comm (product (drop (suc i) s)) (get_or s i 0))

  -- no number more
  pub product_end : length s ≤ i → product (drop i s) * p ≡ p
  unfolding product
  product_end h = rw (drop_of_length-le s h, one-mul)
