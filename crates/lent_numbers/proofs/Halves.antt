-- Laws of numbers in bytes, the least byte first: the bytes at a place.
-- Assumes nothing.
use Prim.Native.Nat.{ℕ, ◌+◌, ◌*◌, ◌^◌, ◌≤◌, ◌<◌}
use native.Mathlib.Nat.{mul_assoc, mul_comm, pow-suc}
use native.Mathlib.Omega.{arith}
use mathlib.Core.Path.{◌≡◌, sym, ap, ◌∙◌}
use mathlib.Core.List.{List, [], ◌∷◌, ◌++◌}
use lib.ListN.{length, take, drop, get_or, length-drop}
use lib.Seq.{drop-cons, length-take-le}
use Rattle.format.specs.Descriptors.{NumberKind}
use Rattle.format.specs.Samples.{from_bytes, ordered, sample_value, value_of_bits}
use Rattle.lent_numbers.specs.Bits.{Bits}

pub from_append : (s t : List ℕ) → from_bytes (s ++ t) ≡ from_bytes s + 256 ^ length s * from_bytes t
unfolding from_bytes
from_append [] t = omega arith
from_append (b ∷ s) t =
    omega (arith, from_append s t, mul_assoc 256 (256 ^ length s) (from_bytes t), ap (λ (n : ℕ). n * from_bytes t) (pow-suc 256 (length s) ∙ mul_comm (256 ^ length s) 256))

-- ---- the bytes at a place

module _ (s : List ℕ) (at w : ℕ) (h : at + w ≤ length s) where
  pub length_part : length (take w (drop at s)) ≡ w
  length_part = length-take-le w (drop at s) (omega (arith, length-drop at s))

  -- the sample at a place, by its number
  pub sample_is : (k : NumberKind) (e : ℕ) → sample_value k e (take w (drop at s)) ≡ value_of_bits k w (from_bytes (ordered e (take w (drop at s))))
  unfolding sample_value
  sample_is k e = rw length_part

module _ (s : List ℕ) (at : ℕ) where
  -- one byte
  pub from_one : at + 1 ≤ length s → from_bytes (take 1 (drop at s)) ≡ get_or s at 0
  unfolding from_bytes
  from_one h = rw (drop-cons s at 0 (omega arith)) (omega arith)

  pub load_one : {r : ℕ} → at + 1 ≤ length s → r ≡ get_or s at 0 → r < 256 → Bits 1 (from_bytes (take 1 (drop at s))) r
  load_one h e l = record { is = e ∙ sym (from_one h); less = l }
