-- Laws of samples: a value and its bytes are each other's inverse, for any width w and any endian number.
-- Assumes nothing.
use Rattle.std.specs.Prelude.{if◌then◌else◌}
use Prim.Native.Nat.{ℕ, zero, suc, ◌+◌, ◌*◌, ◌-◌, ◌^◌, ◌/◌, ◌%◌, ◌≤◌, ◌<◌}
use native.Mathlib.Nat.{pow-suc, one-le-pow, pow-le-pow_right}
use native.Mathlib.Omega.{arith}
use mathlib.Core.Path.{◌≡◌, refl, ap, ◌∙◌}
use mathlib.Core.Bool.{Bool, true, false}
use mathlib.Core.List.{List, [], ◌∷◌, reverse, reverse_aux, reverse-reverse}
use lib.Dec.{ltb, eqb, lit<}
use lib.IntN.{ℤ, pos, negsuc}
use lib.ListN.{length, get_or, length-reverse}
use borrow.Author.Tests.{lt-ltb, le-ltb, ltb-true, leb-true}
use Rattle.format.specs.Descriptors.{NumberKind, signed, unsigned, floating, big}
pub use Rattle.format.specs.Laws.{AllBytes}
use Rattle.format.specs.Samples.{in_type, from_bytes, to_bytes, ordered, from_signed, value_of_bits, sample_value, value_bytes}

-- ---- lists of bytes

-- a list with a number below 256 at every place
pub all_bytes : (s : List ℕ) → ((i : ℕ) → get_or s i 0 < 256) → AllBytes s
all_bytes [] f = tt
all_bytes (b ∷ s) f = (f 0, all_bytes s (λ i. f (suc i)))

bytes_onto : (s r : List ℕ) → AllBytes s → AllBytes r → AllBytes (reverse_aux s r)
bytes_onto [] r p q = q
bytes_onto (b ∷ s) r p q = bytes_onto s (b ∷ r) p.1 (p.0, q)

-- ---- numbers and their bytes, least first

-- `to_bytes w` gives w bytes
pub length_to_bytes : (w n : ℕ) → length (to_bytes w n) ≡ w
unfolding to_bytes
length_to_bytes zero n = refl
length_to_bytes (suc w) n = ap suc (length_to_bytes w (n / 256))

-- each of them is below 256
pub to_bytes_bytes : (w n : ℕ) → AllBytes (to_bytes w n)
unfolding to_bytes
to_bytes_bytes zero n = tt
to_bytes_bytes (suc w) n = (omega arith, to_bytes_bytes w (n / 256))

-- the bytes of a number write that number
pub from_to_bytes : (w n : ℕ) → n < 256 ^ w → from_bytes (to_bytes w n) ≡ n
unfolding from_bytes to_bytes
from_to_bytes zero n h = omega arith
from_to_bytes (suc w) n h =
    let p : 256 ^ suc w ≡ 256 ^ w * 256 = pow-suc 256 w in
    rw (from_to_bytes w (n / 256) (omega arith)) (omega arith)

-- the number that w bytes write is below 256 ^ w
pub from_bytes_below : (s : List ℕ) → AllBytes s → from_bytes s < 256 ^ length s
unfolding from_bytes
from_bytes_below [] p = lit< tt
from_bytes_below (b ∷ s) p = omega (arith, from_bytes_below s p.1, pow-suc 256 (length s))

-- bytes are the bytes of the number that they write
pub to_from_bytes : (s : List ℕ) → AllBytes s → to_bytes (length s) (from_bytes s) ≡ s
unfolding from_bytes to_bytes
to_from_bytes [] p = refl
to_from_bytes (b ∷ s) p =
    let m : (b + 256 * from_bytes s) % 256 ≡ b = omega arith in
    let d : (b + 256 * from_bytes s) / 256 ≡ from_bytes s = omega arith in
    rw (m, d, to_from_bytes s p.1)

-- ---- the order of bytes

module _ (endian : ℕ) (s : List ℕ) where
  -- to order twice changes nothing
  pub ordered_twice : ordered endian (ordered endian s) ≡ s
  ordered_twice = go (eqb endian big)
    where
      go : (t : Bool) → (if t then reverse (if t then reverse s else s) else if t then reverse s else s) ≡ s
      go true = reverse-reverse s
      go false = refl

  -- ordered bytes are as many
  pub length_ordered : length (ordered endian s) ≡ length s
  length_ordered = go (eqb endian big)
    where
      go : (t : Bool) → length (if t then reverse s else s) ≡ length s
      go true = length-reverse s
      go false = refl

  -- ordered bytes are bytes
  pub ordered_bytes : AllBytes s → AllBytes (ordered endian s)
  ordered_bytes p = go (eqb endian big)
    where
      go : (t : Bool) → AllBytes (if t then reverse s else s)
      go true = bytes_onto s [] p tt
      go false = p

-- ---- values and their bytes

-- `value_bytes w` gives w bytes
pub length_value_bytes : (w endian : ℕ) (z : ℤ) → length (value_bytes w endian z) ≡ w
unfolding value_bytes
length_value_bytes w endian z = length_ordered endian (to_bytes w (from_signed w z)) ∙ length_to_bytes w (from_signed w z)

-- each of them is below 256
pub value_bytes_bytes : (w endian : ℕ) (z : ℤ) → AllBytes (value_bytes w endian z)
unfolding value_bytes
value_bytes_bytes w endian z = ordered_bytes endian (to_bytes w (from_signed w z)) (to_bytes_bytes w (from_signed w z))

module _ (w : ℕ) where
  power : 1 ≤ 256 ^ w
  power = one-le-pow w 256 (lit< tt)

  -- the bits of a value of the type are below 256 ^ w
  bits_below : (k : NumberKind) (z : ℤ) → in_type k w z ≡ true → from_signed w z < 256 ^ w
  unfolding in_type
  bits_below signed (pos n) e = omega (arith, power, leb-true)
  bits_below unsigned (pos n) e = omega (arith, power, leb-true)
  bits_below floating (pos n) e = omega (arith, power, leb-true)
  bits_below k (negsuc n) e = omega (arith, power)

  -- the value of the bits of a value of the type is that value
  value_of_bits_lem : (k : NumberKind) (z : ℤ) → 1 ≤ w → in_type k w z ≡ true → value_of_bits k w (from_signed w z) ≡ z
  unfolding in_type
  value_of_bits_lem signed (pos n) h e =
      let l : 256 ^ 1 ≤ 256 ^ w = pow-le-pow_right (lit< tt) h in
      rw (lt-ltb n (256 ^ w / 2) (omega (arith, leb-true)))
  value_of_bits_lem signed (negsuc n) h e =
      let l : n < 256 ^ w / 2 = ltb-true n (256 ^ w / 2) e in
      let q : 256 ^ w - 1 - (256 ^ w - 1 - n) ≡ n = omega arith in
      rw (le-ltb (256 ^ w - 1 - n) (256 ^ w / 2) (omega arith), q)
  value_of_bits_lem unsigned (pos n) h e = refl
  value_of_bits_lem unsigned (negsuc n) h e = absurd (omega (arith, ltb-true))
  value_of_bits_lem floating (pos n) h e = refl
  value_of_bits_lem floating (negsuc n) h e = absurd (omega (arith, ltb-true))

  -- the bits of the value of bits are those bits
  bits_of_value : (k : NumberKind) (n : ℕ) → n < 256 ^ w → from_signed w (value_of_bits k w n) ≡ n
  bits_of_value signed n h = go (ltb n (256 ^ w / 2))
    where
      go : (t : Bool) → from_signed w (if t then pos n else negsuc (256 ^ w - 1 - n)) ≡ n
      go true = refl
      go false = omega arith
  bits_of_value unsigned n h = refl
  bits_of_value floating n h = refl

-- the value of the bytes of a value of the type is that value
pub value_of_bytes : (k : NumberKind) (w endian : ℕ) (z : ℤ) → 1 ≤ w → in_type k w z ≡ true → sample_value k endian (value_bytes w endian z) ≡ z
unfolding sample_value value_bytes
value_of_bytes k w endian z h e =
    let s = to_bytes w (from_signed w z) in
    let l : length (ordered endian s) ≡ w = length_value_bytes w endian z in
    rw (l, ordered_twice endian s, from_to_bytes w (from_signed w z) (bits_below w k z e)) (value_of_bits_lem w k z h e)

-- the bytes of the value of bytes are those bytes
pub bytes_of_value : (k : NumberKind) (endian : ℕ) (s : List ℕ) → AllBytes s → value_bytes (length s) endian (sample_value k endian s) ≡ s
unfolding sample_value value_bytes
bytes_of_value k endian s p =
    let o = ordered endian s in
    let l : length o ≡ length s = length_ordered endian s in
    let q : AllBytes o = ordered_bytes endian s p in
    let h : from_bytes o < 256 ^ length s = rw l at (from_bytes_below o q) in
    let r : to_bytes (length s) (from_bytes o) ≡ o = rw l at (to_from_bytes o q) in
    rw (bits_of_value (length s) k (from_bytes o) h, r) (ordered_twice endian s)
