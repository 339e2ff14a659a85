-- The written data: raw data has the bytes of the extent, and where no endian is written the order of bytes does not matter.
-- Assumes nothing.
use Rattle.std.specs.Prelude.{if◌then◌else◌}
use mathlib.Core.Path.{◌≡◌, refl, sym, ◌∙◌}
use Prim.Native.Nat.{ℕ, ◌*◌, ◌%◌, ◌≤◌, ◌<◌}
use native.Mathlib.Omega.{arith}
use native.Mathlib.Nat.{suc-mul}
use mathlib.Core.Bool.{Bool, true, false, ◌&&◌, ◌||◌, false≢true}
use mathlib.Core.List.{List, [], ◌∷◌, reverse}
use lib.Dec.{eqb, ltb}
use lib.IntN.{ℤ}
use lib.ListN.{length, length-append}
use borrow.Author.Tests.{ltb-false, eqb-false}
use Rattle.format.specs.Descriptors.{encodings, raw, as_text, hex, big}
use Rattle.format.specs.Samples.{to_bytes, ordered, from_signed, value_bytes}
use Rattle.format.specs.Writer.{raw_data, data_bytes}
use Rattle.format.proofs.Samples.{length_value_bytes}

-- ---- raw data has the bytes of a sample as often as there are samples

pub raw_length : (w endian : ℕ) (zs : List ℤ) → length (raw_data w endian zs) ≡ length zs * w
unfolding raw_data
raw_length w endian [] = omega arith
raw_length w endian (z ∷ zs) = rw (length-append, length_value_bytes w endian z, raw_length w endian zs) (omega (arith, suc-mul (length zs) w))

pub data_length : (encoding w endian : ℕ) (zs : List ℤ) → eqb encoding raw ≡ true → length (data_bytes encoding w endian zs) ≡ length zs * w
unfolding data_bytes
data_length encoding w endian zs h = rw h (raw_length w endian zs)

-- ---- the order of bytes

-- one byte has no order
one_byte : (endian b : ℕ) → ordered endian (b ∷ []) ≡ b ∷ []
one_byte endian b = go (eqb endian big)
  where
    go : (x : Bool) → (if x then reverse (b ∷ []) else b ∷ []) ≡ b ∷ []
    go true = refl
    go false = refl

byte_any_order : (a b : ℕ) (z : ℤ) → value_bytes 1 a z ≡ value_bytes 1 b z
unfolding value_bytes to_bytes
byte_any_order a b z = one_byte a (from_signed 1 z % 256) ∙ sym (one_byte b (from_signed 1 z % 256))

raw_any_order : (a b : ℕ) (zs : List ℤ) → raw_data 1 a zs ≡ raw_data 1 b zs
unfolding raw_data
raw_any_order a b [] = refl
raw_any_order a b (z ∷ zs) = rw (byte_any_order a b z, raw_any_order a b zs)

-- nor has text: where the order of bytes does not matter, the data is the same for all endians
pub data_any_order : (encoding w a b : ℕ) (zs : List ℤ) → encoding < length encodings → 1 ≤ w → (ltb 1 w && (eqb encoding raw || eqb encoding hex)) ≡ false
    → data_bytes encoding w a zs ≡ data_bytes encoding w b zs
unfolding data_bytes
data_any_order encoding w a b zs l f h = go (ltb 1 w) refl (eqb encoding raw) refl (eqb encoding hex) refl h
  where
    go : (x : Bool) → ltb 1 w ≡ x → (y : Bool) → eqb encoding raw ≡ y → (z : Bool) → eqb encoding hex ≡ z → (x && (y || z)) ≡ false
        → data_bytes encoding w a zs ≡ data_bytes encoding w b zs
    go false p y q z r h =
        let e : w ≡ 1 = omega (arith, ltb-false 1 w p) in
        rw (e, raw_any_order a b zs)
    go true p true q z r h = absurd (false≢true (cc))
    go true p false q true r h = absurd (false≢true (cc))
    go true p false q false r h =
        let e : encoding ≡ as_text = omega (arith, eqb-false encoding raw q, eqb-false encoding hex r) in
        rw e
