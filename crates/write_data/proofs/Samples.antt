-- Laws of the data: what the loops over the samples store is the data of the definitions.
-- Assumes nothing.
use Rattle.std.specs.Prelude.{if◌then◌else◌}
use mathlib.Core.Path.{◌≡◌, refl, sym, ap, ◌∙◌}
use mathlib.Core.Bool.{Bool, true, false}
use mathlib.Core.List.{List, [], ◌∷◌, ◌++◌, flat_map, append_assoc}
use Prim.Native.Nat.{ℕ, zero, suc, ◌+◌, ◌*◌, ◌-◌, ◌^◌, ◌/◌, ◌%◌, ◌≤◌, ◌<◌, min}
use lib.Pow.{pow-add}
use native.Mathlib.Nat.{le-mul_of_pos_right, pow-suc, one-le-pow, mul-le-mul, mul_assoc, mul-sub, mul-one, mul_comm, mul_left_comm, suc-mul, zero-mul}
use native.Mathlib.Omega.{arith}
use lib.Dec.{ltb, lit<}
use lib.IntN.{ℤ, pos, negsuc}
use lib.ListN.{length, take, drop, length-append}
use lib.Seq.{sets, slice, length-slice}
use borrow.Author.Tests.{ltb-true, ltb-false, le-ltb, ne_eqb}
use Rattle.format.specs.Bytes.{LF}
use Rattle.format.specs.Limits.{max_file}
use Rattle.format.specs.Refusals.{file_too_long, lent_too_short}
use Rattle.format.specs.Descriptors.{NumberKind, signed, unsigned, floating}
use Rattle.format.specs.Samples.{in_type, lowest, to_bytes, ordered, to_signed, from_signed, value_bytes}
use Rattle.format.specs.Writer.{hex_text, raw_data, text_data, data_bytes, all_in_type}
use Rattle.format.proofs.Bytes.{and_left, and_right}
use Rattle.format.proofs.Samples.{length_to_bytes, length_ordered, length_value_bytes}
use Rattle.format.proofs.Boundary.{flat_length}
use Rattle.format.proofs.Writer.{hex_length}
use Rattle.write_parts.specs.Stored.{text_line}
use Rattle.write_parts.proofs.Runs.{stored_front}
use Rattle.write_checks.specs.Refused.{late_refusal}
use Rattle.write_data.specs.Data.{low_bytes}
use Rattle.write_data.proofs.Parts.{flat_parts}

-- ---- text

pub flat_text : (zs : List ℤ) → flat_map text_line zs ≡ text_data zs
unfolding flat_map text_data
flat_text [] = refl
flat_text (z ∷ zs) = rw (flat_text zs, append_assoc)

-- ---- the size of a sample's bytes

pub low_size : (w endian : ℕ) (z : ℤ) → length (low_bytes w endian z) ≡ w
low_size w endian z = length_ordered endian (to_bytes w (from_signed 8 z)) ∙ length_to_bytes w (from_signed 8 z)

pub low_length : (w endian : ℕ) (zs : List ℤ) → length (flat_map (low_bytes w endian) zs) ≡ length zs * w
low_length w endian zs = flat_length (low_bytes w endian) w (low_size w endian) zs ∙ mul_comm w (length zs)

-- ---- bytes

-- the bytes of a sample are those of its bits x
module _ (x : ℕ) (l : x < 18446744073709551616) where
  bits_back : from_signed 8 (to_signed 8 x) ≡ x
  bits_back = go (ltb x 9223372036854775808)
    where
      go : (t : Bool) → from_signed 8 (if t then pos x else negsuc (18446744073709551615 - x)) ≡ x
      go true = refl
      go false = omega arith

  pub bits_low : (w endian : ℕ) (z : ℤ) → to_signed 8 x ≡ z → ordered endian (to_bytes w x) ≡ low_bytes w endian z
  bits_low w endian z e = ap (λ (k : ℕ). ordered endian (to_bytes w k)) (sym bits_back ∙ ap (from_signed 8) e)

-- the low w bytes do not depend on what is a multiple of 256 to the w
low_part : (w a q : ℕ) → to_bytes w (a + 256 ^ w * q) ≡ to_bytes w a
unfolding to_bytes
low_part zero a q = refl
low_part (suc w) a q =
    let u : ℕ = 256 ^ w * q in
    let p : 256 ^ suc w * q ≡ 256 * u = ap (λ (k : ℕ). k * q) (pow-suc 256 w ∙ mul_comm (256 ^ w) 256) ∙ mul_assoc 256 (256 ^ w) q in
    let m : (a + 256 ^ suc w * q) % 256 ≡ a % 256 = omega arith in
    let d : (a + 256 ^ suc w * q) / 256 ≡ a / 256 + u = omega arith in
    rw (m, d, low_part w (a / 256) q)

module _ (w : ℕ) (narrow : w ≤ 8) where
  -- two's complement at 64 bits and at 8 * w bits
  low_negative : (n : ℕ) → n < 256 ^ w → to_bytes w (256 ^ 8 - 1 - n) ≡ to_bytes w (256 ^ w - 1 - n)
  low_negative n h =
      let v : ℕ = 256 ^ (8 - w) in
      let k : w + (8 - w) ≡ 8 = omega arith in
      let p : 256 ^ 8 ≡ 256 ^ w * v = sym (ap (λ (i : ℕ). 256 ^ i) k) ∙ pow-add 256 w (8 - w) in
      let l : 1 ≤ v = one-le-pow (8 - w) 256 (lit< tt) in
      let r : 256 ^ w * (v - 1) ≡ 256 ^ w * v - 256 ^ w = mul-sub (256 ^ w) v 1 ∙ ap (λ (i : ℕ). 256 ^ w * v - i) (mul-one (256 ^ w)) in
      let g : 256 ^ w ≤ 256 ^ w * v = omega (arith, le-mul_of_pos_right (256 ^ w) l) in
      let e : 256 ^ 8 - 1 - n ≡ 256 ^ w - 1 - n + 256 ^ w * (v - 1) = split (256 ^ 8) (256 ^ w) (256 ^ w * v) (256 ^ w * (v - 1)) n h p r g in
      ap (to_bytes w) e ∙ low_part w (256 ^ w - 1 - n) (v - 1)
    where
      split : (t a b c n : ℕ) → n < a → t ≡ b → c ≡ b - a → a ≤ b → t - 1 - n ≡ a - 1 - n + c
      split t a b c n h p r g = omega arith

  low_is : (k : NumberKind) (z : ℤ) → in_type k w z ≡ true → to_bytes w (from_signed 8 z) ≡ to_bytes w (from_signed w z)
  unfolding in_type
  low_is k (pos n) e = refl
  low_is k (negsuc n) e = low_negative n (under k (ltb-true n (lowest k w) e))
    where
      under : (k : NumberKind) → n < lowest k w → n < 256 ^ w
      under signed h = omega arith
      under unsigned h = absurd (omega arith)
      under floating h = absurd (omega arith)

  -- the low bytes of samples of the type are their bytes
  pub low_data : (k : NumberKind) (endian : ℕ) (zs : List ℤ) → all_in_type k w zs ≡ true → flat_map (low_bytes w endian) zs ≡ raw_data w endian zs
  unfolding flat_map raw_data value_bytes all_in_type
  low_data k endian [] e = refl
  low_data k endian (z ∷ zs) e =
      rw (low_is k z (and_left (in_type k w z) (all_in_type k w zs) e), low_data k endian zs (and_right (in_type k w z) (all_in_type k w zs) e))

-- ---- hex

hex_append : (s t : List ℕ) → hex_text (s ++ t) ≡ hex_text s ++ hex_text t
unfolding hex_text
hex_append [] t = refl
hex_append (b ∷ s) t = rw (hex_append s t)

-- the hex of the elements up to e, and of those after them
pub hex_parts : {A : Type 0} (f : A → List ℕ) (zs : List A) (i e : ℕ) → i ≤ e → e ≤ length zs
    → hex_text (flat_map f (drop i zs)) ≡ hex_text (flat_map f (slice i e zs)) ++ hex_text (flat_map f (drop e zs))
hex_parts f zs i e h l = ap hex_text (flat_parts f zs i e h l) ∙ hex_append (flat_map f (slice i e zs)) (flat_map f (drop e zs))

-- ---- the length of the data

raw_size : (w endian : ℕ) (zs : List ℤ) → length (raw_data w endian zs) ≡ length zs * w
unfolding raw_data
raw_size w endian [] = sym (zero-mul w)
raw_size w endian (z ∷ zs) =
    length-append (value_bytes w endian z) (raw_data w endian zs) ∙ omega (arith, length_value_bytes w endian z, raw_size w endian zs, suc-mul (length zs) w)

pub twice : (n w : ℕ) → n * (2 * w) ≡ 2 * (n * w)
twice n w = mul_left_comm n 2 w

pub hex_whole : (w endian : ℕ) (zs : List ℤ) → length (hex_text (flat_map (low_bytes w endian) zs)) ≡ length zs * (2 * w)
hex_whole w endian zs = omega (arith, hex_length (flat_map (low_bytes w endian) zs), flat_length (low_bytes w endian) w (low_size w endian) zs, mul_comm w (length zs), twice (length zs) w)

module _ (encoding w endian : ℕ) (zs : List ℤ) where
  pub raw_is : encoding ≡ 0 → data_bytes encoding w endian zs ≡ raw_data w endian zs
  unfolding data_bytes
  raw_is e = rw e

  pub text_is : encoding ≡ 1 → data_bytes encoding w endian zs ≡ text_data zs
  unfolding data_bytes
  text_is e = rw e

  pub hex_is : (encoding ≡ 0 → ⊥) → (encoding ≡ 1 → ⊥) → data_bytes encoding w endian zs ≡ hex_text (raw_data w endian zs) ++ LF ∷ []
  unfolding data_bytes
  hex_is n m = rw (ne_eqb encoding 0 n, ne_eqb encoding 1 m)

  pub raw_is_long : encoding ≡ 0 → length (data_bytes encoding w endian zs) ≡ length zs * w
  raw_is_long e = ap length (raw_is e) ∙ raw_size w endian zs

  pub hex_is_long : (encoding ≡ 0 → ⊥) → (encoding ≡ 1 → ⊥) → length (data_bytes encoding w endian zs) ≡ 2 * (length zs * w) + 1
  hex_is_long n m =
      ap length (hex_is n m) ∙ length-append (hex_text (raw_data w endian zs)) (LF ∷ [])
      ∙ omega (arith, hex_length (raw_data w endian zs), raw_size w endian zs)

-- the same as the loop counts it
pub hex_long : (encoding w endian : ℕ) (zs : List ℤ) → (encoding ≡ 0 → ⊥) → (encoding ≡ 1 → ⊥) → length (data_bytes encoding w endian zs) ≡ length zs * (2 * w) + 1
hex_long encoding w endian zs n m = hex_is_long encoding w endian zs n m ∙ ap (λ (k : ℕ). k + 1) (sym (twice (length zs) w))

-- ---- a part of the samples: the next 256 of them, or as many as are left

module _ (i m n : ℕ) (zs : List ℤ) (em : m ≡ min 256 (n - i)) (en : n ≡ length zs) (h : i ≤ length zs) where
  pub part_end : i + m ≤ length zs
  part_end = omega (arith, em, en, h)

  part_many : length (slice i (i + m) zs) ≡ m
  part_many = length-slice i (i + m) zs part_end ∙ omega arith

  -- its bytes fit the buffer of a part
  pub part_room : (w : ℕ) → w ≤ 8 → length (slice i (i + m) zs) * w ≤ 2048
  part_room w l =
      let k : m ≤ 256 = omega (arith, em) in
      omega (arith, mul-le-mul k l, ap (λ (j : ℕ). j * w) part_many)

-- what its buffer holds: the bytes of the part ps are stored there, r of them
pub part_stored : (w endian r : ℕ) (ps : List ℤ) (new buffer : List ℕ) → new ≡ sets buffer 0 (flat_map (low_bytes w endian) ps) → r ≡ 0 + length ps * w → length ps * w ≤ length buffer
    → take r new ≡ flat_map (low_bytes w endian) ps
part_stored w endian r ps new buffer e q h = stored_front new buffer (flat_map (low_bytes w endian) ps) r e (omega (arith, q, low_length w endian ps)) (omega (arith, q, h))

-- ---- the refusal by length

-- what is no longer than a file that is not refused is not refused
pub late_less : (a b room : ℕ) → a ≤ b → 0 ≡ late_refusal b room → 0 ≡ late_refusal a room
late_less a b room h e = go (ltb max_file b) (ltb room b) refl refl e
  where
    go : (s t : Bool) → ltb max_file b ≡ s → ltb room b ≡ t → ◌≡◌ {A = ℕ} 0 (if s then file_too_long else if t then lent_too_short else 0) → 0 ≡ late_refusal a room
    go true t k l r = absurd (omega arith)
    go false true k l r = absurd (omega arith)
    go false false k l r = rw (le-ltb max_file a (omega (arith, ltb-false max_file b k)), le-ltb room a (omega (arith, ltb-false room b l)))
