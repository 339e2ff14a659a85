-- Laws of samples by their 64 bits: where they are read, and their range.
-- Assumes nothing.
use Rattle.std.specs.Prelude.{if◌then◌else◌}
use Rattle.std.proofs.Common.{◌≡◌, ℕ, ◌+◌, ◌-◌, ◌*◌, ◌/◌, ◌%◌, ◌^◌, ◌<◌, ◌≤◌, Bool, true, false, ◌&&◌, ltb, leb, List, length, get_or, take, drop, ℤ, pos, negsuc, sym, refl, ap, ◌∙◌, arith, length-drop, length-take-le, to_z-of_z, w64, to_z, of_z, ltb-false, ltb-true, le-ltb, lt-ltb, le-leb, leb-false, leb-true}
use Rattle.std.proofs.lemmas.List.{ext_get_or, drop-take}
use lib.Seq.{slice, take-take, get_or-take, get_or-drop, drop-drop}
use lib.Bits.{bit_or, or_lt, or_add_and, and_le_l, and_le_r}
use borrow.Author.Tests.{lt-leb}
use lib.Signed.{mag}
use Rattle.format.specs.Descriptors.{signed, little}
use Rattle.format.specs.Samples.{from_bytes, to_signed, from_signed, sample_value}
use Rattle.format.specs.Boundary.{samples_lent}
use Rattle.format.proofs.Boundary.{lent_room, length_samples, sample_at}
use Rattle.write_checks.specs.Refused.{in_range}

-- a sample that is read from a list is itself
pub read_back : (z : ℤ) → mag z < 9223372036854775808 → to_z w64 (of_z w64 z) ≡ z
read_back z h = to_z-of_z {w = w64} {z = z} (record { sfits = h })

-- ---- two numbers are below a power of 2 where their bits together are

pub or_within : (k m a b : ℕ) → m + 1 ≡ 2 ^ k → leb (bit_or a b) m ≡ (leb a m && leb b m)
or_within k m a b e = go (leb a m) (leb b m) refl refl
  where
    go : (x y : Bool) → leb a m ≡ x → leb b m ≡ y → leb (bit_or a b) m ≡ (x && y)
    go true true p q =
        let c : a < 2 ^ k = omega (arith, e, leb-true a m p) in
        let d : b < 2 ^ k = omega (arith, e, leb-true b m q) in
        le-leb (bit_or a b) m (omega (arith, e, or_lt k a b c d))
    go true false p q = lt-leb (bit_or a b) m (omega (arith, leb-false b m q, or_add_and a b, and_le_l a b))
    go false y p q = lt-leb (bit_or a b) m (omega (arith, leb-false a m p, or_add_and a b, and_le_r a b))

-- ---- bits to samples and back

pub signed_back : (z : ℤ) → mag z < 9223372036854775808 → to_signed 8 (from_signed 8 z) ≡ z
signed_back (pos n) h = rw (lt-ltb n 9223372036854775808 h)
signed_back (negsuc n) h =
    let x : ℕ = 18446744073709551615 - n in
    let e : 18446744073709551615 - x ≡ n = omega arith in
    rw (le-ltb x 9223372036854775808 (omega arith)) (ap negsuc e)

-- the sample at k of lent bytes, from its bits
pub word_sample : (s : List ℕ) (k : ℕ) → k < length s / 8 → to_signed 8 (from_bytes (take 8 (drop (8 * k) s))) ≡ get_or (samples_lent s) k (pos 0)
unfolding sample_value
word_sample s k h =
    let l : length (take 8 (drop (8 * k) s)) ≡ 8 = length-take-le 8 (drop (8 * k) s) (omega (arith, length-drop (8 * k) s, lent_room from_bytes 8 s k h)) in
    sym (sample_at s k (pos 0) h ∙ ap (λ (w : ℕ). to_signed w (from_bytes (take 8 (drop (8 * k) s)))) l)

-- a part of lent bytes has that part of the samples
pub lent_part : (s : List ℕ) (from to : ℕ) → from ≤ to → to ≤ length s / 8 → samples_lent (take (8 * to - 8 * from) (drop (8 * from) s)) ≡ take (to - from) (drop from (samples_lent s))
lent_part s from to h l =
    ext_get_or (pos 0) (samples_lent part) (take (to - from) (drop from (samples_lent s)))
    (length_samples part ∙ omega (arith, long, length-take-le (to - from) (drop from (samples_lent s)) (omega (arith, length-drop from (samples_lent s), length_samples s))))
    (λ i k. same i (omega (arith, k, length_samples part, long)))
  where
    part : List ℕ
    part = take (8 * to - 8 * from) (drop (8 * from) s)

    long : length part ≡ 8 * to - 8 * from
    long = length-take-le (8 * to - 8 * from) (drop (8 * from) s) (omega (arith, length-drop (8 * from) s, l))

    same : (i : ℕ) → i < to - from → get_or (samples_lent part) i (pos 0) ≡ get_or (take (to - from) (drop from (samples_lent s))) i (pos 0)
    same i k =
        let m : 8 * to - 8 * from ≡ 8 * i + (8 * to - 8 * from - 8 * i) = omega (arith, k) in
        let n : 8 * from + 8 * i ≡ 8 * (from + i) = omega arith in
        let cut : take 8 (drop (8 * i) part) ≡ take 8 (drop (8 * (from + i)) s) =
        ap (λ j. take 8 (drop (8 * i) (take j (drop (8 * from) s)))) m
        ∙ ap (take 8) (drop-take (8 * i) (8 * to - 8 * from - 8 * i) (drop (8 * from) s))
        ∙ take-take 8 (8 * to - 8 * from - 8 * i) (drop (8 * i) (drop (8 * from) s)) (omega (arith, k))
        ∙ ap (take 8) (drop-drop (8 * i) (8 * from) s ∙ ap (λ j. drop j s) n) in
        sample_at part i (pos 0) (omega (arith, k, long))
        ∙ ap (sample_value signed little) cut
        ∙ sym (sample_at s (from + i) (pos 0) (omega (arith, k, l)))
        ∙ sym (get_or-take (to - from) (drop from (samples_lent s)) i (pos 0) k ∙ get_or-drop from (samples_lent s) i (pos 0))

-- the elements from one to before another
pub cut_is : {A : Type 0} (l : List A) (from to : ℕ) → from ≤ to → take (to - from) (drop from l) ≡ slice from to l
cut_is l from to h =
    let e : from + (to - from) ≡ to = omega (arith, h) in
    sym (drop-take from (to - from) l) ∙ ap (λ n. drop from (take n l)) e

module _ (x : ℕ) (l : x < 18446744073709551616) where
  -- ---- the range: low added, samples from -low to high are the numbers up to low + high

  pub range_bits : (low high s : ℕ) → low ≤ 9223372036854775808 → high < 9223372036854775808 → s ≡ (x + low) % 18446744073709551616 → leb s (low + high) ≡ in_range low high (to_signed 8 x)
  range_bits low high s a b e = go (ltb x 9223372036854775808) refl
    where
      above : x < 9223372036854775808 → (t : Bool) → leb x high ≡ t → leb s (low + high) ≡ leb x high
      above k true q = le-leb s (low + high) (omega (arith, leb-true x high q)) ∙ sym q
      above k false q = lt-leb s (low + high) (omega (arith, leb-false x high q)) ∙ sym q

      below : 9223372036854775808 ≤ x → (t : Bool) → ltb (18446744073709551615 - x) low ≡ t → leb s (low + high) ≡ ltb (18446744073709551615 - x) low
      below k true q = le-leb s (low + high) (omega (arith, ltb-true (18446744073709551615 - x) low q)) ∙ sym q
      below k false q = lt-leb s (low + high) (omega (arith, ltb-false (18446744073709551615 - x) low q)) ∙ sym q

      go : (t : Bool) → ltb x 9223372036854775808 ≡ t → leb s (low + high) ≡ in_range low high (if t then pos x else negsuc (18446744073709551615 - x))
      go true q = above (ltb-true x 9223372036854775808 q) (leb x high) refl
      go false q = below (ltb-false x 9223372036854775808 q) (ltb (18446744073709551615 - x) low) refl
