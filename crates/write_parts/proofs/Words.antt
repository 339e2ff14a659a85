-- Laws of std's bytes of a number in the words of the format.
-- Assumes nothing.
use Rattle.std.proofs.Common.{◌≡◌, ℕ, zero, suc, ◌+◌, ◌-◌, ◌*◌, ◌/◌, ◌%◌, ◌^◌, ◌≤◌, ◌<◌, Bool, true, false, leb, leb-true, leb-false, List, [], ◌∷◌, ◌++◌, length, take, drop, reverse, replicate, refl, ap, sym, ◌∙◌, arith, take_all, mul_comm}
use mathlib.Core.List.{append-nil, reverse-cons}
use lib.ListN.{replicate-append-replicate}
use Prim.Native.Nat.{min}
use Rattle.std.proofs.lemmas.List.{reverse-append}
use native.Mathlib.Nat.{pow-suc, div-one, div-div-eq-div-mul, zero-add}
use Rattle.std.specs.Int.{byte_at, bytes_low_first, bytes_high_first}
use lib.ListN.{length-reverse}
use Rattle.format.specs.Samples.{to_bytes}
use Rattle.format.proofs.Samples.{length_to_bytes}

byte_is : (i n : ℕ) → byte_at i n ≡ n / 256 ^ i % 256
byte_is zero n = rw (div-one n) refl
byte_is (suc i) n = refl

-- the low k bytes of what is left past byte i
low_is : (i k n : ℕ) → bytes_low_first i k n ≡ to_bytes k (n / 256 ^ i)
unfolding to_bytes
low_is i zero n = refl
low_is i (suc k) n =
    let e : n / 256 ^ suc i ≡ n / 256 ^ i / 256 = ap (λ m. n / m) (pow-suc 256 i) ∙ sym (div-div-eq-div-mul n (256 ^ i) 256) in
    rw (byte_is i n, low_is (suc i) k n, e) refl

low_take : (w i k n : ℕ) → w ≤ k → take w (bytes_low_first i k n) ≡ bytes_low_first i w n
low_take zero i k n h = refl
low_take (suc w) i zero n h = absurd (omega (arith, h))
low_take (suc w) i (suc k) n h = ap (λ l. byte_at i n ∷ l) (low_take w (suc i) k n (omega (arith, h)))

pub low_bytes_take : (w n : ℕ) → w ≤ 8 → take w (bytes_low_first 0 8 n) ≡ to_bytes w n
low_bytes_take w n h = low_take w 0 8 n h ∙ low_is 0 w n ∙ ap (to_bytes w) (div-one n)

high_drop : (m w n : ℕ) → drop m (bytes_high_first (m + w) n) ≡ bytes_high_first w n
high_drop zero w n = let e : 0 + w ≡ w = omega arith in ap (λ k. bytes_high_first k n) e
high_drop (suc m) w n = let e : suc m + w ≡ suc (m + w) = omega arith in ap (λ k. drop (suc m) (bytes_high_first k n)) e ∙ high_drop m w n

-- the last of the low bytes
low_last : (i k n : ℕ) → bytes_low_first i (suc k) n ≡ bytes_low_first i k n ++ byte_at (i + k) n ∷ []
low_last i zero n = let e : i + 0 ≡ i = omega arith in rw e refl
low_last i (suc k) n = let e : suc i + k ≡ i + suc k = omega arith in ap (λ l. byte_at i n ∷ l) (low_last (suc i) k n ∙ ap (λ j. bytes_low_first (suc i) k n ++ byte_at j n ∷ []) e)

high_is : (k n : ℕ) → bytes_high_first k n ≡ reverse (bytes_low_first 0 k n)
high_is zero n = refl
high_is (suc k) n = ap (λ l. byte_at k n ∷ l) (high_is k n) ∙ sym (ap reverse (low_last 0 k n) ∙ reverse-append (bytes_low_first 0 k n) (byte_at (0 + k) n ∷ []) ∙ ap (λ j. byte_at j n ∷ reverse (bytes_low_first 0 k n)) (zero-add k))

high_bytes_drop : (w n : ℕ) → w ≤ 8 → drop (8 - w) (bytes_high_first 8 n) ≡ reverse (to_bytes w n)
high_bytes_drop w n h =
    let e : 8 ≡ 8 - w + w = omega (arith, h) in
    ap (λ k. drop (8 - w) (bytes_high_first k n)) e ∙ high_drop (8 - w) w n ∙ high_is w n ∙ ap reverse (low_is 0 w n ∙ ap (to_bytes w) (div-one n))

pub high_bytes_part : (w n : ℕ) → w ≤ 8 → take (8 - (8 - w)) (drop (8 - w) (bytes_high_first 8 n)) ≡ reverse (to_bytes w n)
high_bytes_part w n h =
    let l : length (reverse (to_bytes w n)) ≤ 8 - (8 - w) = omega (arith, h, length-reverse (to_bytes w n), length_to_bytes w n) in
    ap (take (8 - (8 - w))) (high_bytes_drop w n h) ∙ take_all (8 - (8 - w)) (reverse (to_bytes w n)) l

-- ---- more bytes than a number of 64 bits has: those past the eighth are 0

zeros : (k : ℕ) → to_bytes k 0 ≡ replicate k 0
unfolding to_bytes
zeros zero = refl
zeros (suc k) = ap (λ l. 0 ∷ l) (zeros k)

turned : (k : ℕ) → reverse {A = ℕ} (replicate k 0) ≡ replicate k 0
turned zero = refl
turned (suc k) =
    let e : k + 1 ≡ suc k = omega arith in
    reverse-cons 0 (replicate k 0) ∙ ap (λ l. l ++ replicate 1 0) (turned k) ∙ replicate-append-replicate k 1 0 ∙ ap (λ m. replicate m 0) e

bytes_append : (w k x : ℕ) → to_bytes (w + k) x ≡ to_bytes w x ++ to_bytes k (x / 256 ^ w)
unfolding to_bytes
bytes_append zero k x = let e : 0 + k ≡ k = omega arith in ap (λ m. to_bytes m x) e ∙ sym (ap (to_bytes k) (div-one x))
bytes_append (suc w) k x =
    let e : suc w + k ≡ suc (w + k) = omega arith in
    let q : x / 256 / 256 ^ w ≡ x / 256 ^ suc w = div-div-eq-div-mul x 256 (256 ^ w) ∙ ap (λ m. x / m) (mul_comm 256 (256 ^ w) ∙ sym (pow-suc 256 w)) in
    ap (λ m. to_bytes m x) e ∙ ap (λ l. x % 256 ∷ l) (bytes_append w k (x / 256) ∙ ap (λ m. to_bytes w (x / 256) ++ to_bytes k m) q)

module _ (w n x : ℕ) (en : n ≡ min w 8) (small : x < 18446744073709551616) where
  pub low_wide : to_bytes w x ≡ to_bytes n x ++ replicate (w - n) 0
  low_wide = go (leb w 8) refl
    where
      go : (t : Bool) → leb w 8 ≡ t → to_bytes w x ≡ to_bytes n x ++ replicate (w - n) 0
      go true q =
          let h : w ≤ 8 = leb-true w 8 q in
          let e : n ≡ w = omega (arith, en, h) in
          let z : w - n ≡ 0 = omega (arith, e) in
          sym (ap (λ m. to_bytes n x ++ replicate m 0) z ∙ append-nil (to_bytes n x) ∙ ap (λ m. to_bytes m x) e)
      go false q =
          let h : 8 < w = leb-false w 8 q in
          let e : n ≡ 8 = omega (arith, en, h) in
          let k : w ≡ n + (w - n) = omega (arith, e, h) in
          let z : x / 256 ^ n ≡ 0 = rw e (omega (arith, small)) in
          ap (λ m. to_bytes m x) k ∙ bytes_append n (w - n) x ∙ ap (λ m. to_bytes n x ++ to_bytes (w - n) m) z ∙ ap (λ l. to_bytes n x ++ l) (zeros (w - n))

  pub high_wide : reverse (to_bytes w x) ≡ replicate (w - n) 0 ++ reverse (to_bytes n x)
  high_wide = ap reverse low_wide ∙ reverse-append (to_bytes n x) (replicate (w - n) 0) ∙ ap (λ l. l ++ reverse (to_bytes n x)) (turned (w - n))
