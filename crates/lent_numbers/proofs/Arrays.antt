-- Numbers in bytes, as the library reads and writes them.
use Rattle.std.proofs.Common.{◌≡◌, ℕ, zero, suc, ◌+◌, ◌-◌, ◌*◌, ◌/◌, ◌%◌, ◌<◌, ◌≤◌, ◌^◌, List, [], ◌∷◌, ◌++◌, length, get_or, take, drop, refl, ap, sym, ◌∙◌, arith, length-take-le, length-drop}
use Rattle.std.specs.Int.{w16, w32, w64, from_le_bytes, to_le_bytes, byte_at, bytes_low_first}
use native.Mathlib.Nat.{div-div-eq-div-mul, pow-suc, div-one}
use lib.Seq.{sets, sets-eq, take_all}
use borrow.Rule.Slice.PartMut.{put_mid}
use Rattle.std.proofs.lemmas.Slice.{put_mid-paste}
use Rattle.format.specs.Samples.{from_bytes, to_bytes}
use Rattle.format.proofs.Samples.{length_to_bytes}
use Rattle.lent_numbers.proofs.Halves.{load_one}
use Rattle.lent_numbers.specs.Bits.{Bits}

step : (l : List ℕ) (k : ℕ) → from_bytes (drop k l) ≡ get_or l k 0 + 256 * from_bytes (drop (suc k) l)
unfolding from_bytes
step [] zero = refl
step [] (suc k) = refl
step (x ∷ l) zero = refl
step (x ∷ l) (suc k) = step l k

none : (l : List ℕ) (k : ℕ) → length l ≡ k → from_bytes (drop k l) ≡ 0
unfolding from_bytes
none [] zero e = refl
none [] (suc k) e = refl
none (x ∷ l) zero e = absurd (omega (arith, e))
none (x ∷ l) (suc k) e = none l k (omega (arith, e))

pub le_2 : (l : List ℕ) → length l ≡ 2 → from_le_bytes w16 l ≡ from_bytes l
le_2 l e = omega (arith, step l 0, step l 1, none l 2 e)

pub le_4 : (l : List ℕ) → length l ≡ 4 → from_le_bytes w32 l ≡ from_bytes l
le_4 l e = omega (arith, step l 0, step l 1, step l 2, step l 3, none l 4 e)

pub le_8 : (l : List ℕ) → length l ≡ 8 → from_le_bytes w64 l ≡ from_bytes l
le_8 l e = omega (arith, step l 0, step l 1, step l 2, step l 3, step l 4, step l 5, step l 6, step l 7, none l 8 e)

module _ (w n at r : ℕ) (s l : List ℕ) (e : w ≡ n) (fits : at + w ≤ length s) (is : l ≡ take n (drop at s)) where
  pub chunk_long : length l ≡ n
  chunk_long = ap length is ∙ length-take-le n (drop at s) (omega (arith, length-drop at s, fits, e))

  pub chunk_bits : r ≡ from_bytes l → r < 256 ^ n → Bits w (from_bytes (take w (drop at s))) r
  chunk_bits v b = rw e (record { is = v ∙ ap from_bytes is; less = b })

pub one_bits : (w at : ℕ) (s : List ℕ) → w ≡ 1 → at + w ≤ length s → get_or s at 0 < 256 → Bits w (from_bytes (take w (drop at s))) (get_or s at 0)
one_bits w at s e fits b = rw e (load_one s at (rw e at fits) refl b)

-- ---- the bytes of a number

-- the part of d from `at` on, as long as s, replaced by s
put_sets : (d xs s : List ℕ) (at n : ℕ) → at + n ≤ length d → n ≡ length s → xs ≡ s → put_mid at (at + n - at) d xs ≡ sets d at s
put_sets d xs s at n h l e =
    let k : length (take n s) ≡ n = length-take-le n s (omega (arith, l)) in
    put_mid-paste at (at + n - at) d xs s n e (omega arith) l
    ∙ ap (λ m. take at d ++ take n s ++ drop (at + m) d) (sym k) ∙ sym (sets-eq (take n s) d at (omega (arith, k))) ∙ ap (sets d at) (take_all n s (omega (arith, l)))

byte_is : (i x : ℕ) → byte_at i x ≡ x / 256 ^ i % 256
byte_is zero x = ap (λ n. n % 256) (sym (div-one x))
byte_is (suc i) x = refl

low_first : (i n x : ℕ) → bytes_low_first i n x ≡ to_bytes n (x / 256 ^ i)
unfolding to_bytes
low_first i zero x = refl
low_first i (suc n) x =
    let q : x / 256 ^ suc i ≡ x / 256 ^ i / 256 = ap (λ m. x / m) (pow-suc 256 i) ∙ sym (div-div-eq-div-mul x (256 ^ i) 256) in
    rw (byte_is i x, low_first (suc i) n x, q)

-- the n low bytes of a number
pub le_bytes : (n x : ℕ) → bytes_low_first 0 n x ≡ to_bytes n x
le_bytes n x = low_first 0 n x ∙ ap (to_bytes n) (div-one x)

low_some : (w n x : ℕ) → w ≤ n → take w (to_bytes n x) ≡ to_bytes w x
unfolding to_bytes
low_some zero n x h = refl
low_some (suc w) zero x h = absurd (omega (arith, h))
low_some (suc w) (suc n) x h = ap (λ l. x % 256 ∷ l) (low_some w n (x / 256) (omega (arith, h)))

-- the low w bytes of a number of 8 bytes, stored at a place
pub low_stored : (w at x : ℕ) (d b xs : List ℕ) → w ≤ 8 → at + w ≤ length d → b ≡ to_le_bytes w64 x → xs ≡ take w b → put_mid at (at + w - at) d xs ≡ sets d at (to_bytes w x)
low_stored w at x d b xs l h e f =
    let all : b ≡ to_bytes 8 x = e ∙ le_bytes 8 x in
    put_sets d xs (to_bytes w x) at w h (sym (length_to_bytes w x)) (f ∙ ap (take w) all ∙ low_some w 8 x l)
