-- Laws of decimal numbers, digit by digit from the last.
-- Assumes nothing.
use mathlib.Core.Path.{◌≡◌, refl, sym, ap, ◌∙◌}
use mathlib.Core.Bool.{Bool, true, false}
use mathlib.Core.List.{List, [], ◌∷◌, ◌++◌, append-nil, append_assoc}
use Prim.Native.Nat.{ℕ, zero, suc, ◌+◌, ◌*◌, ◌/◌, ◌%◌, ◌^◌, ◌≤◌, ◌<◌}
use native.Mathlib.Nat.{pow-suc, one-le-pow, add-zero, add-suc, mul_comm, mul_assoc, div-one, div-div-eq-div-mul, mod-add-div}
use native.Mathlib.Omega.{arith}
use lib.Dec.{ltb, lit<}
use lib.ListN.{length, set, length-append}
use lib.Seq.{sets}
use borrow.Author.Tests.{lt-ltb, le-ltb, ltb-false}
use Rattle.format.specs.Writer.{digit, by_digits, decimal_from, decimal}
use Rattle.write_parts.specs.Stored.{digits}
use Rattle.format.proofs.Stores.{sets_then}
use Rattle.format.proofs.Writer.{digits_few}

-- a bound that is enough makes no difference
any_bound : (m k n : ℕ) → n ≤ m → n ≤ k → decimal_from m n ≡ decimal_from k n
unfolding decimal_from
any_bound zero zero n h l = refl
any_bound zero (suc k) n h l = rw (lt-ltb n 10 (omega arith))
any_bound (suc m) zero n h l = rw (lt-ltb n 10 (omega arith))
any_bound (suc m) (suc k) n h l = go (ltb n 10) refl (λ g. any_bound m k (n / 10) (omega arith) (omega arith))
  where
    go : (t : Bool) → ltb n 10 ≡ t → (10 ≤ n → decimal_from m (n / 10) ≡ decimal_from k (n / 10)) → by_digits t n (λ i. decimal_from m i) ≡ by_digits t n (λ i. decimal_from k i)
    go true q on = refl
    go false q on = ap (λ (s : List ℕ). s ++ (digit (n % 10) ∷ [])) (on (ltb-false n 10 q))

-- one digit
pub decimal_one : (n : ℕ) → n < 10 → decimal n ≡ digit n ∷ []
unfolding decimal_from
decimal_one zero h = refl
decimal_one (suc n) h = rw (lt-ltb (suc n) 10 h)

-- one digit more
pub decimal_more : (n : ℕ) → 10 ≤ n → decimal n ≡ decimal (n / 10) ++ (digit (n % 10) ∷ [])
unfolding decimal_from
decimal_more zero h = absurd (omega arith)
decimal_more (suc n) h =
    rw (le-ltb (suc n) 10 h) (ap (λ (s : List ℕ). s ++ (digit (suc n % 10) ∷ [])) (any_bound n (suc n / 10) (suc n / 10) (omega arith) (omega arith)))

pub length_one : (n : ℕ) → n < 10 → length (decimal n) ≡ 1
length_one n h = ap length (decimal_one n h)

pub length_more : (n : ℕ) → 10 ≤ n → length (decimal n) ≡ length (decimal (n / 10)) + 1
length_more n h = ap length (decimal_more n h) ∙ length-append (decimal (n / 10)) (digit (n % 10) ∷ [])

pub at_most_20 : (n : ℕ) → n < 18_446_744_073_709_551_616 → length (decimal n) ≤ 20
at_most_20 n h = digits_few n 19 (omega arith)

-- ---- the last k digits

pub length_digits : (k n : ℕ) → length (digits k n) ≡ k
unfolding digits
length_digits zero n = refl
length_digits (suc k) n = length-append (digits k (n / 10)) (digit (n % 10) ∷ []) ∙ omega (arith, length_digits k (n / 10))

-- a number of k + 1 digits
pub decimal_whole : (k n : ℕ) → 10 ^ k ≤ n → n < 10 ^ suc k → decimal n ≡ digits (suc k) n
unfolding digits
decimal_whole zero n h l =
    let m : n % 10 ≡ n = omega arith in
    decimal_one n (omega arith) ∙ rw m
decimal_whole (suc k) n h l =
    let p = pow-suc 10 k in
    let q = pow-suc 10 (suc k) in
    decimal_more n (omega (arith, p, one-le-pow k 10 (lit< tt)))
    ∙ ap (λ (s : List ℕ). s ++ (digit (n % 10) ∷ [])) (decimal_whole k (n / 10) (omega (arith, p)) (omega (arith, q)))

pub length_whole : (k n : ℕ) → 10 ^ k ≤ n → n < 10 ^ suc k → length (decimal n) ≡ suc k
length_whole k n h l = ap length (decimal_whole k n h l) ∙ length_digits (suc k) n

-- a number by its last k digits and those before them
pub decimal_split : (k n : ℕ) → 10 ^ k ≤ n → decimal n ≡ decimal (n / 10 ^ k) ++ digits k n
unfolding digits
decimal_split zero n h = rw (div-one n, append-nil (decimal n))
decimal_split (suc k) n h =
    let p = pow-suc 10 k in
    let e : n / 10 / 10 ^ k ≡ n / 10 ^ suc k = div-div-eq-div-mul n 10 (10 ^ k) ∙ ap (λ (m : ℕ). n / m) (mul_comm 10 (10 ^ k) ∙ sym p) in
    decimal_more n (omega (arith, p, one-le-pow k 10 (lit< tt)))
    ∙ ap (λ (s : List ℕ). s ++ (digit (n % 10) ∷ [])) (decimal_split k (n / 10) (omega (arith, p)) ∙ ap (λ (m : ℕ). decimal m ++ digits k (n / 10)) e)
    ∙ append_assoc (decimal (n / 10 ^ suc k)) (digits k (n / 10)) (digit (n % 10) ∷ [])

-- the last digits by two parts
pub digits_split : (a b n : ℕ) → digits (a + b) n ≡ digits a (n / 10 ^ b) ++ digits b n
unfolding digits
digits_split a zero n = rw (add-zero a, div-one n, append-nil (digits a n))
digits_split a (suc b) n =
    let p = pow-suc 10 b in
    let e : n / 10 / 10 ^ b ≡ n / 10 ^ suc b = div-div-eq-div-mul n 10 (10 ^ b) ∙ ap (λ (m : ℕ). n / m) (mul_comm 10 (10 ^ b) ∙ sym p) in
    ap (λ (k : ℕ). digits k n) (add-suc a b)
    ∙ ap (λ (s : List ℕ). s ++ (digit (n % 10) ∷ [])) (digits_split a b (n / 10) ∙ ap (λ (m : ℕ). digits a m ++ digits b (n / 10)) e)
    ∙ append_assoc (digits a (n / 10 ^ suc b)) (digits b (n / 10)) (digit (n % 10) ∷ [])

-- digits before the last k make no difference
digits_more : (k r q : ℕ) → digits k (r + 10 ^ k * q) ≡ digits k r
unfolding digits
digits_more zero r q = refl
digits_more (suc k) r q =
    let u : ℕ = 10 ^ k * q in
    let p : 10 ^ suc k * q ≡ 10 * u = ap (λ (m : ℕ). m * q) (pow-suc 10 k ∙ mul_comm (10 ^ k) 10) ∙ mul_assoc 10 (10 ^ k) q in
    let m : (r + 10 ^ suc k * q) % 10 ≡ r % 10 = omega arith in
    let d : (r + 10 ^ suc k * q) / 10 ≡ r / 10 + u = omega arith in
    rw (m, d, digits_more k (r / 10) q)

pub digits_last : (k n : ℕ) → digits k (n % 10 ^ k) ≡ digits k n
digits_last k n = sym (digits_more k (n % 10 ^ k) (n / 10 ^ k)) ∙ ap (digits k) (mod-add-div n (10 ^ k))

-- ---- numbers stored in two parts

pub decimal_long : (k n : ℕ) → 10 ^ k ≤ n → length (decimal n) ≡ length (decimal (n / 10 ^ k)) + k
decimal_long k n h =
    ap length (decimal_split k n h) ∙ length-append (decimal (n / 10 ^ k)) (digits k n) ∙ ap (λ (m : ℕ). length (decimal (n / 10 ^ k)) + m) (length_digits k n)

module _ (k n : ℕ) (d : List ℕ) (at o : ℕ) where
  pub decimal_stored : 10 ^ k ≤ n → o ≡ at + length (decimal (n / 10 ^ k)) → sets (sets d at (decimal (n / 10 ^ k))) o (digits k (n % 10 ^ k)) ≡ sets d at (decimal n)
  decimal_stored h q =
      ap (sets (sets d at (decimal (n / 10 ^ k))) o) (digits_last k n) ∙ sets_then d (decimal (n / 10 ^ k)) (digits k n) at o q ∙ ap (sets d at) (sym (decimal_split k n h))

  pub digits_stored : (a : ℕ) → o ≡ at + a → sets (sets d at (digits a (n / 10 ^ k))) o (digits k (n % 10 ^ k)) ≡ sets d at (digits (a + k) n)
  digits_stored a q =
      let l : o ≡ at + length (digits a (n / 10 ^ k)) = omega (arith, length_digits a (n / 10 ^ k)) in
      ap (sets (sets d at (digits a (n / 10 ^ k))) o) (digits_last k n) ∙ sets_then d (digits a (n / 10 ^ k)) (digits k n) at o l ∙ ap (sets d at) (sym (digits_split a k n))

-- three digits, by the first one and the last two
pub first_digit_stored : (d : List ℕ) (at n : ℕ) → 100 ≤ n → n < 1000 → sets (set d at (48 + n / 100)) (at + 1) (digits 2 (n % 100)) ≡ sets d at (decimal n)
first_digit_stored d at n h l =
    let e : decimal (n / 100) ≡ digit (n / 100) ∷ [] = decimal_one (n / 100) (omega arith) in
    ap (λ (s : List ℕ). sets (sets d at s) (at + 1) (digits 2 (n % 100))) (sym e) ∙ decimal_stored 2 n d at (at + 1) h (omega (arith, ap length e))
