-- What `component` says of a text that is put together from parts.
-- Assumes nothing.
use Rattle.std.specs.Prelude.{if◌then◌else◌}
use Prim.Native.Nat.{ℕ, ◌≤◌, ◌<◌}
use native.Mathlib.Omega.{arith}
use mathlib.Core.Path.{◌≡◌, refl, sym, ap, ◌∙◌}
use mathlib.Core.Bool.{Bool, true, false, not, false≢true}
use mathlib.Core.List.{List, [], ◌∷◌, ◌++◌, append-nil}
use mathlib.Core.Option.{Option, none, some}
use lib.Dec.{leb}
use lib.IntN.{ℤ, pos, nat_abs, ◌-ℤ◌}
use lib.ListN.{length}
use borrow.Author.Tests.{leb-true, lt-leb, ne_eqb}
use Rattle.format.specs.Bytes.{is_digit, is_empty, every, alike, small, or_default, POINT}
use Rattle.format.specs.Decimals.{num, is_minus, after_sign, signed_of, digits_of, after_digits, numeral, pointed, numeral_of, exponent_of, point_folded, valued, numeral_value, component}
use Rattle.format.proofs.Bytes.{and_left, and_right, every_left, every_right}
use Rattle.theorem_orientation.specs.Meaning.{Sign, bare, plus, minus, sign_text, Exponent, exponent, exponent_text, Parts, point_text, fraction, some_digits, exponent_formed, well_formed, signed, whole_number, exponent_value, number_of, power_of, in_range, NumberMeant}
use Rattle.theorem_orientation.proofs.PlaceValue.{value_of_lem, number_of_digits, abs_signed, less_power}

-- ---- a sign

abbrev pub negative : Sign → Bool
negative bare = false
negative plus = false
negative minus = true

signed_is : (s : Sign) (n : ℕ) → signed s n ≡ signed_of (negative s) n
signed_is bare n = refl
signed_is plus n = refl
signed_is minus n = refl

pub sign_size : (s : Sign) (n : ℕ) → nat_abs (signed s n) ≡ n
sign_size s n = ap nat_abs (signed_is s n) ∙ abs_signed (negative s) n

-- a text begins with a byte past the signs, up to top
pub record Begins (top : ℕ) (r : List ℕ) : Type 0 where
  pub first : ℕ
  pub others : List ℕ
  pub is : r ≡ first ∷ others
  pub low : 46 ≤ first
  pub high : first ≤ top

-- the sign before such a text is read as it is
pub minus_read : {top : ℕ} (s : Sign) (r : List ℕ) → Begins top r → is_minus (sign_text s ++ r) ≡ negative s
minus_read bare r b = rw (b.is, ne_eqb b.first 45 (λ q. omega (arith, b.low)))
minus_read plus r b = refl
minus_read minus r b = refl

pub after_sign_lem : {top : ℕ} (s : Sign) (r : List ℕ) → Begins top r → after_sign (sign_text s ++ r) ≡ r
after_sign_lem bare r b =
    rw (b.is, ne_eqb b.first 45 (λ q. omega (arith, b.low)), ne_eqb b.first 43 (λ q. omega (arith, b.low)))
after_sign_lem plus r b = refl
after_sign_lem minus r b = refl

-- ---- digits

digit_bounds : (b : ℕ) → is_digit b ≡ true → (48 ≤ b) × (b ≤ 57)
digit_bounds b h = (leb-true 48 b (and_left (leb 48 b) (leb b 57) h), leb-true b 57 (and_right (leb 48 b) (leb b 57) h))

-- digits before a text
digits_begin : (ds r : List ℕ) → some_digits ds ≡ true → Begins 57 (ds ++ r)
unfolding every
digits_begin [] r h = absurd (false≢true h)
digits_begin (b ∷ ds) r h =
    let l = digit_bounds b (and_left (is_digit b) (every is_digit ds) h) in
    record { first = b; others = ds ++ r; is = refl; low = omega arith; high = l.1 }

digits_taken : (ds r : List ℕ) → every is_digit ds ≡ true → digits_of r ≡ [] → digits_of (ds ++ r) ≡ ds
unfolding every digits_of
digits_taken [] r h e = e
digits_taken (b ∷ ds) r h e = rw (and_left (is_digit b) (every is_digit ds) h, digits_taken ds r (and_right (is_digit b) (every is_digit ds) h) e)

digits_left : (ds r : List ℕ) → every is_digit ds ≡ true → after_digits r ≡ r → after_digits (ds ++ r) ≡ r
unfolding every after_digits
digits_left [] r h e = e
digits_left (b ∷ ds) r h e = rw (and_left (is_digit b) (every is_digit ds) h, digits_left ds r (and_right (is_digit b) (every is_digit ds) h) e)

-- ---- an exponent

-- no digit begins it
exponent_no_digit : (e : Option Exponent) → digits_of (exponent_text e) ≡ []
unfolding digits_of
exponent_no_digit none = refl
exponent_no_digit (some (exponent true s y)) = refl
exponent_no_digit (some (exponent false s y)) = refl

exponent_stays : (e : Option Exponent) → after_digits (exponent_text e) ≡ exponent_text e
unfolding after_digits
exponent_stays none = refl
exponent_stays (some (exponent true s y)) = refl
exponent_stays (some (exponent false s y)) = refl

-- what is read of it: a sign and a size
abbrev scale_of : Option Exponent → Bool × ℕ
scale_of none = (false, 0)
scale_of (some (exponent capital s y)) = (negative s, whole_number y)

exponent_read : (e : Option Exponent) → exponent_formed e ≡ true → exponent_of (exponent_text e) ≡ some (scale_of e)
exponent_read none h = refl
exponent_read (some (exponent capital s y)) h =
    let b : Begins 57 y = rw append-nil at (digits_begin y [] h) in
    go capital (minus_read s y b) (after_sign_lem s y b)
  where
    go : (capital : Bool) → is_minus (sign_text s ++ y) ≡ negative s → after_sign (sign_text s ++ y) ≡ y
        → exponent_of (exponent_text (some (exponent capital s y))) ≡ some (negative s, whole_number y)
    go true m a = rw (m, a, number_of_digits y h)
    go false m a = rw (m, a, number_of_digits y h)

exponent_value_lem : (e : Option Exponent) → signed_of (scale_of e).0 (scale_of e).1 ≡ exponent_value e
exponent_value_lem none = refl
exponent_value_lem (some (exponent capital s y)) = sym (signed_is s (whole_number y))

-- ---- a numeral

-- no digit or point begins an exponent, so that the numeral ends there
pointed_not : (w : List ℕ) (e : Option Exponent) → pointed w (exponent_text e) ≡ numeral w [] (exponent_text e)
pointed_not w none = refl
pointed_not w (some (exponent true s y)) = refl
pointed_not w (some (exponent false s y)) = refl

numeral_read : (w : List ℕ) (p : Option (List ℕ)) (e : Option Exponent) → every is_digit (w ++ or_default [] p) ≡ true
    → numeral_of (w ++ (point_text p ++ exponent_text e)) ≡ numeral w (or_default [] p) (exponent_text e)
unfolding digits_of after_digits
numeral_read w none e h =
    let a = every_left is_digit w [] h in
    rw (digits_taken w (exponent_text e) a (exponent_no_digit e), digits_left w (exponent_text e) a (exponent_stays e)) (pointed_not w e)
numeral_read w (some f) e h =
    let a = every_left is_digit w f h in
    let b = every_right is_digit w f h in
    let q : List ℕ = POINT ∷ f ++ exponent_text e in
    rw (
      digits_taken w q a refl,
      digits_left w q a refl,
      digits_taken f (exponent_text e) b (exponent_no_digit e),
      digits_left f (exponent_text e) b (exponent_stays e),
    )

-- it begins with a digit or the point
numeral_begins : (w : List ℕ) (p : Option (List ℕ)) (r : List ℕ) → some_digits (w ++ or_default [] p) ≡ true → Begins 57 (w ++ (point_text p ++ r))
unfolding every
numeral_begins [] none r h = absurd (false≢true h)
numeral_begins [] (some f) r h = record { first = POINT; others = f ++ r; is = refl; low = omega arith; high = omega arith }
numeral_begins (b ∷ w) p r h =
    let l = digit_bounds b (and_left (is_digit b) (every is_digit (w ++ or_default [] p)) h) in
    record { first = b; others = w ++ (point_text p ++ r); is = refl; low = omega arith; high = l.1 }

-- and so is no word
no_word : (r : List ℕ) → Begins 57 r → (c : ℕ) (cs : List ℕ) → 57 < small c → alike r (c ∷ cs) ≡ false
unfolding alike
no_word r b c cs h = rw (b.is, lt-leb 65 b.first (omega (arith, b.high)), ne_eqb b.first (small c) (λ q. omega (arith, b.high)))

-- ---- the value

-- digits and a power that is read as a sign and a size: a number z and a power y
valued_read : (m : Bool) (ds : List ℕ) (q : Bool × ℕ) (z y : ℤ) → some_digits ds ≡ true → z ≡ signed_of m (whole_number ds) → y ≡ signed_of q.0 q.1
    → valued m ds q ≡ (if in_range (whole_number ds) y then some (num z y) else none)
valued_read m [] q z y h e f = absurd (false≢true h)
valued_read m (b ∷ ds) q z y h e f = rw (number_of_digits (b ∷ ds) h, e, f, abs_signed q.0 q.1)

power_is : (e : Option Exponent) (n : ℕ) → exponent_value e -ℤ pos n ≡ signed_of (point_folded (scale_of e) n).0 (point_folded (scale_of e) n).1
power_is e n = sym (less_power (scale_of e).0 (scale_of e).1 n ∙ ap (λ (z : ℤ). z -ℤ pos n) (exponent_value_lem e))

pub number_meant : (x : Parts) → well_formed x ≡ true → NumberMeant x
unfolding component numeral_value
number_meant x h =
    let w = x.whole in
    let f = fraction x in
    let e = x.scale in
    let d = and_left (some_digits (w ++ f)) (exponent_formed e) h in
    let r : List ℕ = w ++ (point_text x.point ++ exponent_text e) in
    let b = numeral_begins w x.point (exponent_text e) d in
    let m = negative x.sign in
    let q = point_folded (scale_of e) (length f) in
    record {
      value = λ k m l. value_of_lem k (exponent_value e) w f m l;
      said =
          rw (
            minus_read x.sign r b,
            after_sign_lem x.sign r b,
            no_word r b 110 (97 ∷ 110 ∷ []) (omega arith),
            no_word r b 105 (110 ∷ 102 ∷ []) (omega arith),
            no_word r b 105 (110 ∷ 102 ∷ 105 ∷ 110 ∷ 105 ∷ 116 ∷ 121 ∷ []) (omega arith),
            numeral_read w x.point e (and_right (not (is_empty (w ++ f))) (every is_digit (w ++ f)) d),
            exponent_read e (and_right (some_digits (w ++ f)) (exponent_formed e) h),
          )
          (valued_read m (w ++ f) q (signed x.sign (number_of x)) (power_of x) d (signed_is x.sign (number_of x)) (power_is e (length f)));
    }
