-- The value of digits by their places, and the number that the definitions read from them.
-- Assumes nothing.
use Prim.Native.Nat.{ℕ, zero, suc, ◌+◌, ◌-◌, ◌*◌, ◌^◌, ◌≤◌}
use native.Mathlib.Nat.{add-mul, mul_assoc, mul_comm, add-zero, zero-add, pow-zero, pow-suc, mul-one, sub-zero}
use native.Mathlib.Omega.{arith}
use mathlib.Core.Path.{◌≡◌, refl, sym, ap, ◌∙◌}
use mathlib.Core.Bool.{Bool, true, false, false≢true}
use mathlib.Core.List.{List, [], ◌∷◌, ◌++◌}
use mathlib.Core.Option.{some}
use lib.Dec.{ltb}
use lib.IntN.{ℤ, pos, neg_ℤ, ◌+ℤ◌, ◌-ℤ◌, +ℤ_assoc, -ℤ-+ℤ_cancel, neg_ℤ-+ℤ, nat_abs}
use lib.ListN.{length, length-append}
use lib.Pow.{pow-add}
use borrow.Author.Tests.{ltb-true, le-ltb}
use Rattle.format.specs.Bytes.{is_digit, every}
use Rattle.format.specs.Words.{digits_from, number}
use Rattle.format.specs.Decimals.{signed_of, point_folded}
use Rattle.format.proofs.Bytes.{and_left, and_right}
use Rattle.theorem_orientation.specs.Meaning.{some_digits, before_point, after_point, first_place, whole_number}

-- ---- digits before a point

-- a digit d that counts for p before digits of the number v, all of it q times
times_all : (d p v q : ℕ) → d * (p * q) + v * q ≡ (d * p + v) * q
times_all d p v q = simp (add-mul, mul_assoc)

-- shifted by u places
before_shifted : (u : ℕ) (w : List ℕ) → before_point (pos u) w ≡ whole_number w * 10 ^ u
unfolding before_point
before_shifted u [] = omega arith
before_shifted u (b ∷ w) =
    rw (before_shifted u w, pow-add, zero-add, mul_comm (10 ^ u) (10 ^ length w)) (times_all (b - 48) (10 ^ length w) (whole_number w) (10 ^ u))

-- digits after digits
before_append : (w f : List ℕ) → whole_number (w ++ f) ≡ whole_number w * 10 ^ length f + whole_number f
unfolding before_point
before_append [] f = omega arith
before_append (b ∷ w) f =
    let p : 10 ^ length (w ++ f) ≡ 10 ^ length w * 10 ^ length f = rw length-append (pow-add 10 (length w) (length f)) in
    rw (before_append w f, zero-add, p, zero-add) (omega (arith, times_all (b - 48) (10 ^ length w) (whole_number w) (10 ^ length f)))

-- ---- digits after a point

-- a difference that is not negative
minus_within : (u j : ℕ) → j ≤ u → pos u -ℤ pos j ≡ pos (u - j)
minus_within u zero h = rw (add-zero, sub-zero)
minus_within u (suc j) h = rw (le-ltb u (suc j) h)

-- the last of them counts for ten to m
after_shifted : (u j m : ℕ) (f : List ℕ) → u + 1 ≡ j + (length f + m) → after_point (pos u) j f ≡ whole_number f * 10 ^ m
unfolding after_point before_point
after_shifted u j m [] e = omega arith
after_shifted u j m (b ∷ f) e =
    let q : u - j ≡ length f + m = omega arith in
    rw (minus_within u j (omega arith), after_shifted u (j + 1) m f (omega arith), q, pow-add, zero-add) (times_all (b - 48) (10 ^ length f) (whole_number f) (10 ^ m))

-- ---- both

-- if k plus the power is m, k plus the exponent is m plus the digits after the point
exponent_is : (k : ℕ) (e : ℤ) (n m : ℕ) → pos k +ℤ (e -ℤ pos n) ≡ pos m → pos k +ℤ e ≡ pos (m + n)
exponent_is k e n m h =
    sym (-ℤ-+ℤ_cancel (pos k +ℤ e) (pos n)) ∙ ap (λ (z : ℤ). z +ℤ pos n) (+ℤ_assoc (pos k) e (neg_ℤ (pos n)) ∙ h)

pub value_of_lem : (k : ℕ) (e : ℤ) (w f : List ℕ) (m : ℕ) → pos k +ℤ (e -ℤ pos (length f)) ≡ pos m
    → before_point (pos k +ℤ e) w + after_point (pos k +ℤ e) first_place f ≡ whole_number (w ++ f) * 10 ^ m
value_of_lem k e w f m h =
    rw (exponent_is k e (length f) m h, before_shifted (m + length f) w, after_shifted (m + length f) first_place m f (omega arith), before_append w f, pow-add)
    (simp (add-mul, mul_assoc, mul_comm))

-- ---- the number that is read

digits_value : (n : ℕ) (ds : List ℕ) → every is_digit ds ≡ true → digits_from n ds ≡ some (n * 10 ^ length ds + whole_number ds)
unfolding digits_from every before_point
digits_value n [] h = rw (pow-zero, mul-one, add-zero)
digits_value n (b ∷ ds) h =
    rw (and_left (is_digit b) (every is_digit ds) h, digits_value (n * 10 + (b - 48)) ds (and_right (is_digit b) (every is_digit ds) h))
    (ap some (simp (zero-add, pow-suc, add-mul, mul_assoc, mul_comm) (omega arith)))

pub number_of_digits : (ds : List ℕ) → some_digits ds ≡ true → number ds ≡ some (whole_number ds)
unfolding number every
number_of_digits [] h = absurd (false≢true h)
number_of_digits (b ∷ ds) h = digits_value 0 (b ∷ ds) h ∙ ap some (omega arith)

-- ---- the power

pub abs_signed : (m : Bool) (n : ℕ) → nat_abs (signed_of m n) ≡ n
abs_signed false n = refl
abs_signed true zero = refl
abs_signed true (suc n) = refl

-- an exponent less the digits after the point
pub less_power : (m : Bool) (n f : ℕ) → signed_of (point_folded (m, n) f).0 (point_folded (m, n) f).1 ≡ signed_of m n -ℤ pos f
less_power true n f = neg_ℤ-+ℤ (pos n) (pos f)
less_power false n zero = rw (le-ltb n 0 (omega arith), add-zero, sub-zero)
less_power false n (suc f) = go (ltb n (suc f)) refl
  where
    go : (t : Bool) → ltb n (suc f) ≡ t → signed_of (point_folded (false, n) (suc f)).0 (point_folded (false, n) (suc f)).1 ≡ pos n -ℤ pos (suc f)
    go true q =
        let l : suc f - n ≡ suc (suc f - suc n) = omega (arith, ltb-true n (suc f) q) in
        rw (q, l)
    go false q = rw q
