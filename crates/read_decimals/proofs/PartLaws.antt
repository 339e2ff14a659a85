-- A sign, a fraction and an exponent by the first byte of a text.
-- Assumes nothing.
use Prim.Native.Nat.{ℕ, ◌+◌, ◌-◌, ◌≤◌, ◌<◌}
use native.Mathlib.Numerals.{one-add}
use native.Mathlib.Omega.{arith}
use mathlib.Core.Path.{◌≡◌, refl, sym, ap, ◌∙◌}
use mathlib.Core.Bool.{true, false}
use mathlib.Core.List.{List, [], ◌∷◌}
use mathlib.Core.Option.{none}
use lib.ListN.{length, take, drop, get_or}
use borrow.Author.Tests.{eq-eqb, ne_eqb}
use Rattle.std.specs.Prelude.{Some, None}
use Rattle.format.specs.Bytes.{MINUS, PLUS, POINT}
use Rattle.format.specs.Words.{number}
use Rattle.format.specs.Decimals.{past_number, is_minus, after_sign, digits_of, is_e, signed_size, exponent_of}
use Rattle.read_decimals.specs.Parts.{SignRead, number_from, digits_answer, FractionRead, exponent_answer}
use Rattle.read_decimals.specs.declared.parts.Sign.{Sign}
use Rattle.read_decimals.specs.declared.parts.Digits.{Digits}
use Rattle.read_decimals.proofs.DigitLaws.{suffix, after_digits_lem, digits_short, number_missing, number_partly, number_whole}

-- ---- a sign

pub sign_minus : (t : List ℕ) → 0 < length t → get_or t 0 0 ≡ MINUS → SignRead t record { minus = true; length = 1 }
sign_minus [] n e = absurd (omega arith)
sign_minus (b ∷ t) n e = let m = eq-eqb b MINUS e in record { minus = sym m; rest = rw m; within = omega arith }

pub sign_plus : (t : List ℕ) → 0 < length t → get_or t 0 0 ≡ PLUS → SignRead t record { minus = false; length = 1 }
sign_plus [] n e = absurd (omega arith)
sign_plus (b ∷ t) n e = record { minus = rw e; rest = rw e; within = omega arith }

pub sign_none : (t : List ℕ) → (get_or t 0 0 ≡ MINUS → ⊥) → (get_or t 0 0 ≡ PLUS → ⊥) → SignRead t record { minus = false; length = 0 }
sign_none [] d e = record { minus = refl; rest = refl; within = omega arith }
sign_none (b ∷ t) d e =
    let m = ne_eqb b MINUS d in
    let p = ne_eqb b PLUS e in record { minus = sym m; rest = rw (m, p); within = omega arith }

-- ---- a fraction

module _ (m : ℕ) where
  pub fraction_empty : (s : List ℕ) → m ≤ past_number → length s ≡ 0 → FractionRead m s record { number = m; count = 0; length = 0 }
  unfolding number_from
  fraction_empty [] k h = record { number = omega arith; count = refl; rest = refl; within = omega arith }
  fraction_empty (b ∷ s) k h = absurd (omega arith)

  pub fraction_none : (s : List ℕ) → m ≤ past_number → (length s ≡ 0 → ⊥) → (get_or s 0 0 ≡ POINT → ⊥) → FractionRead m s record { number = m; count = 0; length = 0 }
  unfolding number_from
  fraction_none [] k n e = absurd (n refl)
  fraction_none (b ∷ s) k n e =
      let p = ne_eqb b POINT e in
      record { number = rw p (omega arith); count = rw p; rest = rw p; within = omega arith }

  pub fraction_some : (s : List ℕ) (d : Digits) → (length s ≡ 0 → ⊥) → get_or s 0 0 ≡ POINT → d ≡ digits_answer m (take (length s - 1) (drop 1 s))
      → FractionRead m s record { number = d.number; count = d.count; length = 1 + d.count }
  unfolding digits_answer
  fraction_some [] d n e q = absurd (n refl)
  fraction_some (b ∷ s) d n e q =
      let p = eq-eqb b POINT e in
      let r : d ≡ digits_answer m s = q ∙ ap (digits_answer m) (suffix (b ∷ s) 1) in
      let c : d.count ≡ length (digits_of s) = ap (λ (x : Digits). x.count) r in
      record {
        number = rw p (ap (λ (x : Digits). x.number) r);
        count = rw p c;
        rest = rw (p, c, one-add) (after_digits_lem s);
        within = omega (arith, c, digits_short s);
      }

-- ---- an exponent

module _ (s : List ℕ) (g : Sign) (d : Digits) (p : SignRead s g) (q : d ≡ digits_answer 0 (take (length s - g.length) (drop g.length s))) where
  rest_is : take (length s - g.length) (drop g.length s) ≡ after_sign s
  rest_is = suffix s g.length ∙ p.rest

  digits_are : d ≡ digits_answer 0 (after_sign s)
  digits_are = q ∙ ap (digits_answer 0) rest_is

  count_is : d.count ≡ length (digits_of (after_sign s))
  unfolding digits_answer
  count_is = ap (λ (x : Digits). x.count) digits_are

  pub size_missing : d.count ≡ 0 → None ≡ exponent_answer (signed_size (is_minus s) (number (after_sign s)))
  size_missing h = rw (number_missing (after_sign s) (sym count_is ∙ h))

  pub size_partly : (d.count ≡ length (take (length s - g.length) (drop g.length s)) → ⊥) → None ≡ exponent_answer (signed_size (is_minus s) (number (after_sign s)))
  size_partly n = rw (number_partly (after_sign s) (λ e. n (count_is ∙ e ∙ ap length (sym rest_is))))

  pub size_whole : (d.count ≡ 0 → ⊥) → d.count ≡ length (take (length s - g.length) (drop g.length s))
      → Some record { minus = g.minus; size = d.number } ≡ exponent_answer (signed_size (is_minus s) (number (after_sign s)))
  unfolding digits_answer
  size_whole n h =
      rw (number_whole (after_sign s) (λ e. n (count_is ∙ e)) (sym count_is ∙ h ∙ ap length rest_is), ← p.minus, digits_are)

pub exponent_empty : (s : List ℕ) → length s ≡ 0 → Some record { minus = false; size = 0 } ≡ exponent_answer (exponent_of s)
exponent_empty [] h = refl
exponent_empty (b ∷ s) h = absurd (omega arith)

pub exponent_some : (s : List ℕ) → (length s ≡ 0 → ⊥) → is_e (get_or s 0 0) ≡ true
    → (let x = take (length s - 1) (drop 1 s) in exponent_answer (signed_size (is_minus x) (number (after_sign x))) ≡ exponent_answer (exponent_of s))
exponent_some [] n e = absurd (n refl)
exponent_some (b ∷ s) n e = rw (e, suffix (b ∷ s) 1)

pub exponent_none : (s : List ℕ) → (length s ≡ 0 → ⊥) → is_e (get_or s 0 0) ≡ false → None ≡ exponent_answer (exponent_of s)
exponent_none [] n e = absurd (n refl)
exponent_none (b ∷ s) n e = rw e
