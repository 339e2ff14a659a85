-- Whatever `component` takes is put together from parts, or is a word.
-- Assumes nothing.
use Rattle.std.specs.Prelude.{if◌then◌else◌}
use Prim.Native.Nat.{ℕ, ◌+◌, ◌-◌, ◌*◌}
use native.Mathlib.Omega.{arith}
use mathlib.Core.Path.{◌≡◌, refl, ap, ◌∙◌}
use mathlib.Core.Bool.{Bool, true, false, not, ◌&&◌}
use mathlib.Core.List.{List, [], ◌∷◌, ◌++◌, append-nil}
use mathlib.Core.Option.{Option, none, some}
use lib.Dec.{eqb}
use lib.ListN.{length}
use borrow.Author.Tests.{eqb-true}
use Rattle.format.specs.declared.Decimal.{Decimal}
use Rattle.format.specs.Bytes.{is_digit, is_empty, every, or_default, PLUS, MINUS, POINT}
use Rattle.format.specs.Words.{digits_from, number}
use Rattle.format.specs.Decimals.{is_minus, after_sign, digits_of, after_digits, numeral, numeral_of, is_e, signed_size, exponent_of, with_exponent, numeral_value, unsigned_value, component}
use Rattle.format.proofs.Bytes.{and_both, every_append}
use Rattle.theorem_orientation.specs.Meaning.{Sign, bare, plus, minus, sign_text, Exponent, exponent, exponent_text, Parts, point_text, some_digits, exponent_formed, is_nan, is_inf, Form, a_number, a_nan, an_inf, DecimalsMean}
use Rattle.theorem_orientation.proofs.Forms.{negative, number_meant}
use Rattle.theorem_orientation.proofs.WordForms.{nan_said, inf_kind, inf_said}

-- what is nothing is not something
pub nothing : {A : Type 0} {a : A} → none ≡ some a → ⊥
nothing h = let z : ◌≡◌ {A = ℕ} 0 1 = cc in omega arith

-- ---- a sign

record Signed (t : List ℕ) : Type 0 where
  pub sign : Sign
  pub text : t ≡ sign_text sign ++ after_sign t
  pub negates : is_minus t ≡ negative sign

sign_of : (t : List ℕ) → Signed t
sign_of [] = record { sign = bare; text = refl; negates = refl }
sign_of (b ∷ r) = go (eqb b MINUS) (eqb b PLUS) refl refl
  where
    go : (m p : Bool) → eqb b MINUS ≡ m → eqb b PLUS ≡ p → Signed (b ∷ r)
    go true p e f = record { sign = minus; text = rw (eqb-true b 45 e); negates = e }
    go false true e f = record { sign = plus; text = rw (eqb-true b 43 f); negates = e }
    go false false e f = record { sign = bare; text = rw (e, f); negates = e }

-- ---- digits

from_digits : (n : ℕ) (s : List ℕ) (k : ℕ) → digits_from n s ≡ some k → every is_digit s ≡ true
unfolding digits_from every
from_digits n [] k h = refl
from_digits n (b ∷ s) k h = go (is_digit b) refl (λ i. from_digits (n * 10 + (b - 48)) s k i)
  where
    go : (t : Bool) → is_digit b ≡ t → (digits_from (n * 10 + (b - 48)) s ≡ some k → every is_digit s ≡ true) → (is_digit b && every is_digit s) ≡ true
    go true q on = rw (q, on (rw q at h))
    go false q on = absurd (nothing (rw q at h))

number_digits : (y : List ℕ) (n : ℕ) → number y ≡ some n → some_digits y ≡ true
unfolding number
number_digits [] n h = absurd (nothing h)
number_digits (b ∷ y) n h = from_digits 0 (b ∷ y) n h

taken_digits : (t : List ℕ) → every is_digit (digits_of t) ≡ true
unfolding digits_of every
taken_digits [] = refl
taken_digits (b ∷ t) = go (is_digit b) refl (taken_digits t)
  where
    go : (x : Bool) → is_digit b ≡ x → every is_digit (digits_of t) ≡ true → every is_digit (if x then b ∷ digits_of t else []) ≡ true
    go true q i = rw (q, i)
    go false q i = refl

digits_and_after : (t : List ℕ) → t ≡ digits_of t ++ after_digits t
unfolding digits_of after_digits
digits_and_after [] = refl
digits_and_after (b ∷ t) = go (is_digit b) (digits_and_after t)
  where
    go : (x : Bool) → t ≡ digits_of t ++ after_digits t → b ∷ t ≡ (if x then b ∷ digits_of t else []) ++ (if x then after_digits t else b ∷ t)
    go true i = ap (λ (u : List ℕ). b ∷ u) i
    go false i = refl

-- ---- an exponent

record Scaled (r : List ℕ) : Type 0 where
  pub scale : Option Exponent
  pub text : r ≡ exponent_text scale
  pub formed : exponent_formed scale ≡ true

size_number : (m : Bool) (o : Option ℕ) (e : Bool × ℕ) → signed_size m o ≡ some e → (n : ℕ) × (o ≡ some n)
size_number m none e h = absurd (nothing h)
size_number m (some n) e h = (n, refl)

scale_of : (r : List ℕ) (e : Bool × ℕ) → exponent_of r ≡ some e → Scaled r
scale_of [] e h = record { scale = none; text = refl; formed = refl }
scale_of (b ∷ q) e h = go (eqb b 101) (eqb b 69) refl refl
  where
    digits_there : is_e b ≡ true → some_digits (after_sign q) ≡ true
    digits_there i = let n = size_number (is_minus q) (number (after_sign q)) e (rw i at h) in number_digits (after_sign q) n.0 n.1

    made : (capital : Bool) → b ≡ (if capital then 69 else 101) → is_e b ≡ true → Scaled (b ∷ q)
    made capital i j =
        let s = sign_of q in
        record { scale = some (exponent capital s.sign (after_sign q)); text = rw (i, ← s.text); formed = digits_there j }

    go : (x y : Bool) → eqb b 101 ≡ x → eqb b 69 ≡ y → Scaled (b ∷ q)
    go true y i j = made false (eqb-true b 101 i) (rw i)
    go false true i j = made true (eqb-true b 69 j) (rw (i, j))
    go false false i j = absurd (nothing (rw (i, j) at h))

-- ---- a numeral

record Numbered (u : List ℕ) : Type 0 where
  pub whole : List ℕ
  pub point : Option (List ℕ)
  pub rest : List ℕ
  pub text : u ≡ whole ++ (point_text point ++ rest)
  pub read : numeral_of u ≡ numeral whole (or_default [] point) rest
  pub formed : every is_digit (whole ++ or_default [] point) ≡ true

numeral_form : (u : List ℕ) → Numbered u
numeral_form u = go (after_digits u) refl
  where
    whole_formed : every is_digit (digits_of u ++ []) ≡ true
    whole_formed = rw append-nil (taken_digits u)

    text_of : (r : List ℕ) → after_digits u ≡ r → u ≡ digits_of u ++ r
    text_of r e = digits_and_after u ∙ rw e

    go : (r : List ℕ) → after_digits u ≡ r → Numbered u
    go [] e = record { whole = digits_of u; point = none; rest = []; text = text_of [] e; read = rw e; formed = whole_formed }
    go (b ∷ q) e = split (eqb b POINT) refl
      where
        split : (t : Bool) → eqb b POINT ≡ t → Numbered u
        split true i =
            record {
              whole = digits_of u;
              point = some (digits_of q);
              rest = after_digits q;
              text = text_of (b ∷ q) e ∙ rw (eqb-true b 46 i, ← (digits_and_after q));
              read = rw (e, i);
              formed = every_append is_digit (digits_of u) (digits_of q) (taken_digits u) (taken_digits q);
            }
        split false i = record { whole = digits_of u; point = none; rest = b ∷ q; text = text_of (b ∷ q) e; read = rw (e, i); formed = whole_formed }

-- a value has an exponent, and digits
some_scale : (m : Bool) (ds : List ℕ) (f : ℕ) (o : Option (Bool × ℕ)) (d : Decimal) → with_exponent m ds f o ≡ some d → (e : Bool × ℕ) × (o ≡ some e)
some_scale m ds f none d h = absurd (nothing h)
some_scale m ds f (some e) d h = (e, refl)

some_digit : (m : Bool) (ds : List ℕ) (f : ℕ) (o : Option (Bool × ℕ)) (d : Decimal) → with_exponent m ds f o ≡ some d → not (is_empty ds) ≡ true
some_digit m ds f none d h = absurd (nothing h)
some_digit m [] f (some e) d h = absurd (nothing h)
some_digit m (b ∷ ds) f (some e) d h = refl

put_together : (t a u w p r x : List ℕ) → t ≡ a ++ u → u ≡ w ++ (p ++ r) → r ≡ x → t ≡ a ++ (w ++ (p ++ x))
put_together t a u w p r x e f g = rw (e, f, g)

-- ---- all

module _ (t : List ℕ) (d : Decimal) where
  number_form : (s : Signed t) → numeral_value (negative s.sign) (numeral_of (after_sign t)) ≡ some d → Form t d
  unfolding numeral_value
  number_form s h =
      let n = numeral_form (after_sign t) in
      let ds = n.whole ++ or_default [] n.point in
      let v : with_exponent (negative s.sign) ds (length (or_default [] n.point)) (exponent_of n.rest) ≡ some d = rw n.read at h in
      let o = some_scale (negative s.sign) ds _ (exponent_of n.rest) d v in
      let e = scale_of n.rest o.0 o.1 in
      let x : Parts = record { sign = s.sign; whole = n.whole; point = n.point; scale = e.scale } in
      a_number x
      (and_both (some_digits ds) (exponent_formed e.scale)
      (and_both (not (is_empty ds)) (every is_digit ds) (some_digit (negative s.sign) ds _ (exponent_of n.rest) d v) n.formed) e.formed)
      (put_together t (sign_text s.sign) (after_sign t) n.whole (point_text n.point) n.rest (exponent_text e.scale) s.text n.text e.text)

  unsigned_form : (s : Signed t) → unsigned_value (negative s.sign) (after_sign t) ≡ some d → Form t d
  unsigned_form s h = go (is_nan (after_sign t)) (is_inf (after_sign t)) refl refl
    where
      same : {e : Decimal} → some e ≡ some d → d ≡ e
      same q = cc

      go : (x y : Bool) → is_nan (after_sign t) ≡ x → is_inf (after_sign t) ≡ y → Form t d
      go true y i j = a_nan s.sign (after_sign t) i s.text (same (rw i at h))
      go false true i j = an_inf s.sign (after_sign t) j s.text (same (rw (← (inf_kind s.sign)) (rw (i, j) at h)))
      go false false i j = number_form s (rw (i, j) at h)

  pub form : component t ≡ some d → Form t d
  unfolding component
  form h = let s = sign_of t in unsigned_form s (rw s.negates at h)

pub decimals_mean : DecimalsMean
decimals_mean = record { numbers = number_meant; nans = nan_said; infinities = inf_said; only = form }
