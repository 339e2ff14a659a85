-- Components that are written: what is read from their text, exactly.
-- Assumes nothing.
use Rattle.std.specs.Prelude.{if◌then◌else◌}
use Prim.Native.Nat.{ℕ, zero, suc, ◌≤◌, ◌<◌}
use native.Mathlib.Omega.{arith}
use mathlib.Core.Path.{◌≡◌, refl, sym, ap, ◌∙◌}
use mathlib.Core.Bool.{Bool, true, false, not, ◌&&◌, and-false}
use mathlib.Core.List.{List, [], ◌∷◌, append-nil}
use mathlib.Core.Option.{Option, none, some}
use lib.Dec.{eqb, leb, ltb}
use lib.IntN.{ℤ, pos, negsuc, nat_abs, +ℤ_idr}
use lib.ListN.{length}
use borrow.Author.Tests.{leb-true, lt-leb, lt-ltb, eqb-true, ne_eqb}
use Rattle.format.specs.declared.Decimal.{Decimal}
use Rattle.format.specs.Bytes.{bytes, between, is_digit, is_empty, every, alike, COMMA}
use Rattle.format.specs.Decimals.{num, marked, numeric, nan, inf, minus_inf, digits_of, after_digits, numeral_value, component}
use Rattle.format.specs.Writer.{decimal, signed_decimal}
use Rattle.format.specs.HeaderWriter.{number_text, component_text}
use Rattle.format.proofs.Bytes.{and_left, and_right, and_both, every_append, every_weaker}
use Rattle.format.proofs.Writer.{decimal_digits, decimal_not_empty, number_of_decimal}
use Rattle.theorem_orientation.specs.Meaning.{Sign, bare, plus, minus, exponent, Parts, parts_text, some_digits, signed, whole_number, number_of, power_of, in_range, infinite, Form, a_number, a_nan, an_inf}
use Rattle.theorem_orientation.specs.ReadBack.{kept, meant, ReadsBack}
use Rattle.theorem_orientation.proofs.PlaceValue.{number_of_digits}
use Rattle.theorem_orientation.proofs.Forms.{sign_size, number_meant}
use Rattle.theorem_orientation.proofs.Taken.{form}

-- ---- what is read from a text that is written for a: what a means where that is kept, and else nothing

abbrev pub Exactly : {A : Type 0} → (A → List ℕ) → (List ℕ → Option A) → (A → Bool) → (A → A) → Type 0
Exactly {A} text said keeps means = (a : A) → said (text a) ≡ (if keeps (means a) then some (means a) else none)

-- what is kept means itself
abbrev pub Itself : {A : Type 0} → (A → Bool) → (A → A) → Type 0
Itself {A} keeps means = (a : A) → keeps a ≡ true → means a ≡ a

-- what is read is kept
abbrev pub Keeping : {A : Type 0} → (List ℕ → Option A) → (A → Bool) → Type 0
Keeping {A} said keeps = (t : List ℕ) (a : A) → said t ≡ some a → keeps a ≡ true

module _ {A : Type 0} where
  -- what such a choice gives
  pub said_if : (t : Bool) (a b : A) → (if t then some a else none) ≡ some b → (b ≡ a) × (t ≡ true)
  said_if true a b h = (cc, refl)
  said_if false a b h = (cc, cc)

  pub reads_back : (text : A → List ℕ) (said : List ℕ → Option A) (keeps : A → Bool) (means : A → A)
      → Exactly text said keeps means → Itself keeps means → Keeping said keeps → ReadsBack text said keeps means
  reads_back text said keeps means exact same taken = record {
    back = λ a h. exact a ∙ rw (same a h, h);
    only = λ a b h. (said_if (keeps (means a)) (means a) b (sym (exact a) ∙ h)).0;
    taken = taken;
  }

-- ---- a number and a power

-- the digits of a number write it
some_digits_lem : (n : ℕ) → some_digits (decimal n) ≡ true
some_digits_lem n = and_both (not (is_empty (decimal n))) (every is_digit (decimal n)) (full (decimal n) (decimal_not_empty n)) (decimal_digits n)
  where
    full : (ds : List ℕ) → 1 ≤ length ds → not (is_empty ds) ≡ true
    full [] h = absurd (omega arith)
    full (b ∷ ds) h = refl

decimal_value : (n : ℕ) → whole_number (decimal n) ≡ n
decimal_value n =
    let a = number_of_digits (decimal n) (some_digits_lem n) in
    let b = number_of_decimal n in
    cc

-- the parts of what is written for a number and a power
abbrev sign_of : ℤ → Sign
sign_of (pos n) = bare
sign_of (negsuc n) = minus

sign_back : (z : ℤ) → signed (sign_of z) (nat_abs z) ≡ z
sign_back (pos n) = refl
sign_back (negsuc n) = refl

abbrev parts_of : ℤ → ℤ → Parts
parts_of z p = record {
  sign = sign_of z;
  whole = decimal (nat_abs z);
  point = none;
  scale = some (exponent false (sign_of p) (decimal (nat_abs p)));
}

parts_text_lem : (z p : ℤ) → parts_text (parts_of z p) ≡ number_text z p
parts_text_lem (pos n) (pos m) = refl
parts_text_lem (pos n) (negsuc m) = refl
parts_text_lem (negsuc n) (pos m) = refl
parts_text_lem (negsuc n) (negsuc m) = refl

parts_number : (z p : ℤ) → number_of (parts_of z p) ≡ nat_abs z
parts_number z p = rw append-nil (decimal_value (nat_abs z))

parts_power : (z p : ℤ) → power_of (parts_of z p) ≡ p
parts_power z p = rw (decimal_value (nat_abs p), sign_back p) (+ℤ_idr p)

-- of numbers those are kept that are taken
kept_number : (z p : ℤ) → kept (num z p) ≡ in_range (nat_abs z) p
kept_number z p = refl

number_said : (z p : ℤ) → component (number_text z p) ≡ (if kept (num z p) then some (num z p) else none)
number_said z p =
    let x = parts_of z p in
    let m = number_meant x (rw (append-nil, some_digits_lem (nat_abs z)) (some_digits_lem (nat_abs p))) in
    ap component (sym (parts_text_lem z p)) ∙ m.said ∙ rw (parts_number z p, parts_power z p, sign_back z, kept_number z p)

-- ---- a component

-- a kind past the marks
past_text : (d : Decimal) → minus_inf < d.kind → component_text d ≡ bytes "none"
unfolding component_text
past_text d h =
    let k = d.kind in
    rw (ne_eqb k 0 (λ q. omega arith), ne_eqb k 1 (λ q. omega arith), ne_eqb k 2 (λ q. omega arith), ne_eqb k 3 (λ q. omega arith))

past_not_kept : (d : Decimal) → minus_inf < d.kind → kept (meant d) ≡ false
past_not_kept d h =
    let k = d.kind in
    let e : between nan minus_inf k ≡ false = rw (lt-leb k 3 h) (and-false (leb 1 k)) in
    rw (ne_eqb k 0 (λ q. omega arith)) (rw (ne_eqb k 0 (λ q. omega arith), e))

pub past_said : (d : Decimal) → minus_inf < d.kind → component (component_text d) ≡ none
unfolding component alike digits_of after_digits numeral_value
past_said d h = ap component (past_text d h)

said_of : (z p : ℤ) (k : ℕ)
    → let d : Decimal = record { number = z; power = p; kind = k } in component (component_text d) ≡ (if kept (meant d) then some (meant d) else none)
unfolding component component_text alike
said_of z p zero = number_said z p
said_of z p (suc zero) = refl
said_of z p (suc (suc zero)) = refl
said_of z p (suc (suc (suc zero))) = refl
said_of z p (suc (suc (suc (suc k)))) =
    let d : Decimal = record { number = z; power = p; kind = suc (suc (suc (suc k))) } in
    past_said d (omega arith) ∙ rw (past_not_kept d (omega arith))

pub component_exactly : Exactly component_text component kept meant
component_exactly d = said_of d.number d.power d.kind

-- what is kept means itself

zero_is : (z : ℤ) → eqb (nat_abs z) 0 ≡ true → z ≡ pos 0
zero_is (pos n) h = ap pos (eqb-true n 0 h)
zero_is (negsuc n) h = absurd (omega (arith, eqb-true (suc n) 0 h))

pub kept_itself : Itself kept meant
kept_itself d h = go (eqb d.kind numeric) refl
  where
    go : (t : Bool) → eqb d.kind numeric ≡ t → meant d ≡ d
    go true q = rw q
    go false q =
        let m : (between nan minus_inf d.kind && (eqb (nat_abs d.number) 0 && eqb (nat_abs d.power) 0)) ≡ true = rw q at h in
        let e = and_right (between nan minus_inf d.kind) (eqb (nat_abs d.number) 0 && eqb (nat_abs d.power) 0) m in
        let a = zero_is d.number (and_left (eqb (nat_abs d.number) 0) (eqb (nat_abs d.power) 0) e) in
        let b = zero_is d.power (and_right (eqb (nat_abs d.number) 0) (eqb (nat_abs d.power) 0) e) in
        rw q (λ i. record { number = sym a i; power = sym b i; kind = d.kind })

-- what is read is kept

inf_kept : (s : Sign) → kept (marked (infinite s)) ≡ true
inf_kept bare = refl
inf_kept plus = refl
inf_kept minus = refl

pub component_taken : Keeping component kept
component_taken t d h = go (form t d h)
  where
    go : Form t d → kept d ≡ true
    go (a_number x f e) =
        let o = said_if (in_range (number_of x) (power_of x)) (num (signed x.sign (number_of x)) (power_of x)) d (sym (number_meant x f).said ∙ ap component (sym e) ∙ h) in
        let z = signed x.sign (number_of x) in
        rw (o.0, kept_number z (power_of x), sign_size x.sign (number_of x)) o.1
    go (a_nan s w i e q) = rw q
    go (an_inf s w i e q) = rw q (inf_kept s)

pub component_back : ReadsBack component_text component kept meant
component_back = reads_back component_text component kept meant component_exactly kept_itself component_taken

-- ---- the bytes of a component's text are above the comma, so that there is no blank, bracket or comma

digit_above : (b : ℕ) → is_digit b ≡ true → ltb COMMA b ≡ true
digit_above b h = lt-ltb 44 b (omega (arith, leb-true 48 b (and_left (leb 48 b) (leb b 57) h)))

signed_above : (z : ℤ) → every (ltb COMMA) (signed_decimal z) ≡ true
unfolding every
signed_above (pos n) = every_weaker is_digit (ltb COMMA) digit_above (decimal n) (decimal_digits n)
signed_above (negsuc n) = every_weaker is_digit (ltb COMMA) digit_above (decimal (suc n)) (decimal_digits (suc n))

pub every_if : (p : ℕ → Bool) (t : Bool) (a b : List ℕ) → every p a ≡ true → every p b ≡ true → every p (if t then a else b) ≡ true
every_if p true a b h i = h
every_if p false a b h i = i

pub text_above : (d : Decimal) → every (ltb COMMA) (component_text d) ≡ true
unfolding component_text every
text_above d =
    every_if (ltb COMMA) (eqb d.kind numeric) _ _
    (every_append (ltb COMMA) (signed_decimal d.number) (101 ∷ signed_decimal d.power) (signed_above d.number) (signed_above d.power))
    (every_if (ltb COMMA) (eqb d.kind nan) (bytes "nan") _ refl
    (every_if (ltb COMMA) (eqb d.kind inf) (bytes "inf") _ refl
    (every_if (ltb COMMA) (eqb d.kind minus_inf) (bytes "-inf") (bytes "none") refl refl)))
