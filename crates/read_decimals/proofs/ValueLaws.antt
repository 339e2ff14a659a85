-- A numeral's value by its parts. Numbers and exponents that are cut to `past_number` give the same value as those of any length.
-- Assumes nothing.
use Rattle.std.specs.Prelude.{if◌then◌else◌}
use Prim.Native.Nat.{ℕ, ◌+◌, ◌-◌, ◌≤◌, ◌<◌, min}
use native.Mathlib.Omega.{arith}
use mathlib.Core.Path.{◌≡◌, refl, sym, ap, subst, ◌∙◌}
use mathlib.Core.Bool.{Bool, true, false, and-false, false≢true}
use mathlib.Core.List.{List, [], ◌∷◌, ◌++◌}
use mathlib.Core.Option.{Option, none, some}
use borrow.Author.Tests.{ltb-true, ltb-false, le-ltb, lt-leb}
use lib.Dec.{eqb, ltb}
use lib.ListN.{length, take, drop, length-append, length-drop}
use Rattle.format.specs.declared.Decimal.{Decimal}
use Rattle.format.specs.Bytes.{is_digit, every, POINT}
use Rattle.format.specs.Limits.{max_header}
use Rattle.format.specs.Words.{value_of_number}
use Rattle.format.specs.Decimals.{past_number, max_power, digits_of, after_digits, pointed, numeral, numeral_of, exponent_of, point_folded, with_exponent, numeral_value}
use Rattle.format.proofs.Bytes.{every_append}
use Rattle.read_decimals.specs.Parts.{number_from, digits_answer, fraction_of, after_fraction, FractionRead, exponent_answer}
use Rattle.read_decimals.specs.Components.{component_told, power_of, valued_number}
use Rattle.std.specs.Prelude.{Option as Maybe}
use Rattle.std.specs.Prelude.{Some, None}
use Rattle.read_decimals.specs.declared.parts.Digits.{Digits}
use Rattle.read_decimals.specs.declared.parts.Fraction.{Fraction}
use Rattle.read_decimals.specs.declared.parts.Exponent.{Exponent}
use Rattle.read_decimals.proofs.DigitLaws.{suffix, after_digits_lem, digits_only, digits_short, cut_twice, number_cut, number_append, value_of_digits}

-- ---- what is cut

-- what says nothing of `past_number` and of larger numbers says the same of a number and of one that is cut
cut_same : (says : ℕ → Option Decimal) → ((n : ℕ) → past_number ≤ n → says n ≡ none) → (n : ℕ) → says (min n past_number) ≡ says n
cut_same says past n = go (ltb n past_number) refl
  where
    go : (t : Bool) → ltb n past_number ≡ t → says (min n past_number) ≡ says n
    go true q =
        let l : n < past_number = ltb-true n past_number q in
        let e : min n past_number ≡ n = omega arith in
        ap says e
    go false q =
        let l : past_number ≤ n = ltb-false n past_number q in
        past (min n past_number) (omega arith) ∙ sym (past n l)

-- an exponent beyond the digits after the point by more than the largest power
large : (b : Bool) (x f : ℕ) → f + max_power < x → max_power < (point_folded (b, x) f).1
large true x f h = omega arith
large false x f h = rw (le-ltb x f (omega arith)) (omega arith)

module _ (minus : Bool) where
  pub exponent_cut : (n : ℕ) (b : Bool) (x f : ℕ) → f ≤ max_header → valued_number minus n (point_folded (b, min x past_number) f) ≡ valued_number minus n (point_folded (b, x) f)
  exponent_cut n b x f h = cut_same (λ (y : ℕ). valued_number minus n (point_folded (b, y) f)) far x
    where
      far : (y : ℕ) → past_number ≤ y → valued_number minus n (point_folded (b, y) f) ≡ none
      far y l = rw (lt-leb (point_folded (b, y) f).1 max_power (large b y f (omega arith)), and-false)

  pub digits_cut : (n : ℕ) (p : Bool × ℕ) → valued_number minus (min n past_number) p ≡ valued_number minus n p
  digits_cut n p = cut_same (λ (y : ℕ). valued_number minus y p) (λ y l. rw (le-ltb y past_number l)) n

-- ---- the value by digits and an exponent

module _ (minus : Bool) (f : ℕ) where
  no_digits : (ds : List ℕ) (o : Option (Bool × ℕ)) → length ds ≡ 0 → none ≡ with_exponent minus ds f o
  no_digits [] none h = refl
  no_digits [] (some e) h = refl
  no_digits (b ∷ ds) o h = absurd (omega arith)

  no_exponent : (ds : List ℕ) (o : Option (Bool × ℕ)) → None ≡ exponent_answer o → none ≡ with_exponent minus ds f o
  no_exponent ds none q = refl
  no_exponent ds (some e) q = cc

  both : (x : Exponent) (n : ℕ) (ds : List ℕ) (o : Option (Bool × ℕ)) → Some x ≡ exponent_answer o → (length ds ≡ 0 → ⊥) → f ≤ max_header
      → n ≡ min (value_of_number ds) past_number → valued_number minus n (point_folded (x.minus, x.size) f) ≡ with_exponent minus ds f o
  both x n ds none q d l e = cc
  both x n [] (some p) q d l e = absurd (d refl)
  both x n (b ∷ ds) (some (m, k)) q d l e =
      let y : x ≡ record { minus = m; size = min k past_number } = cc in
      rw (y, e)
      (exponent_cut minus (min (value_of_number (b ∷ ds)) past_number) m k f l ∙ digits_cut minus (value_of_number (b ∷ ds)) (point_folded (m, k) f))

exponent_few : (x : Exponent) (o : Option (Bool × ℕ)) → Some x ≡ exponent_answer o → x.size ≤ past_number
exponent_few x none q = cc
exponent_few x (some e) q = let y : x ≡ record { minus = e.0; size = min e.1 past_number } = cc in rw y (omega arith)

-- ---- a numeral by its parts: w are the digits before the point, g is the fraction, x the exponent

pointed_parts : (w s : List ℕ) → pointed w s ≡ numeral w (fraction_of s) (after_fraction s)
pointed_parts w [] = refl
pointed_parts w (b ∷ s) = go (eqb b POINT)
  where
    go : (x : Bool) → (if x then numeral w (digits_of s) (after_digits s) else numeral w [] (b ∷ s))
        ≡ numeral w (if x then digits_of s else []) (if x then after_digits s else b ∷ s)
    go true = refl
    go false = refl

fraction_only : (s : List ℕ) → every is_digit (fraction_of s) ≡ true
unfolding every
fraction_only [] = refl
fraction_only (b ∷ s) = go (eqb b POINT)
  where
    go : (x : Bool) → every is_digit (if x then digits_of s else []) ≡ true
    go true = digits_only s
    go false = refl

fraction_short : (s : List ℕ) → length (fraction_of s) ≤ length s
fraction_short [] = omega arith
fraction_short (b ∷ s) = go (eqb b POINT)
  where
    go : (x : Bool) → length (if x then digits_of s else []) ≤ length (b ∷ s)
    go true = omega (arith, digits_short s)
    go false = omega arith

after_short : (s : List ℕ) → length (after_digits s) ≤ length s
after_short s = rw (← (after_digits_lem s), length-drop) (omega arith)

module _ (minus : Bool) (t : List ℕ) (w : Digits) (g : Fraction) (q : w ≡ digits_answer 0 t)
    (p : FractionRead w.number (take (length t - w.count) (drop w.count t)) g) where
  w_number : w.number ≡ min (number_from 0 (digits_of t)) past_number
  unfolding digits_answer
  w_number = ap (λ (x : Digits). x.number) q

  w_count : w.count ≡ length (digits_of t)
  unfolding digits_answer
  w_count = ap (λ (x : Digits). x.count) q

  rest_is : take (length t - w.count) (drop w.count t) ≡ after_digits t
  rest_is = suffix t w.count ∙ ap (λ (k : ℕ). drop k t) w_count ∙ after_digits_lem t

  found : FractionRead w.number (after_digits t) g
  found = subst (λ (s : List ℕ). FractionRead w.number s g) rest_is p

  -- all its digits, and what follows them
  ds : List ℕ
  ds = digits_of t ++ fraction_of (after_digits t)

  end : List ℕ
  end = after_fraction (after_digits t)

  value_is : with_exponent minus ds g.count (exponent_of end) ≡ numeral_value minus (numeral_of t)
  unfolding numeral_value ds end
  value_is = rw (pointed_parts (digits_of t) (after_digits t), found.count)

  count_is : length ds ≡ w.count + g.count
  unfolding ds
  count_is = rw (w_count, found.count) (length-append (digits_of t) (fraction_of (after_digits t)))

  number_is : g.number ≡ min (value_of_number ds) past_number
  unfolding ds
  number_is =
      let fs = fraction_of (after_digits t) in
      let n = number_from 0 (digits_of t) in
      let v : value_of_number (digits_of t ++ fs) ≡ number_from n fs =
      value_of_digits (digits_of t ++ fs) (every_append is_digit (digits_of t) fs (digits_only t) (fraction_only (after_digits t)))
      ∙ number_append (digits_of t) fs 0 in
      found.number ∙ number_cut fs w.number n (cut_twice w.number n w_number) ∙ ap (λ (k : ℕ). min k past_number) (sym v)

  -- neither has more digits than the text has bytes
  pub numeral_short : (w.count ≤ length t) × (g.count ≤ length t)
  numeral_short =
      (omega (arith, w_count, digits_short t), omega (arith, found.count, fraction_short (after_digits t), after_short t))

  -- there is no digit
  pub numeral_empty : w.count + g.count ≡ 0 → component_told none ≡ component_told (numeral_value minus (numeral_of t))
  numeral_empty h = ap component_told (no_digits minus g.count ds (exponent_of end) (count_is ∙ h) ∙ value_is)

  -- what stands after it
  module _ (s : List ℕ) (r : s ≡ take (length t - w.count) (drop w.count t)) where
    end_is : {o : Maybe Exponent} → o ≡ exponent_answer (exponent_of (take (length s - g.length) (drop g.length s))) → o ≡ exponent_answer (exponent_of end)
    unfolding end
    end_is e =
        let k : take (length s - g.length) (drop g.length s) ≡ after_fraction (after_digits t) =
        suffix s g.length ∙ ap (drop g.length) (r ∙ rest_is) ∙ found.rest in
        e ∙ ap (λ (u : List ℕ). exponent_answer (exponent_of u)) k

    -- no exponent
    pub numeral_bad : None ≡ exponent_answer (exponent_of (take (length s - g.length) (drop g.length s))) → component_told none ≡ component_told (numeral_value minus (numeral_of t))
    numeral_bad e = ap component_told (no_exponent minus g.count ds (exponent_of end) (end_is e) ∙ value_is)

    module _ {x : Exponent} (e : Some x ≡ exponent_answer (exponent_of (take (length s - g.length) (drop g.length s)))) where
      -- the size of the exponent is cut
      pub size_few : x.size ≤ past_number
      size_few = exponent_few x (exponent_of end) (end_is e)

      -- the value of its digits and its power p
      pub numeral_good : (p : Exponent) → p ≡ power_of (point_folded (x.minus, x.size) g.count) → (w.count + g.count ≡ 0 → ⊥) → length t ≤ max_header
          → component_told (valued_number minus g.number (p.minus, p.size)) ≡ component_told (numeral_value minus (numeral_of t))
      numeral_good p k d l =
          ap (λ (y : Exponent). component_told (valued_number minus g.number (y.minus, y.size))) k
          ∙ ap component_told (both minus g.count x g.number ds (exponent_of end) (end_is e) (λ z. d (sym count_is ∙ z)) (omega (arith, numeral_short.1)) number_is ∙ value_is)
