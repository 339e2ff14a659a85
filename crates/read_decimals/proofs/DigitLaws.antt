-- Laws of the digits at the front of a text, and of the numbers that they write.
-- Assumes nothing.
use Rattle.std.specs.Prelude.{if◌then◌else◌}
use Prim.Native.Nat.{ℕ, suc, ◌+◌, ◌*◌, ◌-◌, ◌≤◌, ◌<◌, min}
use native.Mathlib.Omega.{arith}
use mathlib.Core.Path.{◌≡◌, refl, sym, ap, subst, ◌∙◌}
use mathlib.Core.Bool.{Bool, true, false}
use mathlib.Core.List.{List, [], ◌∷◌, ◌++◌}
use mathlib.Core.Option.{none, some}
use lib.ListN.{length, take, drop, get_or, length-drop, drop_of_length-le}
use lib.Seq.{take_all}
use Rattle.format.specs.Bytes.{is_digit, every}
use Rattle.format.specs.Words.{digits_from, number, value_of_number}
use Rattle.format.specs.Decimals.{past_number, digits_of, after_digits}
use Rattle.format.proofs.Bytes.{and_left, and_right, and_both}
use Rattle.read_text.proofs.Places.{drop_next}
use Rattle.read_decimals.specs.Parts.{number_from, digits_answer}
use Rattle.read_decimals.specs.declared.parts.Digits.{Digits}

-- what a slice from k on holds
pub suffix : (s : List ℕ) (k : ℕ) → take (length s - k) (drop k s) ≡ drop k s
suffix s k = take_all (length s - k) (drop k s) (rw length-drop (omega arith))

pub suffix_short : (s : List ℕ) (k : ℕ) → length (take (length s - k) (drop k s)) ≤ length s
suffix_short s k = rw (suffix s k, length-drop) (omega arith)

-- ---- the digits at the front

pub after_digits_lem : (s : List ℕ) → drop (length (digits_of s)) s ≡ after_digits s
unfolding digits_of after_digits
after_digits_lem [] = refl
after_digits_lem (b ∷ s) = go (is_digit b) (after_digits_lem s)
  where
    go : (x : Bool) → drop (length (digits_of s)) s ≡ after_digits s
        → drop (length (if x then b ∷ digits_of s else [])) (b ∷ s) ≡ (if x then after_digits s else b ∷ s)
    go true e = e
    go false e = refl

pub digits_short : (s : List ℕ) → length (digits_of s) ≤ length s
unfolding digits_of
digits_short [] = omega arith
digits_short (b ∷ s) = go (is_digit b) (digits_short s)
  where
    go : (x : Bool) → length (digits_of s) ≤ length s → length (if x then b ∷ digits_of s else []) ≤ length (b ∷ s)
    go true h = omega arith
    go false h = omega arith

pub digits_only : (s : List ℕ) → every is_digit (digits_of s) ≡ true
unfolding digits_of every
digits_only [] = refl
digits_only (b ∷ s) = go (is_digit b) refl (digits_only s)
  where
    go : (x : Bool) → is_digit b ≡ x → every is_digit (digits_of s) ≡ true → every is_digit (if x then b ∷ digits_of s else []) ≡ true
    go true e h = and_both (is_digit b) (every is_digit (digits_of s)) e h
    go false e h = refl

-- where they are as many as the bytes they are the text
digits_whole : (s : List ℕ) → length (digits_of s) ≡ length s → digits_of s ≡ s
unfolding digits_of
digits_whole [] h = refl
digits_whole (b ∷ s) h = go (is_digit b) h (digits_whole s)
  where
    go : (x : Bool) → length (if x then b ∷ digits_of s else []) ≡ length (b ∷ s) → (length (digits_of s) ≡ length s → digits_of s ≡ s)
        → (if x then b ∷ digits_of s else []) ≡ b ∷ s
    go true k i = ap (λ (u : List ℕ). b ∷ u) (i (omega arith))
    go false k i = absurd (omega arith)

-- ---- the numbers that digits write

-- cut once or twice
pub cut_twice : (k n : ℕ) → k ≡ min n past_number → min k past_number ≡ min n past_number
cut_twice k n e = omega arith

-- a number that is cut goes on as the number itself, up to the bound
pub number_cut : (ds : List ℕ) (m k : ℕ) → min m past_number ≡ min k past_number → min (number_from m ds) past_number ≡ min (number_from k ds) past_number
unfolding number_from
number_cut [] m k e = e
number_cut (b ∷ ds) m k e = number_cut ds (m * 10 + (b - 48)) (k * 10 + (b - 48)) (step (b - 48))
  where
    step : (d : ℕ) → min (m * 10 + d) past_number ≡ min (k * 10 + d) past_number
    step d = omega arith

pub number_append : (ds es : List ℕ) (m : ℕ) → number_from m (ds ++ es) ≡ number_from (number_from m ds) es
unfolding number_from
number_append [] es m = refl
number_append (b ∷ ds) es m = number_append ds es (m * 10 + (b - 48))

pub all_digits : (ds : List ℕ) (m : ℕ) → every is_digit ds ≡ true → digits_from m ds ≡ some (number_from m ds)
unfolding number_from digits_from every
all_digits [] m h = refl
all_digits (b ∷ ds) m h =
    rw (and_left (is_digit b) (every is_digit ds) h)
    (all_digits ds (m * 10 + (b - 48)) (and_right (is_digit b) (every is_digit ds) h))

-- the value of digits, of none too
pub value_of_digits : (ds : List ℕ) → every is_digit ds ≡ true → value_of_number ds ≡ number_from 0 ds
unfolding number number_from
value_of_digits [] h = refl
value_of_digits (b ∷ ds) h = rw (all_digits (b ∷ ds) 0 h)

-- a text as a number: none where it has no digit at the front or more than digits, and else what they write
not_all : (s : List ℕ) (m : ℕ) → (length (digits_of s) ≡ length s → ⊥) → digits_from m s ≡ none
unfolding digits_of digits_from
not_all [] m n = absurd (n refl)
not_all (b ∷ s) m n = go (is_digit b) n (not_all s (m * 10 + (b - 48)))
  where
    go : (x : Bool) → (length (if x then b ∷ digits_of s else []) ≡ length (b ∷ s) → ⊥)
        → ((length (digits_of s) ≡ length s → ⊥) → digits_from (m * 10 + (b - 48)) s ≡ none)
        → (if x then digits_from (m * 10 + (b - 48)) s else none) ≡ none
    go true k i = i (λ e. k (ap suc e))
    go false k i = refl

pub number_missing : (s : List ℕ) → length (digits_of s) ≡ 0 → number s ≡ none
unfolding number
number_missing [] h = refl
number_missing (b ∷ s) h = not_all (b ∷ s) 0 (λ e. omega arith)

pub number_partly : (s : List ℕ) → (length (digits_of s) ≡ length s → ⊥) → number s ≡ none
unfolding number
number_partly [] n = refl
number_partly (b ∷ s) n = not_all (b ∷ s) 0 n

pub number_whole : (s : List ℕ) → (length (digits_of s) ≡ 0 → ⊥) → length (digits_of s) ≡ length s → number s ≡ some (number_from 0 (digits_of s))
unfolding number digits_of
number_whole [] n h = absurd (n refl)
number_whole (b ∷ s) n h =
    let e : digits_of (b ∷ s) ≡ b ∷ s = digits_whole (b ∷ s) h in
    let d : every is_digit (b ∷ s) ≡ true = subst (λ (u : List ℕ). every is_digit u ≡ true) e (digits_only (b ∷ s)) in
    all_digits (b ∷ s) 0 d ∙ ap (λ (u : List ℕ). some (number_from 0 u)) (sym e)

-- ---- the loop over digits: i of those of s, which go on from the number m, are read, and n is the number with them, cut

abbrev pub ReadSoFar : ℕ → List ℕ → ℕ → ℕ → Type 0
ReadSoFar m s n i =
    (n ≤ past_number) × (min (number_from m (digits_of s)) past_number ≡ min (number_from n (digits_of (drop i s))) past_number)
    × (length (digits_of s) ≡ i + length (digits_of (drop i s)))

module _ (m : ℕ) (s : List ℕ) (n i : ℕ) (r : ReadSoFar m s n i) where
  here : i < length s → is_digit (get_or s i 0) ≡ true → digits_of (drop i s) ≡ get_or s i 0 ∷ digits_of (drop (i + 1) s)
  unfolding digits_of
  here h e = rw (drop_next s i h, e)

  -- one more
  pub digits_next : (k : ℕ) → i < length s → is_digit (get_or s i 0) ≡ true → k ≡ min (n * 10 + (get_or s i 0 - 48)) past_number → ReadSoFar m s k (i + 1)
  unfolding number_from
  digits_next k h e q =
      let ds = digits_of (drop (i + 1) s) in
      let x = n * 10 + (get_or s i 0 - 48) in
      let d = here h e in
      let l : i + length (digits_of (drop i s)) ≡ i + 1 + length ds = rw d (omega arith) in (
        omega (arith, q),
        r.1 ∙ ap (λ (u : List ℕ). min (number_from n u) past_number) d ∙ number_cut ds x k (sym (cut_twice k x q)),
        r.2 ∙ l,
      )

  done : digits_of (drop i s) ≡ [] → record { number = n; count = i } ≡ digits_answer m s
  unfolding number_from digits_answer
  done e =
      let a : min (number_from n (digits_of (drop i s))) past_number ≡ n = rw e (omega (arith, r.0)) in
      let b : i + length (digits_of (drop i s)) ≡ i = rw e (omega arith) in
      sym (λ j. record { number = (r.1 ∙ a) j; count = (r.2 ∙ b) j })

  -- none more: another byte, or the end
  pub digits_stop : i < length s → is_digit (get_or s i 0) ≡ false → record { number = n; count = i } ≡ digits_answer m s
  unfolding digits_of
  digits_stop h e = done (rw (drop_next s i h, e))

  pub digits_end : length s ≤ i → record { number = n; count = i } ≡ digits_answer m s
  unfolding digits_of
  digits_end h = done (rw (drop_of_length-le s h))

-- the number that is read is cut
pub digits_few : (r : Digits) (m : ℕ) (s : List ℕ) → r ≡ digits_answer m s → r.number ≤ past_number
unfolding digits_answer
digits_few r m s q = rw q (omega arith)

pub digits_within : (r : Digits) (m : ℕ) (s : List ℕ) → r ≡ digits_answer m s → r.count ≤ length s
unfolding digits_answer
digits_within r m s q = rw q (digits_short s)
