-- Laws of the numbers that go into a pattern, and of the number of axes.
-- Assumes nothing.
use Rattle.std.specs.Prelude.{if◌then◌else◌}
use Prim.Native.Nat.{ℕ, ◌+◌, ◌-◌, ◌*◌, ◌/◌, ◌≤◌, ◌<◌, min}
use native.Mathlib.Nat.{div-mul-le_self, div-le_self}
use native.Mathlib.Omega.{arith}
use mathlib.Core.Path.{◌≡◌, refl, sym, ap, ◌∙◌}
use mathlib.Core.Bool.{Bool, true, false, ◌&&◌, false≢true}
use mathlib.Core.List.{List, [], ◌∷◌}
use mathlib.Core.Option.{Option, none, some}
use lib.Dec.{eqb, ltb, leb}
use lib.ListN.{length, take, drop}
use mir.Val.{bool_byte}
use borrow.Author.Tests.{eqb-true, eqb-false, eq-eqb, ne_eqb, lt-ltb, le-ltb, ltb-true, ltb-false, leb-true, le-leb}
use Rattle.format.specs.Bytes.{MINUS}
use Rattle.format.specs.Limits.{max_axes, max_size, max_file_number}
use Rattle.format.specs.Words.{number, number_in, value_of_number, words}
use Rattle.format.specs.Decimals.{past_number, digits_of}
use Rattle.format.specs.DataFiles.{numbering, count_up, count_numbers, with_some, sized, step_said, numbering_said, axes_number, axes_said}
use Rattle.format.proofs.Bytes.{and_left, and_right}
use Rattle.read_text.specs.Numbers.{number_answer, size_answer}
use Rattle.std.specs.Prelude.{Some, None}
use Rattle.read_text.proofs.NumberLaws.{number_is, number_wrong, size_in, size_out}
use Rattle.read_decimals.specs.Parts.{number_from, digits_answer}
use Rattle.read_decimals.specs.declared.parts.Digits.{Digits}
use Rattle.read_decimals.proofs.DigitLaws.{suffix, number_missing, number_partly, number_whole}
use Rattle.read_text.specs.declared.numbers.Place.{Place}
use Rattle.read_files.specs.declared.numbering.NumberAt.{NumberAt}
use Rattle.read_files.specs.declared.numbering.Step.{Step}
use Rattle.read_files.specs.Parts.{begins, part, first_of, rest_of, Next, NumberRead, step_of, StepRead, numbering_of, Reach, NumberingRead}
use Rattle.read_files.specs.Said.{cover_code}
use Rattle.read_files.proofs.WordLaws.{digits_count, digits_number}

-- ---- a word as a number

module _ {t : List ℕ} {at : ℕ} {p : Place} (n : Next t at p) where
  pub number_read : (v : ℕ) → Some v ≡ number_answer (number (part p.from p.to t)) → NumberRead t at record { fine = true; value = v; end = p.to }
  number_read v e =
      let q = number_is (number (part p.from p.to t)) v e in
      let m : number (first_of (words (drop at t))) ≡ some v = rw (← n.word) q.0 in
      let k : v ≤ max_file_number = q.1 in
      record { fine = rw (m, le-leb 0 v (omega arith), le-leb v max_file_number k); value = λ f. rw m; bounded = k; rest = n.rest; within = n.within }

  pub number_none : None ≡ number_answer (number (part p.from p.to t)) → NumberRead t at record { fine = false; value = 0; end = p.to }
  number_none e =
      record {
        fine = rw (← n.word) (sym (number_wrong (number (part p.from p.to t)) e 0 max_file_number (omega arith)));
        value = λ f. absurd (false≢true f);
        bounded = omega arith;
        rest = n.rest;
        within = n.within;
      }

-- ---- a word as a step

-- by its first byte: a minus
pub step_is : (w : List ℕ) → (let m = begins MINUS w in step_said w ≡ sized m (drop (bool_byte m) w))
unfolding number
step_is [] = refl
step_is (b ∷ w) = go (eqb b MINUS)
  where
    go : (x : Bool) → (if x then sized true w else sized false (b ∷ w)) ≡ sized x (drop (bool_byte x) (b ∷ w))
    go true = refl
    go false = refl

-- by the size that is read, which is 0 for none
pub sized_is : (m : Bool) (u : List ℕ) (v : ℕ) → v ≡ size_answer (number u) → sized m u ≡ step_of m v
sized_is m u v e = go (eqb v 0) refl
  where
    go : (x : Bool) → eqb v 0 ≡ x → sized m u ≡ step_of m v
    go true q = rw (size_out (number u) (sym e ∙ eqb-true v 0 q), q)
    go false q = let k = size_in (number u) (λ z. eqb-false v 0 q (e ∙ z)) in rw (k.0, k.1, ← e, q)

pub size_bound : (o : Option ℕ) → size_answer o ≤ max_file_number
size_bound none = omega arith
size_bound (some n) = go (leb n max_size) refl
  where
    go : (x : Bool) → leb n max_size ≡ x → (if x then n else 0) ≤ max_file_number
    go true e = leb-true n max_size e
    go false e = omega arith

pub step_read : {t : List ℕ} {at : ℕ} {p : Place} (n : Next t at p) (m : Bool) (v : ℕ)
    → (let w = part p.from p.to t in m ≡ begins MINUS w → v ≡ size_answer (number (take (length w - bool_byte m) (drop (bool_byte m) w)))
    → StepRead t at record { falls = m; size = v; end = p.to })
step_read {t} {at} {p} n m v e q =
    let w = part p.from p.to t in
    let u = drop (bool_byte m) w in
    let k : v ≡ size_answer (number u) = rw (suffix w (bool_byte m)) at q in
    let s : step_said w ≡ sized m u = rw e (step_is w) in
    record {
      said = rw (← n.word) (s ∙ sized_is m u v k);
      bounded = rw k (size_bound (number u));
      rest = n.rest;
      within = n.within;
    }

-- ---- how many numbers there are

module _ (low high size : ℕ) where
  pub count_none : high < low → 0 ≡ count_up low high size
  count_none h = rw (lt-ltb high low h)

  pub count_some : low ≤ high → (high - low) / size + 1 ≡ count_up low high size
  count_some h = rw (le-ltb high low h)

  pub steps_few : high ≤ max_file_number → (high - low) / size ≤ max_file_number
  steps_few h = omega (arith, div-le_self (high - low) size)

  -- the last of them is not above the highest
  count_reach : (count_up low high size ≡ 0 → ⊥) → low + (count_up low high size - 1) * size ≤ high
  count_reach n = go (ltb high low) refl
    where
      go : (x : Bool) → ltb high low ≡ x → low + (count_up low high size - 1) * size ≤ high
      go true q = absurd (n (sym (count_none (ltb-true high low q))))
      go false q =
          let h = ltb-false high low q in
          let l : count_up low high size - 1 ≡ (high - low) / size = rw (← (count_some h)) (omega arith) in
          rw l (omega (arith, div-mul-le_self (high - low) size))

  count_few : high ≤ max_file_number → count_up low high size ≤ max_file_number + 1
  count_few h = go (ltb high low)
    where
      go : (x : Bool) → (if x then 0 else (high - low) / size + 1) ≤ max_file_number + 1
      go true = omega arith
      go false = omega (arith, steps_few h)

module _ (falls : Bool) (first last size : ℕ) where
  pub numbers_falling : (n : ℕ) → n ≡ count_up last first size → falls ≡ true → n ≡ count_numbers falls first last size
  numbers_falling n e f = rw f e

  pub numbers_rising : (n : ℕ) → n ≡ count_up first last size → falls ≡ false → n ≡ count_numbers falls first last size
  numbers_rising n e f = rw f e

pub numbers_few : (falls : Bool) (first last size : ℕ) → first ≤ max_file_number → last ≤ max_file_number → count_numbers falls first last size ≤ max_file_number + 1
numbers_few false first last size h k = count_few first last size k
numbers_few true first last size h k = count_few last first size h

pub numbers_reach : (falls : Bool) (first last size : ℕ) → (count_numbers falls first last size ≡ 0 → ⊥) → first ≤ max_file_number → last ≤ max_file_number
    → Reach first falls size (count_numbers falls first last size - 1)
numbers_reach false first last size n h k = let r = count_reach first last size n in omega arith
numbers_reach true first last size n h k = let r = count_reach last first size n in omega arith

-- ---- a numbering

-- first or last are no numbers
numbering_bad : (first last : List ℕ) (o : Option (Bool × ℕ)) → (number_in 0 max_file_number first && number_in 0 max_file_number last) ≡ false
    → numbering_said first last o ≡ none
numbering_bad first last none e = refl
numbering_bad first last (some s) e = rw e

-- by the count
pub count_zero : (n first size : ℕ) (falls : Bool) → n ≡ 0 → with_some first falls size n ≡ none
count_zero n first size falls e = rw e

pub count_said : (n first size : ℕ) (falls : Bool) → (n ≡ 0 → ⊥) → with_some first falls size n ≡ some (numbering first falls size (n - 1 + 1))
count_said n first size falls z = let m : n - 1 + 1 ≡ n = omega arith in rw (ne_eqb n 0 z, m)

no_numbering : (t : List ℕ) (at : ℕ) → numbering_of (words (drop at t)) ≡ none
    → NumberingRead t at record { fine = false; first = 0; falls = false; size = 0; last = 0; end = 0 }
no_numbering t at e =
    record {
      said = e;
      rest = λ f. absurd (false≢true f);
      within = omega arith;
      first = omega arith;
      size = omega arith;
      reach = λ f. absurd (false≢true f);
    }

-- the three words as they were read
module _ {t : List ℕ} {at : ℕ} {f l : NumberAt} {s : Step} (p : NumberRead t at f) (q : NumberRead t f.end l) (u : StepRead t l.end s) where
  last_rest : words (drop l.end t) ≡ rest_of (rest_of (words (drop at t)))
  last_rest = q.rest ∙ ap rest_of p.rest

  step_said_lem : step_said (first_of (rest_of (rest_of (words (drop at t))))) ≡ step_of s.falls s.size
  step_said_lem = rw (← last_rest) u.said

  last_fine : l.fine ≡ number_in 0 max_file_number (first_of (rest_of (words (drop at t))))
  last_fine = rw (← p.rest) q.fine

  last_value : l.fine ≡ true → l.value ≡ value_of_number (first_of (rest_of (words (drop at t))))
  last_value h = rw (← p.rest) (q.value h)

  pub numbers_bad : (f.fine && l.fine) ≡ false → NumberingRead t at record { fine = false; first = 0; falls = false; size = 0; last = 0; end = 0 }
  numbers_bad e =
      no_numbering t at
      (numbering_bad (first_of (words (drop at t))) (first_of (rest_of (words (drop at t)))) (step_said (first_of (rest_of (rest_of (words (drop at t)))))) (rw (← p.fine, ← last_fine) e))

  pub step_bad : s.size ≡ 0 → NumberingRead t at record { fine = false; first = 0; falls = false; size = 0; last = 0; end = 0 }
  step_bad e = no_numbering t at (rw (step_said_lem, e))

  -- all three are right, and there are c numbers
  module _ {c : ℕ} (e : (f.fine && l.fine) ≡ true) (n : s.size ≡ 0 → ⊥) (k : c ≡ count_numbers s.falls f.value l.value s.size) where
    counted : numbering_of (words (drop at t)) ≡ with_some f.value s.falls s.size c
    counted =
        let x : f.fine ≡ true = and_left f.fine l.fine e in
        let y : l.fine ≡ true = and_right f.fine l.fine e in
        rw (step_said_lem, ne_eqb s.size 0 n, ← p.fine, ← last_fine, e, ← (p.value x), ← (last_value y), k)

    pub count_bad : c ≡ 0 → NumberingRead t at record { fine = false; first = 0; falls = false; size = 0; last = 0; end = 0 }
    count_bad z = no_numbering t at (counted ∙ count_zero c f.value s.size s.falls z)

    pub numbers_read : (c ≡ 0 → ⊥) → NumberingRead t at record { fine = true; first = f.value; falls = s.falls; size = s.size; last = c - 1; end = s.end }
    numbers_read z =
        record {
          said = counted ∙ count_said c f.value s.size s.falls z;
          rest = λ h. u.rest ∙ ap rest_of last_rest;
          within = u.within;
          first = p.bounded;
          size = u.bounded;
          reach = λ h. rw k (numbers_reach s.falls f.value l.value s.size (λ o. z (k ∙ o)) p.bounded q.bounded);
        }

-- ---- the number of axes

module _ (w : List ℕ) {d : Digits} (q : d ≡ digits_answer 0 w) where
  count_is : d.count ≡ length (digits_of w)
  count_is = digits_count d w q

  value_is : d.number ≡ min (number_from 0 (digits_of w)) past_number
  value_is = digits_number d w q

  pub axes_empty : d.count ≡ 0 → 0 ≡ cover_code (axes_number (number w))
  axes_empty z = rw (number_missing w (sym count_is ∙ z))

  pub axes_partly : (d.count ≡ length w → ⊥) → 0 ≡ cover_code (axes_number (number w))
  axes_partly n = rw (number_partly w (λ e. n (count_is ∙ e)))

  module _ (n : d.count ≡ 0 → ⊥) (h : d.count ≡ length w) where
    axes_are : cover_code (axes_number (number w)) ≡ min (number_from 0 (digits_of w)) (max_axes + 1) + 2
    axes_are = rw (number_whole w (λ e. n (count_is ∙ e)) (sym count_is ∙ h))

    pub axes_few : d.number ≤ max_axes → d.number + 2 ≡ cover_code (axes_number (number w))
    axes_few k = let v = value_is in rw axes_are (omega arith)

    pub axes_many : max_axes < d.number → max_axes + 3 ≡ cover_code (axes_number (number w))
    axes_many k = let v = value_is in rw axes_are (omega arith)

-- the words: none, more than one, or one
module _ {t : List ℕ} {at : ℕ} {p : Place} (n : Next t at p) where
  pub axes_open : p.from ≡ p.to → 1 ≡ cover_code (axes_said (words (drop at t)))
  axes_open e = rw (n.list, eq-eqb p.from p.to e)

  module _ {r : Place} (m : p.from ≡ p.to → ⊥) (k : Next t p.to r) where
    pub axes_more : (r.from ≡ r.to → ⊥) → 0 ≡ cover_code (axes_said (words (drop at t)))
    axes_more e = rw (n.list, ne_eqb p.from p.to m, k.list, ne_eqb r.from r.to e)

    pub axes_one : r.from ≡ r.to → cover_code (axes_number (number (part p.from p.to t))) ≡ cover_code (axes_said (words (drop at t)))
    axes_one e = rw (n.list, ne_eqb p.from p.to m, k.list, eq-eqb r.from r.to e)
