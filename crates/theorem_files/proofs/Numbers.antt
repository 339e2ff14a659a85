-- The numbers of a pattern are those from the first to the last, by its step.
-- Assumes nothing.
use Rattle.std.specs.Prelude.{if◌then◌else◌}
use Prim.Native.Nat.{ℕ, ◌+◌, ◌*◌, ◌-◌, ◌/◌, ◌≤◌, ◌<◌}
use native.Mathlib.Nat.{eq_of_mul-eq-mul_right, le-div_iff_mul-le}
use native.Mathlib.Omega.{arith}
use mathlib.Core.Path.{◌≡◌, refl, subst}
use mathlib.Core.Bool.{Bool, true, false, false≢true, ◌&&◌, and-eq-true_iff}
use mathlib.Core.List.{List, [], ◌∷◌}
use mathlib.Core.Option.{Option, none, some, none-ne-some, some-injective}
use lib.Dec.{eqb, ltb, leb}
use borrow.Author.Tests.{ltb-true, ltb-false, leb-true, le-leb, eqb-false, ne_eqb}
use Rattle.format.specs.Bytes.{or_default, MINUS}
use Rattle.format.specs.Limits.{max_file_number}
use Rattle.format.specs.Words.{number, within, number_in, value_of_number}
use Rattle.format.specs.Decimals.{is_minus}
use Rattle.format.specs.DataFiles.{Numbering, numbering, count_up, count_numbers, with_some, sized, step_said, numbering_said}
use Rattle.format.specs.FileNames.{number_at}
use Rattle.theorem_files.specs.Files.{Further, NotPast, NumbersRun}

-- ---- how many

-- low + n × size is at most high exactly for the n that are counted
count_up_lem : (low high size n : ℕ) → 1 ≤ size → (n < count_up low high size → low + n * size ≤ high) × (low + n * size ≤ high → n < count_up low high size)
count_up_lem low high size n h = go (ltb high low) refl
  where
    go : (x : Bool) → ltb high low ≡ x
        → (n < (if x then 0 else (high - low) / size + 1) → low + n * size ≤ high) × (low + n * size ≤ high → n < (if x then 0 else (high - low) / size + 1))
    go true q = (λ l. absurd (omega arith), λ l. absurd (omega (arith, ltb-true high low q)))
    go false q =
        let d = le-div_iff_mul-le {k = size} {x = n} {y = high - low} h in
        let o = ltb-false high low q in
        (λ l. omega (arith, o, d.0 (omega arith)), λ l. omega (arith, d.1 (omega arith)))

-- the number that is d further than f is not past l
abbrev Reached : Bool → ℕ → ℕ → ℕ → Type 0
Reached false f l d = f + d ≤ l
Reached true f l d = l + d ≤ f

-- the n-th number is there exactly where it is not past the last
reached : (falls : Bool) (f l size n : ℕ) → 1 ≤ size
    → (n < count_numbers falls f l size → Reached falls f l (n * size)) × (Reached falls f l (n * size) → n < count_numbers falls f l size)
reached false f l size n h = count_up_lem f l size n h
reached true f l size n h = count_up_lem l f size n h

-- ---- what the words say

-- a number in a range
pub said_in : (a z : ℕ) (t : List ℕ) → number_in a z t ≡ true → (number t ≡ some (value_of_number t)) × (a ≤ value_of_number t) × (value_of_number t ≤ z)
said_in a z t e = go (number t) e
  where
    go : (o : Option ℕ) → within a z o ≡ true → (o ≡ some (or_default 0 o)) × (a ≤ or_default 0 o) × (or_default 0 o ≤ z)
    go none e = absurd (false≢true e)
    go (some n) e =
        let p = (and-eq-true_iff (leb a n) (leb n z)).0 e in
        (refl, leb-true a n p.0, leb-true n z p.1)

-- the size of a step, and whether the numbers fall
step_sized : (t : List ℕ) {falls : Bool} {size : ℕ} → step_said t ≡ some (falls, size) → (falls ≡ is_minus t) × (1 ≤ size) × (size ≤ max_file_number)
step_sized [] e = absurd (none-ne-some _ e)
step_sized (b ∷ t) {falls} {size} e = go (eqb b MINUS) e
  where
    Sized : Bool → Bool × ℕ → Type 0
    Sized x p = (p.0 ≡ x) × (1 ≤ p.1) × (p.1 ≤ max_file_number)

    by : (x y : Bool) (p : Bool × ℕ) → (y ≡ true → Sized x p) → (if y then some p else none) ≡ some (falls, size) → Sized x (falls, size)
    by x true p h e = subst (Sized x) (some-injective p (falls, size) e) (h refl)
    by x false p h e = absurd (none-ne-some _ e)

    of : (x : Bool) (s : List ℕ) → sized x s ≡ some (falls, size) → Sized x (falls, size)
    of x s e = by x (number_in 1 max_file_number s) (x, value_of_number s) (λ q. let r = said_in 1 max_file_number s q in (refl, r.1, r.2)) e

    go : (x : Bool) → (if x then sized true t else sized false (b ∷ t)) ≡ some (falls, size) → Sized x (falls, size)
    go true e = of true t e
    go false e = of false (b ∷ t) e

-- ---- the numbers one by one

module _ (f l : ℕ) where
  from_first : (falls : Bool) (size count n : ℕ) → Reached falls f l (n * size)
      → Further falls (n * size) f (number_at (numbering f falls size count) n) × NotPast falls (number_at (numbering f falls size count) n) l
  from_first false size count n h = (omega arith, omega arith)
  from_first true size count n h = (omega arith, omega arith)

  to_last : (falls : Bool) (d a : ℕ) → Further falls d f a → NotPast falls a l → Reached falls f l d
  to_last false d a e h = omega arith
  to_last true d a e h = omega arith

  steps_same : (falls : Bool) (size count n m : ℕ) → Reached falls f l (n * size) → Reached falls f l (m * size)
      → number_at (numbering f falls size count) n ≡ number_at (numbering f falls size count) m → n * size ≡ m * size
  steps_same false size count n m h k e = omega arith
  steps_same true size count n m h k e = omega arith

  no_steps : (falls : Bool) (size : ℕ) → NotPast falls f l → Reached falls f l (0 * size)
  no_steps false size h = omega arith
  no_steps true size h = omega arith

-- ---- the statements

module _ (first last step : List ℕ) (falls : Bool) (size : ℕ) (step_is : step_said step ≡ some (falls, size)) where
  steps : (1 ≤ size) × (size ≤ max_file_number)
  steps = let h = step_sized step step_is in (h.1, h.2)

  module _ (f l : ℕ) (first_is : number first ≡ some f) (first_in : f ≤ max_file_number) (last_is : number last ≡ some l) (last_in : l ≤ max_file_number) where
    abbrev count : ℕ
    count = count_numbers falls f l size

    there : (n : ℕ) → (n < count → Reached falls f l (n * size)) × (Reached falls f l (n * size) → n < count)
    there n = reached falls f l size n steps.0

    run : 1 ≤ count → NumbersRun first last step (numbering f falls size count)
    run h =
        record {
          f = f;
          l = l;
          falls = falls;
          size = size;
          first_is = (first_is, first_in);
          last_is = (last_is, last_in);
          step_is = (step_is, steps.0, steps.1);
          falls_is = (step_sized step step_is).0;
          not_none = h;
          each = λ n h. from_first f l falls size count n ((there n).0 h);
          all = λ n a e h. omega (arith, (there n).1 (to_last f l falls (n * size) a e h));
          apart = λ n m h k e. eq_of_mul-eq-mul_right size steps.0 n m (steps_same f l falls size count n m ((there n).0 h) ((there m).0 k) e);
        }

    pub taken : NotPast falls f l → (c : ℕ) × (numbering_said first last (step_said step) ≡ some (numbering f falls size c))
    taken h =
        let c : 1 ≤ count = (there 0).1 (no_steps f l falls size h) in
        (count, rw (step_is, first_is, last_is, le-leb 0 f (omega arith), le-leb f max_file_number first_in, le-leb 0 l (omega arith), le-leb l max_file_number last_in, ne_eqb count 0 (omega arith)))

  run_of : (k : Numbering) → numbering_said first last (some (falls, size)) ≡ some k → NumbersRun first last step k
  run_of k e = go (number_in 0 max_file_number first) refl (number_in 0 max_file_number last) refl e
    where
      c : ℕ
      c = count_numbers falls (value_of_number first) (value_of_number last) size

      by : number_in 0 max_file_number first ≡ true → number_in 0 max_file_number last ≡ true
          → (x : Bool) → eqb c 0 ≡ x → (if x then none else some (numbering (value_of_number first) falls size c)) ≡ some k → NumbersRun first last step k
      by p q true r e = absurd (none-ne-some _ e)
      by p q false r e =
          let a = said_in 0 max_file_number first p in
          let b = said_in 0 max_file_number last q in
          subst (NumbersRun first last step) (some-injective _ k e) (run (value_of_number first) (value_of_number last) a.0 a.2 b.0 b.2 (omega (arith, eqb-false c 0 r)))

      go : (x : Bool) → number_in 0 max_file_number first ≡ x → (y : Bool) → number_in 0 max_file_number last ≡ y
          → (if x && y then with_some (value_of_number first) falls size c else none) ≡ some k → NumbersRun first last step k
      go true p true q e = by p q (eqb c 0) refl e
      go true p false q e = absurd (none-ne-some _ e)
      go false p y q e = absurd (none-ne-some _ e)

pub numbers_run : (first last step : List ℕ) (k : Numbering) → numbering_said first last (step_said step) ≡ some k → NumbersRun first last step k
numbers_run first last step k e = go (step_said step) refl e
  where
    go : (o : Option (Bool × ℕ)) → step_said step ≡ o → numbering_said first last o ≡ some k → NumbersRun first last step k
    go none q e = absurd (none-ne-some _ e)
    go (some (falls, size)) q e = run_of first last step falls size q k e
