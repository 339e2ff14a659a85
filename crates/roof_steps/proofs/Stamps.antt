-- Laws of stamps: a sample that is read and its stamp, the stamps from a row on, and the search for the first wrong row.
-- Assumes nothing.
use Rattle.std.specs.Prelude.{if◌then◌else◌}
use Rattle.std.proofs.Common.{◌≡◌, ℕ, zero, suc, ◌+◌, ◌-◌, ◌*◌, ◌/◌, ◌%◌, ◌<◌, ◌≤◌, Bool, true, false, ltb, List, ◌∷◌, length, get_or, take, drop, ℤ, pos, negsuc, sym, refl, ap, ◌∙◌, add-zero, mul-le-mul_right, mul-le-mul_left, arith, length-drop, length-take-le, get_or-drop, drop-drop, to_z-of_z, w64, to_z, of_z}
use mathlib.Core.Option.{none, some}
use lib.Signed.{mag}
use Rattle.format.specs.Samples.{from_bytes, to_signed, from_signed, sample_value}
use Rattle.format.specs.Boundary.{samples_lent}
use Rattle.format.proofs.Boundary.{lent_room, length_samples, sample_at}
use Rattle.roof_steps.specs.Steps.{counter_values, stamp_of, step_of, is_right, stamps, wrong_from, first_wrong, wrong_left}

-- ---- samples that are read

-- the stamp of the sample whose bits are x
pub stamp_bits : (x : ℕ) → x < 18446744073709551616 → x % counter_values ≡ stamp_of (to_signed 8 x)
unfolding stamp_of
stamp_bits x h = go (ltb x 9223372036854775808)
  where
    go : (t : Bool) → x % counter_values ≡ from_signed 8 (if t then pos x else negsuc (18446744073709551615 - x)) % counter_values
    go true = refl
    go false =
        let e : x ≡ 18446744073709551615 - (18446744073709551615 - x) = omega arith in
        ap (λ (n : ℕ). n % counter_values) e

-- ---- rows

module _ (s : List ℤ) (rows m i : ℕ) (less : i < rows) where
  -- the first sample of row i is in the list
  pub in_list : 1 ≤ m → rows * m ≤ length s → i * m < length s
  in_list one fit =
      let p : suc i * m ≤ rows * m = mul-le-mul_right m less in
      let e : suc i * m ≡ i * m + m = omega arith in
      omega arith

  -- and there are no fewer samples than rows
  pub row_within : 1 ≤ m → rows * m ≤ length s → i < length s
  row_within one fit =
      let p : i * 1 ≤ i * m = mul-le-mul_left i one in
      omega (arith, in_list one fit)

  -- the stamps from row i on: its own, and those from row i + 1 on
  pub stamps_next : stamps (rows - i) m (drop (i * m) s) ≡ stamp_of (get_or s (i * m) (pos 0)) ∷ stamps (rows - (i + 1)) m (drop ((i + 1) * m) s)
  unfolding stamps
  stamps_next =
      let n : rows - i ≡ suc (rows - (i + 1)) = omega arith in
      let e : i * m + m ≡ (i + 1) * m = omega arith in
      rw (n, get_or-drop (i * m) s 0 (pos 0), drop-drop m (i * m) s, e, add-zero (i * m))

-- ---- the search

-- before row 1
pub begun : (s : List ℤ) (rows m largest before : ℕ) → 0 < rows → before ≡ stamp_of (get_or s 0 (pos 0)) → wrong_left largest rows m s 1 before ≡ first_wrong largest (stamps rows m s)
unfolding stamps
begun s zero m largest before l e = absurd (omega arith)
begun s (suc n) m largest before l e =
    let p : suc n - 1 ≡ n = omega arith in
    let q : 1 * m ≡ m = omega arith in
    rw (e, p, q)

-- after the last row
pub ended : (s : List ℤ) (rows m largest i before : ℕ) → rows ≤ i → wrong_left largest rows m s i before ≡ none
unfolding stamps wrong_from
ended s rows m largest i before l =
    let p : rows - i ≡ 0 = omega arith in
    rw p

-- one turn, with the stamp and the step that the calls gave
module _ (s : List ℤ) (rows m largest i before t d : ℕ) (less : i < rows) (stamp : t ≡ stamp_of (get_or s (i * m) (pos 0))) (step : d ≡ step_of before t) where
  abbrev rest : List ℕ
  rest = stamps (rows - (i + 1)) m (drop ((i + 1) * m) s)

  turn : (b : Bool) → is_right largest d ≡ b → wrong_left largest rows m s i before ≡ (if b then wrong_from largest (i + 1) t rest else some i)
  unfolding wrong_from
  turn b y =
      ap (wrong_from largest i before) (stamps_next s rows m i less ∙ ap (λ (k : ℕ). k ∷ rest) (sym stamp))
      ∙ ap (λ (c : Bool). if c then wrong_from largest (i + 1) t rest else some i) (ap (is_right largest) (sym step) ∙ y)

  pub went : is_right largest d ≡ true → wrong_left largest rows m s i before ≡ wrong_left largest rows m s (i + 1) t
  went y = turn true y

  pub stopped : is_right largest d ≡ false → wrong_left largest rows m s i before ≡ some i
  stopped y = turn false y
