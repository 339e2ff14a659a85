-- The laws that make the definitions of stamps and steps believable, as one statement: `StepLaws`. proofs/ proves them.
use Rattle.std.specs.Prelude.{◌≡◌, ℕ, ◌+◌, ◌*◌, ◌%◌, ◌<◌, true, false, List, length, ℤ, pos, slice_index, slice_index_or}
use Rattle.std.proofs.Math.Option.{Option, none, some}
use Rattle.roof_steps.specs.Steps.{counter_values, stamp_of, step_of, is_right, stamps, first_wrong}

-- the step to row r + 1 from the row before it
abbrev pub step_after : List ℕ → ℕ → ℕ
step_after ts r = step_of (slice_index ts r) (slice_index ts (r + 1))

-- this row, the one after row `before`, is the first whose step from the row before it is wrong
pub record FirstWrong (largest : ℕ) (ts : List ℕ) (row : ℕ) : Type 0 where
  pub before : ℕ
  pub next : row ≡ before + 1
  pub there : row < length ts
  pub wrong : is_right largest (step_after ts before) ≡ false
  pub right : (q : ℕ) → q < before → is_right largest (step_after ts q) ≡ true

-- what an answer of the search says of the stamps: no step is wrong, or this row's is the first wrong one
abbrev pub Says : ℕ → List ℕ → Option ℕ → Type 0
Says largest ts none = (q : ℕ) → q + 1 < length ts → is_right largest (step_after ts q) ≡ true
Says largest ts (some row) = FirstWrong largest ts row

pub record StepLaws : Type 0 where
  -- what the search answers is so, for any stamps and any largest step
  pub says : (largest : ℕ) (ts : List ℕ) → Says largest ts (first_wrong largest ts)
  -- the counter, moved on by the step, shows the next stamp
  pub adds : (before after : ℕ) → before < counter_values → after < counter_values → (before + step_of before after) % counter_values ≡ after
  -- a step has 32 bits
  pub below : (before after : ℕ) → step_of before after < counter_values
  -- the stamp of a sample that has 32 bits is the sample itself
  pub stamp_is : (n : ℕ) → n < counter_values → stamp_of (pos n) ≡ n
  -- there is one stamp for each row
  pub as_many : (rows m : ℕ) (zs : List ℤ) → length (stamps rows m zs) ≡ rows
  -- the stamp of row r is that of its first sample, which stands after r rows of m samples
  pub stamp_at : (rows m : ℕ) (zs : List ℤ) (r : ℕ) → r < rows → slice_index (stamps rows m zs) r ≡ stamp_of (slice_index_or zs (r * m) (pos 0))
