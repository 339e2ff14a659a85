-- Laws of the loops that fill an array with columns of lent bytes: what is left to fill after each turn.
-- Assumes nothing.
use mathlib.Core.Path.{◌≡◌, refl, sym, ap, ◌∙◌}
use mathlib.Core.List.{List, ◌++◌, append-nil}
use Prim.Native.Nat.{ℕ, zero, suc, ◌+◌, ◌*◌, ◌-◌, ◌≤◌, ◌<◌}
use native.Mathlib.Nat.{sub-zero}
use native.Mathlib.Omega.{arith}
use lib.ListN.{length, take, drop, set, length-set}
use lib.Seq.{sets, drop-drop, drop-length}
use Rattle.format.specs.declared.Decimal.{Decimal}
use Rattle.format.specs.Boundary.{decimals_lent}
use Rattle.format.specs.EntryPoints.{columns_lent}
use Rattle.lent_numbers.proofs.Stores.{sets_over}
use Rattle.write_parts.proofs.Runs.{set_then}

-- the columns that are left, from place `at` of s on
abbrev rest : ℕ → ℕ → List ℕ → ℕ → List (List Decimal)
rest n at s i = columns_lent (n - i) (drop (at + 128 * i) s)

-- m as it is where column i of n goes to its place
pub record Filling (n at : ℕ) (s : List ℕ) (m : List (List Decimal)) (i : ℕ) : Type 0 where
  pub few : i ≤ n
  pub long : length m ≡ n
  pub left : columns_lent n (drop at s) ≡ sets m i (rest n at s i)

length_columns : (n : ℕ) (s : List ℕ) → length (columns_lent n s) ≡ n
unfolding columns_lent
length_columns zero s = refl
length_columns (suc n) s = ap suc (length_columns n (drop 128 s))

pub filling_none : (n at : ℕ) (s : List ℕ) (m : List (List Decimal)) → length m ≡ n → Filling n at s m 0
filling_none n at s m l =
    let a : at + 128 * 0 ≡ at = omega arith in
    let whole : List (List Decimal) = columns_lent n (drop at s) in
    let k : length whole ≡ length m = length_columns n (drop at s) ∙ sym l in
    record {
      few = omega arith;
      long = l;
      left = sym (rw (sub-zero n, a) (sets_over whole m (omega (arith, k)) ∙ ap (λ (j : ℕ). whole ++ drop j m) k ∙ ap (λ (r : List (List Decimal)). whole ++ r) (drop-length m) ∙ append-nil whole));
    }

module _ {n at : ℕ} {s : List ℕ} {m : List (List Decimal)} {i : ℕ} (p : Filling n at s m i) where
  pub filling_more : i < n → {v : List Decimal} → v ≡ decimals_lent (take 128 (drop (at + 128 * i) s)) → Filling n at s (set m i v) (i + 1)
  unfolding columns_lent
  filling_more h {v} e =
      let q : n - i ≡ suc (n - (i + 1)) = omega arith in
      let a : at + 128 * i + 128 ≡ at + 128 * (i + 1) = omega arith in
      record {
        few = omega arith;
        long = length-set m i v ∙ p.long;
        left = p.left ∙ rw (q, drop-drop 128 (at + 128 * i) s, a, sym e) (sym (set_then m (rest n at s (i + 1)) i v));
      }

  pub filling_done : n ≤ i → m ≡ columns_lent n (drop at s)
  unfolding columns_lent
  filling_done h =
      let z : n - i ≡ 0 = omega arith in
      sym (p.left ∙ ap (λ (k : ℕ). sets m i (columns_lent k (drop (at + 128 * i) s))) z)
