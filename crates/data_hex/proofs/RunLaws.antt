-- Laws of a run of digits with no blank between them, stored as they are.
-- Assumes nothing.
use Prim.Native.Nat.{ℕ, zero, suc, ◌+◌, ◌-◌, ◌≤◌}
use native.Mathlib.Numerals.{add-one}
use native.Mathlib.Omega.{arith}
use mathlib.Core.Path.{◌≡◌, sym, ap, ◌∙◌}
use mathlib.Core.List.{List, ◌∷◌, ◌++◌}
use borrow.Rule.Slice.PartMut.{put_mid}
use Rattle.std.proofs.lemmas.Slice.{put_mid-paste}
use lib.ListN.{length, take, drop, get_or, set, length-set, length-drop}
use lib.Seq.{sets, sets-eq, drop-cons, length-take-le, take_all}
use Rattle.data_hex.specs.Forms.{Run, Moved}
use Rattle.data_hex.proofs.DigitLaws.{high_solid}
use Rattle.data_hex.proofs.BlockLaws.{kept}

module _ (s : List ℕ) where
  -- bytes above the blanks are stored as they are
  run_moved : (n i : ℕ) → i + n ≤ length s → Run s i n → (d : List ℕ) (o : ℕ) → o + n ≤ length d → Moved s i (i + n) d o (sets d o (take n (drop i s))) (o + n)
  run_moved zero i h r d o l =
      let y : i + zero ≡ i = omega arith in
      let z : o + zero ≡ o = omega arith in
      rw (y, z)
  run_moved (suc n) i h r d o l =
      let b = get_or s i 0 in
      let y : i + suc n ≡ suc i + n = omega arith in
      let z : o + suc n ≡ suc o + n = omega arith in
      let w : i + 0 ≡ i = omega arith in
      let first : Moved s i (suc i) d o (set d o b) (suc o) = rw (add-one i, add-one o) at (kept s i (omega arith) d o (omega arith) (high_solid b (rw w at (r 0 (omega arith))))) in
      let next : Run s (suc i) n = λ k e. let q : i + suc k ≡ suc i + k = omega arith in rw q at (r (suc k) (omega arith)) in
      let here : take (suc n) (drop i s) ≡ b ∷ take n (drop (suc i) s) = ap (take (suc n)) (drop-cons s i 0 (omega arith)) in
      rw (y, z, here) (run_moved n (suc i) (omega arith) next (set d o b) (suc o) (omega (arith, length-set d o b)) ∙ first)

  -- n of them, in one copy
  pub run_copied : (at n : ℕ) → at + n ≤ length s → Run s at n → (d xs : List ℕ) (o : ℕ) → o + n ≤ length d → xs ≡ take (at + n - at) (drop at s)
      → Moved s at (at + n) d o (put_mid o (o + n - o) d xs) (o + n)
  run_copied at n h r d xs o l e =
      let u = take n (drop at s) in
      let m : at + n - at ≡ n = omega arith in
      let k : length u ≡ n = length-take-le n (drop at s) (omega (arith, length-drop at s)) in
      let same : put_mid o (o + n - o) d xs ≡ sets d o u =
      put_mid-paste o (o + n - o) d xs u n (e ∙ ap (λ i. take i (drop at s)) m) (omega arith) (sym k)
      ∙ ap (λ i. take o d ++ take n u ++ drop (o + i) d) (sym k) ∙ ap (λ x. take o d ++ x ++ drop (o + length u) d) (take_all n u (omega (arith, k)))
      ∙ sym (sets-eq u d o (omega (arith, k))) in
      rw same (run_moved n at h r d o l)
