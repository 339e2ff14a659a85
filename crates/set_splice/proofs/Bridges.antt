-- What std's words for a part of a list that is replaced are in the repository's.
-- Assumes nothing.
use Rattle.std.proofs.Common.{◌≡◌, ℕ, ◌+◌, ◌-◌, ◌≤◌, List, ◌++◌, length, take, drop, ap, sym, ◌∙◌, arith, length-drop, length-take-le, take_all, take-append-drop}
use mathlib.Core.List.{append_assoc}
use lib.Seq.{sets, sets-eq, paste, drop-drop}
use borrow.Rule.Slice.PartMut.{put_mid}
use Rattle.std.proofs.lemmas.Slice.{put_mid-paste}

module _ {A : Type 0} (d : List A) where
  pub paste_sets : (s : List A) (at n : ℕ) → at + n ≤ length d → n ≤ length s → paste d at s n ≡ sets d at (take n s)
  paste_sets s at n h l =
      let k : length (take n s) ≡ n = length-take-le n s l in
      ap (λ m. take at d ++ take n s ++ drop (at + m) d) (sym k) ∙ sym (sets-eq (take n s) d at (omega (arith, k)))

  -- the part of d from `at` on, as long as s, replaced by s
  pub put_sets : (xs s : List A) (at end : ℕ) → at ≤ end → end ≤ length d → end - at ≡ length s → xs ≡ s → put_mid at (end - at) d xs ≡ sets d at s
  put_sets xs s at end g h l e =
      let n : length s ≡ end - at = sym l in
      put_mid-paste at (end - at) d xs s (end - at) e (omega arith) l
      ∙ paste_sets s at (end - at) (omega arith) (omega (arith, n))
      ∙ ap (sets d at) (take_all (end - at) s (omega (arith, n)))

  -- a part of d replaced by itself
  pub sets_same : (at n : ℕ) → at + n ≤ length d → d ≡ sets d at (take n (drop at d))
  sets_same at n h =
      let k : length (take n (drop at d)) ≡ n = length-take-le n (drop at d) (omega (arith, length-drop at d)) in
      sym (
      sets-eq (take n (drop at d)) d at (omega (arith, k))
      ∙ ap (λ m. take at d ++ take n (drop at d) ++ drop (at + m) d) k
      ∙ ap (λ r. take at d ++ take n (drop at d) ++ r) (sym (drop-drop n at d))
      ∙ append_assoc (take at d) (take n (drop at d)) (drop n (drop at d))
      ∙ ap (λ r. take at d ++ r) (take-append-drop n (drop at d))
      ∙ take-append-drop at d
      )
