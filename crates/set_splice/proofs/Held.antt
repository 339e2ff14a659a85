-- What `splice_pair` leaves, three runs of stores, is the buffer that holds the edited file.
-- Assumes nothing.
use mathlib.Core.Path.{◌≡◌, sym, ap, ◌∙◌}
use mathlib.Core.List.{List, [], ◌∷◌, ◌++◌, append_assoc}
use Prim.Native.Nat.{ℕ, zero, suc, ◌+◌, ◌-◌, ◌≤◌, max}
use native.Mathlib.Nat.{sub-zero, zero-sub, suc-sub-suc}
use native.Mathlib.Omega.{arith}
use lib.ListN.{length, take, drop, replicate, length-append, length-take, length-drop, length-replicate}
use lib.Seq.{sets, sets-eq, take-take, take-nil, length-take-le}
use Rattle.format.specs.Settings.{refilled}
use Rattle.format.proofs.Stores.{sets_append, sets_before}
use Rattle.set_splice.specs.Edited.{edited}

module _ {ℓ} {A : Type ℓ} where
  -- the two ways to say a part
  drop_take : (m n : ℕ) (l : List A) → drop m (take n l) ≡ take (n - m) (drop m l)
  drop_take zero n l = ap (λ (k : ℕ). take k l) (sym (sub-zero n))
  drop_take (suc m) zero l = ap (λ (k : ℕ). take k (drop (suc m) l)) (sym (zero-sub (suc m)))
  drop_take (suc m) (suc n) [] = sym (take-nil (suc n - suc m))
  drop_take (suc m) (suc n) (x ∷ l) = drop_take m n l ∙ ap (λ (k : ℕ). take k (drop m l)) (sym (suc-sub-suc n m))

pub length_edited : (f new : List ℕ) (from to : ℕ) → from ≤ length f → to ≤ length f
    → length (edited f from to new) ≡ from + length new + (length f - to)
unfolding edited
length_edited f new from to h k = simp (length-append, length-take, length-drop) (omega arith)

module _ (b new : List ℕ) (used from to front : ℕ) (h₁ : from ≤ used) (h₂ : to ≤ used) (h₃ : used ≤ length b) (e : front ≡ from + length new) where
  abbrev end : ℕ
  end = front + (used - to)

  abbrev tail : List ℕ
  tail = take (used - to) (drop to b)

  abbrev zeros : List ℕ
  zeros = replicate (used - end) 0

  splice_eq : end ≤ length b → sets (sets (sets b front tail) from new) end zeros ≡ refilled b used (edited (take used b) from to new)
  unfolding edited refilled
  splice_eq h₄ =
      let lu : length (take used b) ≡ used = length-take-le used b h₃ in
      let lt : length tail ≡ used - to = length-take-le (used - to) (drop to b) (simp length-drop (omega arith)) in
      let e₁ : end ≡ from + length (new ++ tail) = simp length-append (omega arith) in
      let e₂ : from + length (new ++ tail ++ zeros) ≡ max used end = simp (length-append, length-replicate) (omega arith) in
      let e₃ : length (take from (take used b) ++ (new ++ drop to (take used b))) ≡ end =
      length_edited (take used b) new from to (omega arith) (omega arith) ∙ omega arith in
      ap (λ (k : ℕ). sets (sets (sets b k tail) from new) end zeros) e
      ∙ ap (λ (r : List ℕ). sets r end zeros) (sets_before new tail b from)
      ∙ ap (λ (k : ℕ). sets (sets b from (new ++ tail)) k zeros) e₁
      ∙ sym (sets_append (new ++ tail) zeros b from)
      ∙ sets-eq (new ++ tail ++ zeros) b from (simp (length-append, length-replicate) (omega arith))
      ∙ ap (λ (k : ℕ). take from b ++ (new ++ tail ++ zeros) ++ drop k b) e₂
      ∙ rw (e₃, take-take, drop_take) (simp append_assoc)

  -- the same of the lists b₁, b₂ and b₃ that the move, the text and the zeros leave
  pub splice_done : (b₁ b₂ b₃ : List ℕ) → end ≤ length b → b₁ ≡ sets b front tail → b₂ ≡ sets b₁ from new → b₃ ≡ sets b₂ end zeros
      → b₃ ≡ refilled b used (edited (take used b) from to new)
  splice_done b₁ b₂ b₃ h p q s = s ∙ ap (λ (d : List ℕ). sets d end zeros) (q ∙ ap (λ (d : List ℕ). sets d from new) p) ∙ splice_eq h

  -- where nothing is vacated, there are no zeros
  pub no_zeros : used ≤ end → (d : List ℕ) → d ≡ sets d end zeros
  no_zeros h d =
      let z : used - end ≡ 0 = omega arith in
      rw z
