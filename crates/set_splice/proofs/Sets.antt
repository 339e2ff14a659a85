-- Laws of the loops that store a run into a list, or move a part inside it: what the list is after each turn.
-- Assumes nothing.
use mathlib.Core.Path.{◌≡◌, refl, sym, ap, ◌∙◌}
use mathlib.Core.List.{List, [], ◌∷◌, ◌++◌}
use Prim.Native.Nat.{ℕ, suc, ◌+◌, ◌-◌, ◌≤◌, ◌<◌}
use native.Mathlib.Nat.{sub-zero, add-zero, le_step}
use native.Mathlib.Omega.{arith}
use lib.ListN.{length, get_or, set, take, drop, length-drop}
use lib.Seq.{sets, drop-cons, take-add, drop-drop, take-set-le, drop-set-lt, drop-set-add, length-take-le}
use Rattle.format.proofs.Stores.{sets_append, sets_before}

module _ {ℓ} {A : Type ℓ} where
  -- what lies past a run, and what lies before it
  pub drop_sets : (vs l : List A) (i k : ℕ) → i + length vs ≤ k → drop k (sets l i vs) ≡ drop k l
  drop_sets [] l i k h = refl
  drop_sets (v ∷ vs) l i k h = drop_sets vs (set l i v) (suc i) k (omega arith) ∙ drop-set-lt k l i v (omega arith)

  part_set : (l : List A) (i k m : ℕ) (a : A) → k + m ≤ i → take m (drop k (set l i a)) ≡ take m (drop k l)
  part_set l i k m a h =
      ap (λ (e : ℕ). take m (drop k (set l e a))) (omega arith) ∙ ap (take m) (drop-set-add k l (i - k) a) ∙ take-set-le m (drop k l) (i - k) a (omega arith)

  pub part_sets : (vs l : List A) (i k m : ℕ) → k + m ≤ i → take m (drop k (sets l i vs)) ≡ take m (drop k l)
  part_sets [] l i k m h = refl
  part_sets (v ∷ vs) l i k m h = part_sets vs (set l i v) (suc i) k m (le_step h) ∙ part_set l i k m v h

  -- the part of one element
  pub part_one : (l : List A) (k : ℕ) (d : A) → k < length l → take 1 (drop k l) ≡ get_or l k d ∷ []
  part_one l k d h = ap (take 1) (drop-cons l k d h)

  -- ---- the turns of a loop. l is the list where the loop begins, d as it is now.

  -- m more elements of s, after the first j
  pub sets_next : (l s : List A) (i j m : ℕ) → j ≤ length s → sets (sets l i (take j s)) (i + j) (take m (drop j s)) ≡ sets l i (take (j + m) s)
  sets_next l s i j m h =
      ap (λ (k : ℕ). sets (sets l i (take j s)) (i + k) (take m (drop j s))) (sym (length-take-le j s h))
      ∙ sym (sets_append (take j s) (take m (drop j s)) l i)
      ∙ ap (sets l i) (sym (take-add j m s))

  -- a part of the list itself goes down: m elements more, after j
  pub down_turn : (l d : List A) (to from j m : ℕ) → to ≤ from → from + j ≤ length l → d ≡ sets l to (take j (drop from l))
      → sets d (to + j) (take m (drop (from + j) d)) ≡ sets l to (take (j + m) (drop from l))
  down_turn l d to from j m h f e =
      let s : List A = drop from l in
      let n : length (take j s) ≡ j = length-take-le j s (simp length-drop (omega arith)) in
      let past : drop (from + j) d ≡ drop j s = ap (drop (from + j)) e ∙ drop_sets (take j s) l to (from + j) (omega arith) ∙ sym (drop-drop j from l) in
      ap (λ (p : List A). sets d (to + j) (take m p)) past
      ∙ ap (λ (r : List A). sets r (to + j) (take m (drop j s))) e
      ∙ sets_next l s to j m (simp length-drop (omega arith))

  -- and up: m elements more, before the k-th of n
  pub up_turn : (l d : List A) (to from n k m : ℕ) → from ≤ to → from + n ≤ length l → m + k ≤ n → d ≡ sets l (to + (m + k)) (take (n - (m + k)) (drop (from + (m + k)) l))
      → sets d (to + k) (take m (drop (from + k) d)) ≡ sets l (to + k) (take (n - k) (drop (from + k) l))
  up_turn l d to from n k m h f g e =
      let u : List A = take m (drop (from + k) l) in
      let v : List A = take (n - (m + k)) (drop (from + (m + k)) l) in
      let lu : length u ≡ m = length-take-le m (drop (from + k) l) (simp length-drop (omega arith)) in
      let below : take m (drop (from + k) d) ≡ u = ap (λ (r : List A). take m (drop (from + k) r)) e ∙ part_sets v l (to + (m + k)) (from + k) m (omega arith) in
      let p₁ : from + (m + k) ≡ from + k + m = omega arith in
      let p₂ : m + (n - (m + k)) ≡ n - k = omega arith in
      let p₃ : to + (m + k) ≡ to + k + length u = omega arith in
      let join : u ++ v ≡ take (n - k) (drop (from + k) l) =
      ap (λ (r : List A). u ++ take (n - (m + k)) r) (ap (λ (i : ℕ). drop i l) p₁ ∙ sym (drop-drop m (from + k) l))
      ∙ sym (take-add m (n - (m + k)) (drop (from + k) l))
      ∙ ap (λ (i : ℕ). take i (drop (from + k) l)) p₂ in
      ap (sets d (to + k)) below
      ∙ ap (λ (r : List A). sets r (to + k) u) (e ∙ ap (λ (i : ℕ). sets l i v) p₃)
      ∙ sets_before u v l (to + k)
      ∙ ap (sets l (to + k)) join

  -- the same from the i-th on, down to the k-th
  pub up_step : (l d : List A) (to from n i k : ℕ) → from ≤ to → from + n ≤ length l → k ≤ i → i ≤ n → d ≡ sets l (to + i) (take (n - i) (drop (from + i) l))
      → sets d (to + k) (take (i - k) (drop (from + k) d)) ≡ sets l (to + k) (take (n - k) (drop (from + k) l))
  up_step l d to from n i k h f g w e =
      let q : i ≡ (i - k) + k = omega arith in
      up_turn l d to from n k (i - k) h f (omega arith) (e ∙ ap (λ (j : ℕ). sets l (to + j) (take (n - j) (drop (from + j) l))) q)

  -- and the last ones, of all that are left
  pub up_last : (l d : List A) (to from n k : ℕ) → from ≤ to → from + n ≤ length l → k ≤ n → d ≡ sets l (to + k) (take (n - k) (drop (from + k) l))
      → sets d to (take k (drop from d)) ≡ sets l to (take n (drop from l))
  up_last l d to from n k h f g e = simp (add-zero, sub-zero) at (up_step l d to from n k 0 h f (omega arith) g e)

  pub down_step : (l d : List A) (to from i j : ℕ) → to ≤ from → from + i ≤ length l → i ≤ j → d ≡ sets l to (take i (drop from l))
      → sets d (to + i) (take (j - i) (drop (from + i) d)) ≡ sets l to (take j (drop from l))
  down_step l d to from i j h f g e =
      let q : i + (j - i) ≡ j = omega arith in
      down_turn l d to from i (j - i) h f e ∙ ap (λ (m : ℕ). sets l to (take m (drop from l))) q
