-- Laws of lists that are written from a place or from the front on.
-- Assumes nothing.
use Prim.Native.Nat.{ℕ, zero, suc, ◌+◌, ◌*◌, ◌≤◌, ◌<◌, min}
use native.Mathlib.Nat.{zero-add, suc-add, mul-zero, mul-suc}
use native.Mathlib.Omega.{arith}
use mathlib.Core.Path.{◌≡◌, refl, sym, ap, ◌∙◌}
use mathlib.Core.Bool.{Bool, true, false}
use mathlib.Core.List.{List, [], ◌∷◌, ◌++◌, append_assoc, flat_map}
use lib.Dec.{leb}
use lib.ListN.{length, take, drop, get_or, set, length-append, length-set}
use lib.Seq.{sets, sets-eq, take_all, drop_at, length-take-le}
use borrow.Author.Tests.{leb-true, leb-false}
use Rattle.format.specs.Bytes.{over}
use Rattle.format.proofs.Stores.{sets_then, take_more}
use Rattle.format.proofs.Boundary.{flat_length}

module _ {ℓ} {A : Type ℓ} where
  -- a run past a front
  sets_suc : (x : A) (l v : List A) (i : ℕ) → sets (x ∷ l) (suc i) v ≡ x ∷ sets l i v
  sets_suc x l [] i = refl
  sets_suc x l (a ∷ v) i = sets_suc x (set l i a) v (suc i)

  sets_past : (u t v : List A) (i : ℕ) → sets (u ++ t) (length u + i) v ≡ u ++ sets t i v
  sets_past [] t v i = ap (λ (k : ℕ). sets t k v) (zero-add i)
  sets_past (x ∷ u) t v i =
      ap (λ (k : ℕ). sets (x ∷ (u ++ t)) k v) (suc-add (length u) i) ∙ sets_suc x (u ++ t) v (length u + i) ∙ ap (λ (l : List A). x ∷ l) (sets_past u t v i)

  -- a run from the front on
  pub sets_over : (l d : List A) → length l ≤ length d → sets d 0 l ≡ over l d
  sets_over l d h =
      let z : 0 + length l ≡ length l = omega arith in
      sets-eq l d 0 (omega arith) ∙ rw z

  -- a run after what is at the front
  pub over_then : (p v d : List A) (i : ℕ) → length p ≡ i → i + length v ≤ length d → sets (over p d) i v ≡ over (p ++ v) d
  over_then p v d i e h =
      ap (λ (r : List A). sets r i v) (sym (sets_over p d (omega arith)))
      ∙ sets_then d p v 0 i (omega arith)
      ∙ sets_over (p ++ v) d (omega (arith, length-append p v))

  -- one turn of a loop that copies ns to the front of t
  pub over_more : (ns t t₀ : List A) (i : ℕ) (v z : A) → t ≡ over (take i ns) t₀ → v ≡ get_or ns i z → i < length ns → i < length t₀ → set t i v ≡ over (take (i + 1) ns) t₀
  over_more ns t t₀ i v z e q h l =
      let k : length (take i ns) ≡ i = length-take-le i ns (omega arith) in
      ap (λ (r : List A). set r i v) e
      ∙ over_then (take i ns) (v ∷ []) t₀ i k (omega arith)
      ∙ ap (λ (r : List A). over r t₀) (ap (λ (x : A). take i ns ++ (x ∷ [])) q ∙ sym (take_more ns i z h))

  -- as many elements as are asked for and are there
  pub take_least : (t : List A) (a n : ℕ) → n ≡ min a (length t) → take n t ≡ take a t
  take_least t a n e = go (leb a (length t)) refl
    where
      go : (b : Bool) → leb a (length t) ≡ b → take n t ≡ take a t
      go true h =
          let q : n ≡ a = omega (arith, leb-true a (length t) h) in
          rw q
      go false h = take_all n t (omega (arith, leb-false a (length t) h)) ∙ sym (take_all a t (omega (arith, leb-false a (length t) h)))

-- ---- f of each element

module _ {A : Type 0} (f : A → List ℕ) (w : ℕ) (size : (a : A) → length (f a) ≡ w) where
  -- f of another element, stored in the place of element j
  flat_set : (l : List A) (t : List ℕ) (j : ℕ) (a : A) → j < length l → sets (flat_map f l ++ t) (w * j) (f a) ≡ flat_map f (set l j a) ++ t
  unfolding flat_map
  flat_set [] t j a h = absurd (omega arith)
  flat_set (x ∷ l) t zero a h =
      let r : List ℕ = flat_map f l ++ t in
      let e : length (f a) ≡ length (f x) = size a ∙ sym (size x) in
      ap (λ (u : List ℕ). sets u (w * 0) (f a)) (append_assoc (f x) (flat_map f l) t)
      ∙ ap (λ (k : ℕ). sets (f x ++ r) k (f a)) (mul-zero w)
      ∙ sets_over (f a) (f x ++ r) (omega (arith, length-append (f x) r))
      ∙ ap (λ (u : List ℕ). f a ++ u) (drop_at (f x) r (length (f a)) (sym e))
      ∙ sym (append_assoc (f a) (flat_map f l) t)
  flat_set (x ∷ l) t (suc j) a h =
      let r : List ℕ = flat_map f l ++ t in
      let q : w * suc j ≡ length (f x) + w * j = omega (arith, mul-suc w j, size x) in
      ap (λ (u : List ℕ). sets u (w * suc j) (f a)) (append_assoc (f x) (flat_map f l) t)
      ∙ ap (λ (k : ℕ). sets (f x ++ r) k (f a)) q
      ∙ sets_past (f x) r (f a) (w * j)
      ∙ ap (λ (u : List ℕ). f x ++ u) (flat_set l t j a (omega arith))
      ∙ sym (append_assoc (f x) (flat_map f (set l j a)) t)

  pub over_set : (l : List A) (d : List ℕ) (j : ℕ) (a : A) → j < length l → sets (over (flat_map f l) d) (w * j) (f a) ≡ over (flat_map f (set l j a)) d
  over_set l d j a h =
      let e : length (flat_map f l) ≡ length (flat_map f (set l j a)) = flat_length f w size l ∙ ap (λ (n : ℕ). w * n) (sym (length-set l j a)) ∙ sym (flat_length f w size (set l j a)) in
      flat_set l (drop (length (flat_map f l)) d) j a h ∙ ap (λ (n : ℕ). flat_map f (set l j a) ++ drop n d) e
