-- Laws of lists that are stored by parts, f of each element: what is left from an element on.
-- Assumes nothing.
use mathlib.Core.Path.{◌≡◌, sym, ap, ◌∙◌}
use mathlib.Core.List.{List, [], ◌++◌, flat_map}
use Prim.Native.Nat.{ℕ, ◌+◌, ◌≤◌, ◌<◌}
use native.Mathlib.Numerals.{add-one}
use native.Mathlib.Omega.{arith}
use lib.ListN.{length, get_or, take, drop, length-append, drop_of_length-le, take-append-drop}
use lib.Seq.{slice, length-take-le, drop-cons, drop-append-le}
use Rattle.format.proofs.Boundary.{flat_append}

-- the elements of zs from i on
module _ {A : Type 0} (f : A → List ℕ) (zs : List A) (i : ℕ) where
  module _ (z : A) (h : i < length zs) where
    pub flat_next : flat_map f (drop i zs) ≡ f (get_or zs i z) ++ flat_map f (drop (i + 1) zs)
    unfolding flat_map
    flat_next = rw (add-one i, drop-cons zs i z h)

    pub flat_next_length : length (flat_map f (drop i zs)) ≡ length (f (get_or zs i z)) + length (flat_map f (drop (i + 1) zs))
    flat_next_length = ap length flat_next ∙ length-append (f (get_or zs i z)) (flat_map f (drop (i + 1) zs))

  -- none is left
  pub flat_over : length zs ≤ i → flat_map f (drop i zs) ≡ []
  unfolding flat_map
  flat_over h = ap (flat_map f) (drop_of_length-le zs h)

-- the elements up to e, and those after them
pub flat_parts : {A : Type 0} (f : A → List ℕ) (zs : List A) (i e : ℕ) → i ≤ e → e ≤ length zs → flat_map f (drop i zs) ≡ flat_map f (slice i e zs) ++ flat_map f (drop e zs)
flat_parts f zs i e h l =
    let k : i ≤ length (take e zs) = omega (arith, length-take-le e zs l) in
    ap (λ (r : List _). flat_map f (drop i r)) (sym (take-append-drop e zs))
    ∙ ap (flat_map f) (drop-append-le i (take e zs) (drop e zs) k)
    ∙ flat_append f (slice i e zs) (drop e zs)
