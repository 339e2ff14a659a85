-- Laws of the first n entries of a list, from entry i on.
-- Assumes nothing.
use mathlib.Core.Path.{◌≡◌, ap, ◌∙◌}
use mathlib.Core.List.{List, [], ◌∷◌}
use Prim.Native.Nat.{ℕ, ◌+◌, ◌≤◌, ◌<◌}
use native.Mathlib.Omega.{arith}
use lib.ListN.{length, get_or, take, drop, drop_of_length-le}
use lib.Seq.{length-take-le, get_or-take}
use Rattle.write_parts.proofs.Runs.{drop_next}

module _ {A : Type 0} (l : List A) (n i : ℕ) (within : n ≤ length l) where
  pub entry_next : (z : A) → i < n → drop i (take n l) ≡ get_or l i z ∷ drop (i + 1) (take n l)
  entry_next z h = drop_next (take n l) i z (omega (arith, length-take-le n l within)) ∙ ap (λ (x : A). x ∷ drop (i + 1) (take n l)) (get_or-take n l i z h)

  pub entry_over : n ≤ i → drop i (take n l) ≡ []
  entry_over h = drop_of_length-le (take n l) {i = i} (omega (arith, length-take-le n l within))
