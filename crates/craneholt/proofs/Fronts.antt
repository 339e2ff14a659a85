-- Numbers unpacked to the front of a local list.
-- Assumes nothing.
use Prim.Native.Nat.{ℕ, min, ◌/◌}
use native.Mathlib.Omega.{arith}
use mathlib.Core.Path.{◌≡◌, ap, ◌∙◌}
use mathlib.Core.List.{List}
use lib.ListN.{length, take, drop}
use lib.Seq.{take_at, length-take-le}
use Rattle.format.specs.Bytes.{over}
use Rattle.format.specs.Boundary.{numbers_of}
use Rattle.format.proofs.Boundary.{length_numbers}
use Rattle.lent_numbers.proofs.Stores.{take_least}

-- of n numbers at the front of a list with room for m, as many as there are and have room, the front is that of the numbers
pub front_lent : (w : ℕ) (s l d : List ℕ) (n m : ℕ) → n ≡ min (length s / w) m → l ≡ over (take n (numbers_of w s)) d → take n l ≡ take m (numbers_of w s)
front_lent w s l d n m e q =
    let t : List ℕ = numbers_of w s in
    let k : length (take n t) ≡ n = length-take-le n t (omega (arith, length_numbers w s)) in
    ap (take n) q ∙ take_at (take n t) (drop (length (take n t)) d) n k ∙ take_least t m n (omega (arith, length_numbers w s))
