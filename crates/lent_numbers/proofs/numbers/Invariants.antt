-- `numbers` meets its contract. The invariant: the first i numbers are at the front.
use Prim.Native.Nat.{◌≤◌}
use mathlib.Core.Path.{◌≡◌}
use lib.ListN.{length, take}
use Rattle.format.specs.Bytes.{over}
use Rattle.format.specs.Boundary.{numbers_of}
use Rattle.lent_numbers.proofs.numbers.Given as goal

abbrev pub invariant-loop-i : goal.invariant-loop-i
invariant-loop-i l = (l.i ≤ l.n) × (length l.t ≡ length l.initial.t) × (l.t ≡ over (take l.i (numbers_of 8 l.s)) l.initial.t)
