-- `read_text::numbers::sizes_in` meets its contract: what is to come of the words, after the n sizes stored, gives the answer.
use Prim.Native.Nat.{◌≤◌, ◌-◌}
use mathlib.Core.Path.{◌≡◌}
use lib.ListN.{length, drop}
use Rattle.format.specs.Words.{words}
use Rattle.read_text.specs.Numbers.{sizes_in}
use Rattle.read_text.proofs.NumberLaws.{sizes_from}
use Rattle.read_text.proofs.numbers.sizes_in.Given as goal

abbrev pub invariant-loop-at : goal.invariant-loop-at
invariant-loop-at l =
    (l.at ≤ length l.s) × (l.n ≤ l.dimension) × (length l.v ≡ 16) × (sizes_in l.dimension (words l.s) ≡ sizes_from l.dimension l.n l.v (words (drop l.at l.s)))

abbrev pub decreases-loop-at : goal.decreases-loop-at
decreases-loop-at l = length l.s - l.at
