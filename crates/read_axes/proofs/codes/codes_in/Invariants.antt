-- `codes::codes_in` meets its contract: what is to come of the words, after the n numbers stored, gives the answer.
use Prim.Native.Nat.{◌≤◌, ◌-◌}
use mathlib.Core.Path.{◌≡◌}
use lib.ListN.{length, drop}
use Rattle.format.specs.Words.{words}
use Rattle.read_axes.specs.Codes.{codes_said, codes_padded}
use Rattle.read_axes.proofs.CodeLaws.{codes_from}
use Rattle.read_axes.proofs.codes.codes_in.Given as goal

abbrev pub invariant-loop-at : goal.invariant-loop-at
invariant-loop-at l =
    (l.at ≤ length l.t) × (l.n ≤ l.axes) × (length l.v ≡ 16) × (codes_padded (codes_said l.kinds l.axes l.t) ≡ codes_from l.kinds l.axes l.n l.v (words (drop l.at l.t)))

abbrev pub decreases-loop-at : goal.decreases-loop-at
decreases-loop-at l = length l.t - l.at
