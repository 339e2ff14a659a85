-- `strings::strings_in` meets its contract: what is to come of the strings, after the n spans stored, gives the answer.
use Prim.Native.Nat.{◌≤◌, ◌-◌}
use mathlib.Core.Path.{◌≡◌}
use lib.ListN.{length, drop}
use Rattle.format.specs.Strings.{apart, strings_from, strings_said}
use Rattle.read_axes.specs.Strings.{spans_from}
use Rattle.read_axes.proofs.StringLaws.{strings_left}
use Rattle.read_axes.proofs.strings.strings_in.Given as goal

abbrev pub invariant-loop-at : goal.invariant-loop-at
invariant-loop-at l =
    (l.at ≤ length l.t) × (l.n ≤ l.axes) × (length l.v ≡ 16)
    × (spans_from l.base (strings_said l.axes l.t) ≡ strings_left l.base l.axes l.n l.v (strings_from apart l.at (drop l.at l.t)))

abbrev pub decreases-loop-at : goal.decreases-loop-at
decreases-loop-at l = length l.t - l.at
