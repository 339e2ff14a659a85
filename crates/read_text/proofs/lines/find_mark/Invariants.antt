-- No mark begins before the byte before i.
use Rattle.std.proofs.Common.{◌≡◌, ◌≤◌, ◌-◌, length, drop}
use Rattle.format.specs.Pairs.{mark}
use Rattle.read_text.specs.Places.{mark_place}
use Rattle.read_text.proofs.Places.{mark_from}
use Rattle.read_text.proofs.lines.find_mark.Given as goal

abbrev pub invariant-loop-i : goal.invariant-loop-i
invariant-loop-i l = (1 ≤ l.i) × (mark_place (mark l.s) ≡ mark_from (l.i - 1) (mark (drop (l.i - 1) l.s)))

abbrev pub decreases-loop-i : goal.decreases-loop-i
decreases-loop-i l = length l.s - l.i
