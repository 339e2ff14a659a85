-- `words::row_among` meets its contract. The loop's invariant: s is none of the names passed, and the table holds the others from `at` on.
-- The measure is what is left of the length.
use Prim.Native.Nat.{◌-◌, ◌≤◌}
use lib.ListN.{length}
use Rattle.read_text.proofs.Rows.{Passed}
use Rattle.read_text.proofs.words.row_among.Given as goal

abbrev pub invariant-loop-at : goal.invariant-loop-at
invariant-loop-at l = (l.at ≤ length l.names) × Passed l.names l.s l.at

abbrev pub decreases-loop-at : goal.decreases-loop-at
decreases-loop-at l = length l.names - l.at
