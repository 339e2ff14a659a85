-- `read_header::read::read_lines` meets its contract: the answer from the line at `at` on is the whole answer.
use Prim.Native.Nat.{◌-◌}
use lib.ListN.{length}
use Rattle.read_header.proofs.Turns.{Going}
use Rattle.read_header.proofs.read.read_lines.Given as goal

abbrev pub invariant-loop-at : goal.invariant-loop-at
invariant-loop-at l = Going l.file l.version l.from l.state l.at l.n

abbrev pub decreases-loop-at : goal.decreases-loop-at
decreases-loop-at l = length l.file - l.at
