-- `read::read_names` meets its contract: the answer from the line at `at` on, after the names before it, is the whole answer.
use Prim.Native.Nat.{◌-◌}
use lib.ListN.{length}
use Rattle.read_header.proofs.Turns.{Naming}
use Rattle.read_header.proofs.read.read_names.Given as goal

abbrev pub invariant-loop-at : goal.invariant-loop-at
invariant-loop-at l = Naming l.file l.state.version l.list l.from l.state l.at l.n

abbrev pub decreases-loop-at : goal.decreases-loop-at
decreases-loop-at l = length l.file - l.at
