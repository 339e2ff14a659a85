-- `reader::skip` meets its contract: what follows the blanks from `at` on is what follows those from i on.
use Prim.Native.Nat.{◌-◌}
use lib.ListN.{length}
use Rattle.data_text.proofs.TokenLaws.{Skipping}
use Rattle.data_text.proofs.reader.skip.Given as goal

abbrev pub invariant-loop-i : goal.invariant-loop-i
invariant-loop-i l = Skipping l.s l.at l.i

abbrev pub decreases-loop-i : goal.decreases-loop-i
decreases-loop-i l = length l.s - l.i
