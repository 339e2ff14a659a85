-- `write_vectors::vectors::count_components` meets its contract: `Passed` of Counting.antt. Assumes nothing.
use lib.ListN.{length}
use Rattle.write_vectors.proofs.Counting.{Passed}
use Rattle.write_vectors.proofs.vectors.count_components.Given as goal

abbrev pub invariant-loop-i : goal.invariant-loop-i
invariant-loop-i l = Passed l.v (length l.v) l.i
