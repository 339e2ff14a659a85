-- `write_vectors::vectors::put_frame` meets its contract: `Joining` of Joining.antt. Assumes nothing.
use Prim.Native.Nat.{◌+◌, ◌*◌, ◌≤◌, min}
use lib.ListN.{length}
use Rattle.format.specs.Bytes.{SPACE}
use Rattle.format.specs.HeaderWriter.{vector_text}
use Rattle.format.specs.HeaderWriter.{vector_of}
use Rattle.write_vectors.proofs.Joining.{Joining}
use Rattle.write_vectors.proofs.vectors.put_frame.Given as goal

abbrev pub invariant-loop-i : goal.invariant-loop-i
invariant-loop-i l = Joining (λ x. vector_text (vector_of l.n x)) SPACE l.columns (length l.columns) l.initial.out l.at l.out l.o l.i × (l.o + min l.i 1 ≤ l.at + 266 * l.i)
