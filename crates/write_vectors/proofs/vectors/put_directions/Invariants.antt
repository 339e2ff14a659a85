-- `write_vectors::vectors::put_directions` meets its contract: `Joining` of Joining.antt. Assumes nothing.
use Prim.Native.Nat.{◌+◌, ◌*◌, ◌≤◌, min}
use lib.ListN.{length}
use Rattle.format.specs.Bytes.{SPACE}
use Rattle.format.specs.HeaderWriter.{direction_text}
use Rattle.format.specs.HeaderWriter.{direction_of}
use Rattle.write_vectors.proofs.Joining.{Joining}
use Rattle.write_vectors.proofs.vectors.put_directions.Given as goal

abbrev pub invariant-loop-i : goal.invariant-loop-i
invariant-loop-i l = Joining (λ x. direction_text (direction_of l.n x)) SPACE l.rows (length l.rows) l.initial.out l.at l.out l.o l.i × (l.o + min l.i 1 ≤ l.at + 266 * l.i)
