-- `write_vectors::vectors::put_components` meets its contract: `Joining` of Joining.antt. Assumes nothing.
use Prim.Native.Nat.{◌+◌, ◌*◌, ◌≤◌, min}
use lib.ListN.{length}
use Rattle.format.specs.Bytes.{COMMA}
use Rattle.format.specs.HeaderWriter.{component_text}
use Rattle.write_vectors.proofs.Joining.{Joining}
use Rattle.write_vectors.proofs.vectors.put_components.Given as goal

abbrev pub invariant-loop-i : goal.invariant-loop-i
invariant-loop-i l = Joining component_text COMMA l.v (length l.v) l.initial.out l.at l.out l.o l.i × (l.o + min l.i 1 ≤ l.at + 33 * l.i)
