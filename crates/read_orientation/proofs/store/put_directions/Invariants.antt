-- `store::put_directions` meets its contract. The invariant: the directions of the first i axes are stored.
use mathlib.Core.Path.{◌≡◌}
use lib.ListN.{length}
use lib.Seq.{sets}
use Rattle.format.specs.Vectors.{vector_words}
use Rattle.format.specs.Boundary.{decimals_bytes}
use Rattle.read_orientation.specs.Told.{directions_in}
use Rattle.read_orientation.proofs.store.put_directions.Given as goal

abbrev pub invariant-loop-i : goal.invariant-loop-i
invariant-loop-i l = (length l.list ≡ length l.initial.list) × (l.list ≡ sets l.initial.list 0 (decimals_bytes (directions_in l.n (vector_words l.t) l.i)))
