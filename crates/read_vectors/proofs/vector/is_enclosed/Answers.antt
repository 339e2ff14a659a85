-- `vector::is_enclosed` meets its contract.
use Rattle.read_vectors.proofs.VectorLaws.{enclosed_short, enclosed_test}
use Rattle.read_vectors.proofs.vector.is_enclosed.Goals as goal

pub returns-then-w-lt2 : goal.returns-then-w-lt2
returns-then-w-lt2 c = rw (enclosed_short c.args.w.now c.if-w-lt2.true)

pub returns-else-w-lt2 : goal.returns-else-w-lt2
returns-else-w-lt2 c = enclosed_test c.args.w.now c.if-w-lt2.false
