-- `check::check_sizes` meets its contract. Assumes nothing.
use Rattle.read_descriptors.proofs.Checking.{sizes_none, sizes_read}
use Rattle.read_descriptors.proofs.check.check_sizes.Goals as goal

pub returns-in_err-sizes : goal.returns-in_err-sizes
returns-in_err-sizes c m = let a = c.args in rw c.from_residual.ensures (sizes_none a.dimension m a.t.now a.kept.now c.in_err-sizes.ensures)

pub returns : goal.returns
returns c m = let a = c.args in rw c.only.ensures (sizes_read a.dimension m a.t.now a.kept.now c.in_ok-sizes.sizes c.in_ok-sizes.ensures)
