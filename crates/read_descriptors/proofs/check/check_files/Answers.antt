-- `check::check_files` meets its contract. Assumes nothing.
use Rattle.read_descriptors.proofs.Checking.{files_none, files_said}
use Rattle.read_descriptors.proofs.check.check_files.Goals as goal

pub returns-in_err-files : goal.returns-in_err-files
returns-in_err-files c n m = rw c.from_residual.ensures (files_none n m c.args.t.now c.in_err-files.ensures)

pub returns : goal.returns
returns c n m = rw c.last.ensures (files_said n m c.args.t.now c.in_ok-files.files c.in_ok-files.ensures)
