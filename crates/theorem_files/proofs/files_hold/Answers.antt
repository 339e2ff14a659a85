-- `theorem_files::files_hold` meets its contract, which is the statement about data in several files.
use Rattle.theorem_files.proofs.Hold.{all_hold}
use Rattle.theorem_files.proofs.files_hold.Goals as goal

pub returns : goal.returns
returns c = all_hold
