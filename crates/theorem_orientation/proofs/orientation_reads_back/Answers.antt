-- `theorem_orientation::orientation_reads_back` meets its contract, which is the statement that what is written is read back.
use Rattle.theorem_orientation.proofs.ReadBack.{orientation_back}
use Rattle.theorem_orientation.proofs.orientation_reads_back.Goals as goal

pub returns : goal.returns
returns c = orientation_back
