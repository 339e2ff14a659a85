-- `theorem_orientation::decimals_mean` meets its contract, which is the statement of what the text of a decimal means.
use Rattle.theorem_orientation.proofs.Taken.{decimals_mean}
use Rattle.theorem_orientation.proofs.decimals_mean.Goals as goal

pub returns : goal.returns
returns c = decimals_mean
