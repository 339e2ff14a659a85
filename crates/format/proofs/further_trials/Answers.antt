-- `format::further_trials` meets its contract, which is the statement of the further trials.
use Rattle.format.proofs.AllTrials.{further_trials}
use Rattle.format.proofs.further_trials.Goals as goal

pub returns : goal.returns
returns c = further_trials
