-- `format::starred_trials` meets its contract, which is the statement of the starred trials.
use Rattle.format.proofs.AllTrials.{starred_trials}
use Rattle.format.proofs.starred_trials.Goals as goal

pub returns : goal.returns
returns c = starred_trials
