-- `roof_sweep::sweep_trials` meets its contract, which is the statement of the trials.
use Rattle.roof_sweep.proofs.Examples.{trials_hold}
use Rattle.roof_sweep.proofs.sweep_trials.Goals as goal

pub returns : goal.returns
returns c = trials_hold
