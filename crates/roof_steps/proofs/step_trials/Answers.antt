-- `roof_steps::step_trials` meets its contract, which is the statement of the trials. Assumes nothing.
use Rattle.roof_steps.proofs.LawsHold.{trials_hold}
use Rattle.roof_steps.proofs.step_trials.Goals as goal

pub returns : goal.returns
returns c = trials_hold
