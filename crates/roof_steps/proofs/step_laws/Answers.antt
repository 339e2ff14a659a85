-- `roof_steps::step_laws` meets its contract, which is the statement of the laws. Assumes nothing.
use Rattle.roof_steps.proofs.LawsHold.{steps_hold}
use Rattle.roof_steps.proofs.step_laws.Goals as goal

pub returns : goal.returns
returns c = steps_hold
