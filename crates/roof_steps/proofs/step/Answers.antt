-- `roof_steps::step` meets its contract. Assumes nothing.
use Rattle.std.proofs.Common.{rules}
use Rattle.roof_steps.specs.Steps.{step_of}
use Rattle.roof_steps.proofs.step.Goals as goal

pub returns : goal.returns
unfolding step_of
returns c = search rules
