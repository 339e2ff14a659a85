-- `roof_steps::is_right` meets its contract. Assumes nothing.
use Rattle.std.proofs.Common.{refl}
use Rattle.roof_steps.proofs.is_right.Goals as goal

pub returns : goal.returns
returns c = refl
