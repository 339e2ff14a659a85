-- `roof_sweep::sweep_laws` meets its contract, which is the statement of the laws.
use Rattle.roof_sweep.proofs.SweepsHold.{laws_hold}
use Rattle.roof_sweep.proofs.sweep_laws.Goals as goal

pub returns : goal.returns
returns c = laws_hold
