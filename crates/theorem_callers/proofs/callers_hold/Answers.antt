-- `theorem_callers::callers_hold` meets its contract, which is the statement about callers in C.
use Rattle.theorem_callers.proofs.Callers.{callers}
use Rattle.theorem_callers.proofs.callers_hold.Goals as goal

pub returns : goal.returns
returns c = callers
