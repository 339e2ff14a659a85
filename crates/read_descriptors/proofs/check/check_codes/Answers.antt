-- `check::check_codes` meets its contract. Assumes nothing.
use Rattle.read_descriptors.proofs.Checking.{codes_there}
use Rattle.read_descriptors.proofs.check.check_codes.Goals as goal

pub returns : goal.returns
returns c d = rw (← codes_there _ _ c.codes_in.ensures, ← c.is_some.ensures) c.says_none.ensures
