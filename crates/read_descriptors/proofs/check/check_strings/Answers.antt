-- `check::check_strings` meets its contract. Assumes nothing.
use Rattle.read_descriptors.proofs.Checking.{strings_there}
use Rattle.read_descriptors.proofs.check.check_strings.Goals as goal

pub returns : goal.returns
returns c d l = rw (← strings_there 0 _ _ c.strings_in.ensures, ← c.is_some.ensures) c.says_none.ensures
