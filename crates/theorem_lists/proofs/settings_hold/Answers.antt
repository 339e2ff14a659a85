-- `theorem_lists::settings_hold` meets its contract, which is the statement about every list of settings.
use Rattle.theorem_lists.proofs.Lists.{settings}
use Rattle.theorem_lists.proofs.settings_hold.Goals as goal

pub returns : goal.returns
returns c = settings
