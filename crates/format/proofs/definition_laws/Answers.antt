-- `format::definition_laws` meets its contract, which is the statement of the laws.
use Rattle.format.proofs.Believable.{laws}
use Rattle.format.proofs.definition_laws.Goals as goal

pub returns : goal.returns
returns c = laws
