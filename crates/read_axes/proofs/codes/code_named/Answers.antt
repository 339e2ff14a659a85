-- `codes::code_named` meets its contract. Assumes nothing.
use Rattle.read_axes.specs.Codes.{code_named}
use Rattle.read_axes.proofs.codes.code_named.Goals as goal

pub returns-then-kinds : goal.returns-then-kinds
unfolding code_named
returns-then-kinds c = rw c.if-kinds.true c.kind_named.ensures

pub returns-else-kinds : goal.returns-else-kinds
unfolding code_named
returns-else-kinds c = rw c.if-kinds.false c.centring_named.ensures
