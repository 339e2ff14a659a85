-- `State::space_size` meets its contract: by the flag of the space. Assumes nothing.
use Rattle.std.proofs.Common.{◌∙◌}
use Rattle.read_fields.proofs.States.{size_is}
use Rattle.read_fields.proofs.state.State.space_size.Goals as goal

pub returns-then-self-offset16 : goal.returns-then-self-offset16
returns-then-self-offset16 c gs p q = c.size.ensures ∙ rw c.if-self-offset16.true at (size_is gs p q)

pub returns-else-self-offset16 : goal.returns-else-self-offset16
returns-else-self-offset16 c gs p q = rw c.if-self-offset16.false at (size_is gs p q)
