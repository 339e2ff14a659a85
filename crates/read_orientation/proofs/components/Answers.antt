-- `components` meets its contract.
use mathlib.Core.Path.{sym, ◌∙◌}
use Rattle.read_orientation.proofs.components.Goals as goal

pub returns-then-is_alike : goal.returns-then-is_alike
returns-then-is_alike c = rw (sym c.is_alike.ensures ∙ c.if-is_alike.true)

pub returns-else-is_alike : goal.returns-else-is_alike
returns-else-is_alike c = rw (sym c.is_alike.ensures ∙ c.if-is_alike.false)
