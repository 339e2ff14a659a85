-- `place::text_start` meets its contract: in understood fields the spaces and tabs at the front are passed.
use native.Mathlib.Omega.{arith}
use mathlib.Core.Path.{sym, ◌∙◌}
use Rattle.read_descriptors.proofs.place.text_start.Goals as goal

pub returns-then-is_understood : goal.returns-then-is_understood
returns-then-is_understood c = simp (sym c.is_understood.ensures ∙ c.if-is_understood.true) c.leading.ensures

pub returns-else-is_understood : goal.returns-else-is_understood
returns-else-is_understood c = simp (sym c.is_understood.ensures ∙ c.if-is_understood.false) (omega arith)
