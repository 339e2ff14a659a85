-- `spaces::size` meets its contract: the number holds the dimensions of the spaces, by computation.
use mathlib.Core.Path.{refl, sym}
use Rattle.format_values.specs.Packed.{packed}
use Rattle.format_values.proofs.Tables.{space_digit, space_past}
use Rattle.format_values.proofs.spaces.size.Goals as goal

pub returns-then-space-lt-COUNT : goal.returns-then-space-lt-COUNT
unfolding packed
returns-then-space-lt-COUNT c = space_digit c.args.space c.if-space-lt-COUNT.true c.digit.ensures refl

pub returns-else-space-lt-COUNT : goal.returns-else-space-lt-COUNT
returns-else-space-lt-COUNT c = sym (space_past c.args.space c.if-space-lt-COUNT.false)
