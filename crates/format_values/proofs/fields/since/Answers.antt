-- `fields::since` meets its contract: both numbers hold the first versions of the table's rows, by computation.
use mathlib.Core.Path.{sym, ap, ◌∙◌}
use Rattle.format.specs.Fields.{since_of}
use Rattle.format_values.specs.Packed.{packed}
use Rattle.format_values.proofs.Tables.{since_first, since_later, past_table}
use Rattle.format_values.proofs.fields.since.Goals as goal

pub returns-then-f-lt16 : goal.returns-then-f-lt16
unfolding packed
returns-then-f-lt16 c = c.digit.ensures ∙ since_first c.args.f c.if-f-lt16.true

pub returns-then-f-lt-COUNT : goal.returns-then-f-lt-COUNT
unfolding packed
returns-then-f-lt-COUNT c = c.digit-then-f-lt-COUNT.ensures ∙ since_later c.args.f c.if-f-lt16.false c.if-f-lt-COUNT.true

pub returns-else-f-lt-COUNT : goal.returns-else-f-lt-COUNT
returns-else-f-lt-COUNT c = sym (ap since_of (past_table c.args.f c.if-f-lt-COUNT.false))
