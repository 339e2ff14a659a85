-- `fields::is_in` meets its contract, by the bit of the field's row.
use mathlib.Core.Path.{sym, ap, ◌∙◌}
use Rattle.format_values.proofs.Tables.{in_set, past_table}
use Rattle.format_values.proofs.fields.is_in.Goals as goal

pub returns-then-f-lt-COUNT : goal.returns-then-f-lt-COUNT
returns-then-f-lt-COUNT c = λ p e n. in_set p e c.if-f-lt-COUNT.true

pub returns-else-f-lt-COUNT : goal.returns-else-f-lt-COUNT
returns-else-f-lt-COUNT c = λ p e n. sym (ap p (past_table c.args.f c.if-f-lt-COUNT.false) ∙ n)
