-- `check::check_row` meets its contract. Assumes nothing.
use Rattle.std.proofs.Common.{sym, ◌∙◌}
use Rattle.read_text.proofs.Rows.{row_is, row_unknown}
use Rattle.read_descriptors.proofs.check.check_row.Goals as goal

pub returns-in-Some : goal.returns-in-Some
returns-in-Some c o d e = rw (c.only.ensures, row_is o c.in-Some.n (sym c.in-Some.is ∙ e))

pub returns-in-None : goal.returns-in-None
returns-in-None c o d e = rw (row_unknown o (sym c.in-None.is ∙ e))
