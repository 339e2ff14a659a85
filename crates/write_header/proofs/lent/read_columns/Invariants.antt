-- `lent::read_columns` meets its contract. The invariant: the columns that are left, stored from i on, make the whole. Assumes nothing.
use Rattle.write_header.proofs.Filling.{Filling}
use Rattle.write_header.proofs.lent.read_columns.Given as goal

abbrev pub invariant-loop-i : goal.invariant-loop-i
invariant-loop-i g l = Filling g.row.N l.at l.s l.columns l.i
