-- The loop's invariant: what is left decides.
use Rattle.read_table.proofs.Matching.{Matching}
use Rattle.read_table.proofs.table.starts_match.Given as goal

abbrev pub invariant-loop-k : goal.invariant-loop-k
invariant-loop-k g l = Matching l.file (g.E.Entry.entries l.table) l.n l.at l.k
