-- The loop's invariant: the stores that are left give what all stores give.
use Rattle.read_table.proofs.Storing.{Storing}
use Rattle.read_table.proofs.Filling.{Filling}
use Rattle.read_table.proofs.table.fill.Given as goal

abbrev pub invariant-loop-k : goal.invariant-loop-k
invariant-loop-k g l =
    let e = g.E.Entry in
    Storing e.entries e.holding l.initial.table l.table × Filling l.file (e.entries l.initial.table) l.count (e.entries l.table) l.at l.k
