-- The loop's invariant: the entries from k on are moved.
use Rattle.std.proofs.Common.{◌≡◌, ◌+◌, ◌-◌, ◌≤◌, map, take, drop}
use Rattle.std.proofs.lemmas.List.Edits.{sets}
use Rattle.read_table.specs.Shifts.{moved_by}
use Rattle.read_table.proofs.Storing.{Storing}
use Rattle.read_table.proofs.table.shift.Given as goal

abbrev pub invariant-loop-k : goal.invariant-loop-k
invariant-loop-k g l =
    let e = g.E.Entry in
    let old = e.entries l.initial.table in
    Storing e.entries e.holding l.initial.table l.table × (l.k ≤ l.count)
    × (e.entries l.table ≡ sets old (l.edit.more + l.k) (map (moved_by l.edit.to l.edit.front) (take (l.count - l.k) (drop l.k old))))
