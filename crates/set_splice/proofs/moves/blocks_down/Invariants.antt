-- The loop's invariant: the first j bytes are moved.
use Rattle.std.proofs.Common.{◌≡◌, ◌-◌, ◌≤◌, take, drop}
use Rattle.std.proofs.lemmas.List.Edits.{sets}
use Rattle.set_splice.proofs.moves.blocks_down.Given as goal

abbrev pub invariant-loop-j : goal.invariant-loop-j
invariant-loop-j g l = (l.j ≤ l.n) × (l.d ≡ sets l.initial.d l.to (take l.j (drop l.from l.initial.d)))

abbrev pub decreases-loop-j : goal.decreases-loop-j
decreases-loop-j g l = l.n - l.j
