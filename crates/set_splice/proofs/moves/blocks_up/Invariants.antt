-- The loop's invariant: the bytes from k on are moved.
use Rattle.std.proofs.Common.{◌≡◌, ◌+◌, ◌-◌, ◌≤◌, take, drop}
use Rattle.std.proofs.lemmas.List.Edits.{sets}
use Rattle.set_splice.proofs.moves.blocks_up.Given as goal

abbrev pub invariant-loop-k : goal.invariant-loop-k
invariant-loop-k g l = (l.k ≤ l.n) × (l.d ≡ sets l.initial.d (l.to + l.k) (take (l.n - l.k) (drop (l.from + l.k) l.initial.d)))

abbrev pub decreases-loop-k : goal.decreases-loop-k
decreases-loop-k g l = l.k
