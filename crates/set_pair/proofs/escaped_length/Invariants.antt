-- The loop's invariant: n is the length of what is passed, at most 2 for each byte.
use Rattle.std.proofs.Common.{◌≡◌, ◌≤◌, ◌*◌, length, take}
use Rattle.format.specs.Pairs.{escape}
use Rattle.set_pair.proofs.escaped_length.Given as goal

abbrev pub invariant-loop-c : goal.invariant-loop-c
invariant-loop-c l = (l.n ≡ length (escape (take l.c-index l.s))) × (l.n ≤ 2 * l.c-index)
