-- The loop's invariant: what is passed is written.
use Rattle.std.proofs.Common.{◌≡◌, ◌+◌, length, take}
use Rattle.std.proofs.lemmas.List.Edits.{sets}
use Rattle.format.specs.Pairs.{escape}
use Rattle.set_pair.proofs.escape_into.Given as goal

abbrev pub invariant-loop-c : goal.invariant-loop-c
invariant-loop-c l = (l.o ≡ l.at + length (escape (take l.c-index l.s))) × (l.buf ≡ sets l.initial.buf l.at (escape (take l.c-index l.s)))
