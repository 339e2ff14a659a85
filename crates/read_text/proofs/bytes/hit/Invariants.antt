-- Where b is not among the j bytes from `at` on, all of them stand before the first b.
use Rattle.std.proofs.Common.{◌≡◌, false, ◌+◌, drop}
use Rattle.read_text.specs.Places.{before}
use Rattle.read_text.proofs.bytes.hit.Given as goal

abbrev pub invariant-loop-j : goal.invariant-loop-j
invariant-loop-j l = l.found ≡ false → before l.b (drop l.at l.s) ≡ l.j + before l.b (drop (l.at + l.j) l.s)
