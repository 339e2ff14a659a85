-- The bytes from `at` on are plain if and only if `fine` holds and those from at + j on are plain.
use Rattle.std.proofs.Common.{◌≡◌, ◌&&◌, ◌+◌, drop}
use Rattle.format.specs.Bytes.{every}
use Rattle.format.specs.Pairs.{plain}
use Rattle.read_text.proofs.bytes.plain_block.Given as goal

abbrev pub invariant-loop-j : goal.invariant-loop-j
invariant-loop-j l = every plain (drop l.at l.s) ≡ (l.fine && every plain (drop (l.at + l.j) l.s))
