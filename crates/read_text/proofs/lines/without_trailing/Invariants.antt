-- What is left has the bytes that count.
use Rattle.std.proofs.Common.{◌≡◌, ◌≤◌, length}
use Rattle.format.specs.Words.{trim_end}
use Rattle.read_text.proofs.lines.without_trailing.Given as goal

abbrev pub invariant-loop-last : goal.invariant-loop-last
invariant-loop-last l = (length l.rest ≤ length l.s) × (trim_end l.s ≡ trim_end l.rest)

abbrev pub decreases-loop-last : goal.decreases-loop-last
decreases-loop-last l = length l.rest
