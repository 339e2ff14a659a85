use Rattle.std.proofs.Common.{◌<◌}
use Rattle.gate_frames.proofs.walk.group.Given as goal

-- fewer cases are right than the number of the next one
abbrev pub invariant-loop-n : goal.invariant-loop-n
invariant-loop-n g l = l.right < l.n-counter
