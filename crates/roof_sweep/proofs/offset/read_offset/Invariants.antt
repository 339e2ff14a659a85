-- `read_offset` meets its contract: the digits passed write n, and the rest goes on from there.
use Rattle.std.proofs.Common.{◌≡◌, ◌≤◌, drop}
use Rattle.format.specs.Words.{digits_from}
use Rattle.roof_sweep.specs.Sweeps.{offset_said}
use Rattle.roof_sweep.proofs.OffsetLaws.{answered}
use Rattle.roof_sweep.proofs.offset.read_offset.Given as goal

abbrev pub invariant-loop-i : goal.invariant-loop-i
invariant-loop-i l = (l.n ≤ 255) × (offset_said l.t ≡ answered (digits_from l.n (drop l.i l.t)))
