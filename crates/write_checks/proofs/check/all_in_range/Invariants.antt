-- `write_checks::check::all_in_range` meets its contract. The loop's invariant: what the bits so far tell, and of the samples from i on. Assumes nothing.
use Rattle.std.proofs.Common.{◌≡◌, ◌+◌, ◌&&◌, leb, drop}
use Rattle.write_checks.specs.Refused.{all_in_range}
use Rattle.write_checks.proofs.check.all_in_range.Given as goal

abbrev pub invariant-loop-i : goal.invariant-loop-i
invariant-loop-i g l = let zs = g.S.Source.samples l.samples in all_in_range l.low l.high zs ≡ (leb l.all (l.low + l.high) && all_in_range l.low l.high (drop l.i zs))
