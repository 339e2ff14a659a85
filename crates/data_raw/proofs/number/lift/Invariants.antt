-- `lift` meets its contract: the numbers before i are stored.
use Rattle.data_raw.proofs.NarrowLaws.{Lifting}
use Rattle.data_raw.proofs.number.lift.Given as goal

abbrev pub invariant-loop-i : goal.invariant-loop-i
invariant-loop-i l = Lifting l.big l.w l.up 64 l.s l.at l.initial.a l.a l.i
