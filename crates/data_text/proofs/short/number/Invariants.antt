-- `short::number` meets its contract: m is the number of the digits passed.
use Prim.Native.Nat.{◌-◌}
use Rattle.data_text.proofs.ShortLaws.{Numbering}
use Rattle.data_text.proofs.short.number.Given as goal

abbrev pub invariant-loop-j : goal.invariant-loop-j
invariant-loop-j l = Numbering l.s l.at l.n l.j l.m

abbrev pub decreases-loop-j : goal.decreases-loop-j
decreases-loop-j l = 5 - l.j
