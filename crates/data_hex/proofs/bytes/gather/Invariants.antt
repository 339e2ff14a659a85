-- `gather` meets its contract. The invariant: the digits up to `i` are stored.
use Prim.Native.Nat.{◌-◌}
use lib.ListN.{length}
use Rattle.data_hex.proofs.BlockLaws.{Gathering}
use Rattle.data_hex.proofs.bytes.gather.Given as goal

abbrev pub invariant-loop-o : goal.invariant-loop-o
invariant-loop-o l = Gathering l.s l.m l.at l.initial.d l.d l.i l.o

abbrev pub decreases-loop-o : goal.decreases-loop-o
decreases-loop-o l = length l.s - l.i
