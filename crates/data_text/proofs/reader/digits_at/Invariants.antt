-- `reader::digits_at` meets its contract: the digits passed write a number of which m is what is kept, and the rest goes on from there.
use Prim.Native.Nat.{◌-◌}
use lib.ListN.{length}
use Rattle.data_text.specs.Tokens.{Scan}
use Rattle.data_text.proofs.reader.digits_at.Given as goal

abbrev pub invariant-loop-i : goal.invariant-loop-i
invariant-loop-i l = Scan l.s l.at l.i l.m

abbrev pub decreases-loop-i : goal.decreases-loop-i
decreases-loop-i l = length l.s - l.i
