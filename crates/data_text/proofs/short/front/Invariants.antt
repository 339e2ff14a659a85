-- `short::front` meets its contract: what is counted are digits, but for a sign in front.
use Prim.Native.Nat.{◌-◌}
use Rattle.data_text.proofs.ShortLaws.{Counting}
use Rattle.data_text.proofs.short.front.Given as goal

abbrev pub invariant-loop-j : goal.invariant-loop-j
invariant-loop-j l = Counting l.s l.at l.more l.n l.j

abbrev pub decreases-loop-j : goal.decreases-loop-j
decreases-loop-j l = 5 - l.j
