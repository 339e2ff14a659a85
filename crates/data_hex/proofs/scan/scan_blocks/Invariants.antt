-- `scan_blocks` meets its contract. The invariant: the digits counted are those up to `at`.
use Prim.Native.Nat.{◌-◌}
use lib.ListN.{length}
use Rattle.data_hex.specs.Forms.{Reached}
use Rattle.data_hex.proofs.scan.scan_blocks.Given as goal

abbrev pub invariant-loop-at : goal.invariant-loop-at
invariant-loop-at l = Reached l.s l.need l.at l.digits

abbrev pub decreases-loop-at : goal.decreases-loop-at
decreases-loop-at l = length l.s - l.at
