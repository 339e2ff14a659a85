-- `scan` meets its contract. The invariant: the digits counted are those up to `at`.
use Prim.Native.Nat.{◌-◌}
use lib.ListN.{length}
use Rattle.data_hex.specs.Forms.{Reached}
use Rattle.data_hex.proofs.scan.scan.Given as goal

abbrev pub invariant-loop-digits : goal.invariant-loop-digits
invariant-loop-digits l = Reached l.s l.need l.at l.digits

abbrev pub decreases-loop-digits : goal.decreases-loop-digits
decreases-loop-digits l = length l.s - l.at
