-- The measure is the number of axes left.
use Prim.Native.Nat.{◌-◌}
use lib.ListN.{length}
use Rattle.data_place.proofs.axes.+number.Given as goal

abbrev pub decreases-number : goal.decreases-number
decreases-number l = length l.sizes.now - l.axis
