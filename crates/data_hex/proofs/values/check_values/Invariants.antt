-- `check_values` meets its contract. The invariant: nothing of the samples before `at` is refused.
use Prim.Native.Nat.{◌-◌}
use mathlib.Core.Path.{◌≡◌}
use lib.ListN.{length}
use Rattle.format.specs.Descriptors.{unsigned}
use Rattle.lent_numbers.specs.Widths.{endian_by}
use Rattle.data_hex.proofs.LoopLaws.{Checking}
use Rattle.data_hex.proofs.values.check_values.Given as goal

abbrev pub invariant-loop-k : goal.invariant-loop-k
invariant-loop-k l = Checking unsigned 8 (endian_by l.big) l.n l.s l.at l.k × ((length l.d ≡ 256) × (length l.bytes ≡ 128))

abbrev pub decreases-loop-k : goal.decreases-loop-k
decreases-loop-k l = l.n - l.k
