-- `column_at` meets its contract. The invariant: the first i decimals are at the front.
use mathlib.Core.Path.{◌≡◌}
use lib.ListN.{length, take, drop}
use Rattle.format.specs.Bytes.{over}
use Rattle.format.specs.Boundary.{decimals_lent}
use Rattle.lent_decimals.proofs.column_at.Given as goal

abbrev pub invariant-loop-i : goal.invariant-loop-i
invariant-loop-i l = (length l.v ≡ 8) × (l.v ≡ over (take l.i (decimals_lent (take 128 (drop l.at l.s)))) l.initial.v)
