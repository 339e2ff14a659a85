-- `put_column` meets its contract. The invariant: the first i decimals are stored.
use mathlib.Core.Path.{◌≡◌}
use lib.ListN.{length, take}
use lib.Seq.{sets}
use Rattle.format.specs.Boundary.{decimals_bytes}
use Rattle.lent_decimals.proofs.put_column.Given as goal

abbrev pub invariant-loop-i : goal.invariant-loop-i
invariant-loop-i l = (length l.d ≡ length l.initial.d) × (l.d ≡ sets l.initial.d l.at (decimals_bytes (take l.i l.v)))
