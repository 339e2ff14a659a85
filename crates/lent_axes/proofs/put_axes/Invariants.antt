-- `put_axes` meets its contract. The invariant: the first i records are at the front.
use mathlib.Core.Path.{◌≡◌}
use lib.ListN.{length, take}
use Rattle.format.specs.Bytes.{over}
use Rattle.format.specs.AxisRecords.{axes_bytes}
use Rattle.lent_axes.proofs.put_axes.Given as goal

abbrev pub invariant-loop-i : goal.invariant-loop-i
invariant-loop-i l = (length l.d ≡ length l.initial.d) × (l.d ≡ over (axes_bytes (take l.i l.records)) l.initial.d)
