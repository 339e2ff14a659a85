-- `values::all_records` meets its contract: the first i records are those of the first i axes.
use mathlib.Core.Path.{◌≡◌}
use mathlib.Core.List.{◌++◌}
use lib.ListN.{length, take, drop}
use Rattle.format.specs.Bytes.{each}
use Rattle.format.specs.Limits.{max_axes}
use Rattle.read_records.specs.Values.{axis_from}
use Rattle.read_records.proofs.values.all_records.Given as goal

abbrev pub invariant-loop-i : goal.invariant-loop-i
invariant-loop-i l = (l.all ≡ take l.i (each (axis_from l.sizes l.centrings l.kinds l.labels l.units) 0 max_axes) ++ drop l.i l.initial.all) × (length l.initial.all ≡ max_axes)
