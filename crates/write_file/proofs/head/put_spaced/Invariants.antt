-- `write_file::head::put_spaced` meets its contract: `Putting` of Runs.antt. Assumes nothing.
use Rattle.std.proofs.Common.{◌+◌, ◌*◌, ◌≤◌, drop}
use mathlib.Core.List.{flat_map}
use Rattle.write_file.specs.Stored.{after_space}
use Rattle.write_parts.proofs.Runs.{Putting}
use Rattle.write_file.proofs.head.put_spaced.Given as goal

abbrev pub invariant-loop-n : goal.invariant-loop-n
invariant-loop-n l = Putting (flat_map after_space l.ns) l.initial.out l.at l.out l.o (flat_map after_space (drop l.n-index l.ns)) × (l.o ≤ l.at + 21 * l.n-index)
