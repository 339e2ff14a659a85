-- `write_data::put_low` meets its contract: `Putting` of Runs.antt. Assumes nothing.
use Rattle.std.proofs.Common.{drop}
use mathlib.Core.List.{flat_map}
use Rattle.write_parts.proofs.Runs.{Putting}
use Rattle.write_data.specs.Data.{low_bytes}
use Rattle.write_data.proofs.put_low.Given as goal

abbrev pub invariant-loop-i : goal.invariant-loop-i
invariant-loop-i g l = let zs = g.S.Source.samples l.samples in let f = low_bytes g.row.W l.fn.endian in Putting (flat_map f zs) l.initial.out l.at l.out l.o (flat_map f (drop l.i zs))
