-- `write_data::put_hex` meets its contract: `Putting` of Runs.antt, a part of the samples at a time. Assumes nothing.
use Rattle.std.proofs.Common.{◌≡◌, ◌-◌, ◌≤◌, length, drop}
use mathlib.Core.List.{flat_map}
use Rattle.format.specs.Writer.{hex_text}
use Rattle.write_parts.proofs.Runs.{Putting}
use Rattle.write_data.specs.Data.{low_bytes}
use Rattle.write_data.proofs.put_hex.Given as goal

abbrev pub invariant-loop-i : goal.invariant-loop-i
invariant-loop-i g l = let zs = g.S.Source.samples l.samples in let f = low_bytes l.w l.endian in Putting (hex_text (flat_map f zs)) l.initial.out l.at l.out l.o (hex_text (flat_map f (drop l.i zs))) × (l.i ≤ length zs) × (2048 ≡ length l.part)

abbrev pub decreases-loop-i : goal.decreases-loop-i
decreases-loop-i g l = l.n - l.i
