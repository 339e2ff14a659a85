-- `write_data::put_text` meets its contract: `Putting` of Runs.antt. Assumes nothing.
use Rattle.std.proofs.Common.{drop}
use mathlib.Core.List.{flat_map}
use Rattle.format.specs.Writer.{text_data}
use Rattle.write_parts.specs.Stored.{text_line}
use Rattle.write_parts.proofs.Runs.{Putting}
use Rattle.write_data.proofs.put_text.Given as goal

abbrev pub invariant-loop-i : goal.invariant-loop-i
invariant-loop-i g l = let zs = g.S.Source.samples l.samples in Putting (text_data zs) l.initial.out l.at l.out l.o (flat_map text_line (drop l.i zs))
