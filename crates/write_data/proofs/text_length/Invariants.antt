-- `write_data::text_length` meets its contract. The loop's invariant: what is counted and the text of the samples from i on are as long as all the text. Assumes nothing.
use Rattle.std.proofs.Common.{◌≡◌, ◌+◌, ◌*◌, ◌≤◌, length, drop}
use mathlib.Core.List.{flat_map}
use Rattle.write_parts.specs.Stored.{text_line}
use Rattle.write_data.proofs.text_length.Given as goal

abbrev pub invariant-loop-i : goal.invariant-loop-i
invariant-loop-i g l = let zs = g.S.Source.samples l.samples in (l.total + length (flat_map text_line (drop l.i zs)) ≡ length (flat_map text_line zs)) × (l.total ≤ 22 * l.i)
