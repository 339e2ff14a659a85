use Rattle.std.proofs.Common.{◌*◌, ap, ◌∙◌, sym, to_z-of_z}
use mir.Syntax.{w64}
use Rattle.std.proofs.lemmas.List.Edits.{sets}
use Rattle.lent_numbers.specs.Cells.{words_one}
use Rattle.lent_numbers.proofs.cell.U8Cell.put.Goals as goal

pub returns : goal.returns
returns c = c.put_sample.ensures ∙ rw (to_z-of_z {w = w64} c.ranges.z) (ap (sets c.args.cells.now (8 * c.args.k)) (sym (words_one c.args.z)))
