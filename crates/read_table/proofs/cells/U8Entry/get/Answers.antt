-- Entry k of lent bytes.
use Rattle.std.proofs.Common.{sym, ◌∙◌, arith}
use Rattle.format.proofs.Boundary.{length_numbers, number_at}
use Rattle.read_table.proofs.cells.U8Entry.get.Goals as goal

pub entry_at-requires : goal.entry_at-requires
entry_at-requires c = omega (arith, c.requires, length_numbers 4 c.args.bytes.now)

pub returns : goal.returns
returns c = c.entry_at.ensures ∙ sym (number_at 4 c.args.bytes.now c.args.k (omega (arith, c.requires, length_numbers 4 c.args.bytes.now)))
