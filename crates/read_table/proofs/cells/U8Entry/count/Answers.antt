-- The bytes of a table have an entry for each 4.
use Rattle.std.proofs.Common.{sym}
use Rattle.format.proofs.Boundary.{length_numbers}
use Rattle.read_table.proofs.cells.U8Entry.count.Goals as goal

pub returns : goal.returns
returns c = sym (length_numbers 4 c.args.bytes.now)
