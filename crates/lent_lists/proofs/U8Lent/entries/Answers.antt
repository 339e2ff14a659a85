-- A list of bytes has as many samples as it has whole groups of 8, and its cells are bytes.
use Rattle.std.proofs.Common.{sym}
use Rattle.format.proofs.Boundary.{length_samples}
use Rattle.format.proofs.Samples.{all_bytes}
use Rattle.lent_lists.proofs.U8Lent.entries.Goals as goal

pub returns-clause-count : goal.returns-clause-count
returns-clause-count c = sym (length_samples c.args.cells.now)

pub returns-clause-sound : goal.returns-clause-sound
returns-clause-sound c = all_bytes c.args.cells.now (λ i. (c.type_inv.cells i).fits)
