-- `found` meets its contract: a row is as long as the first size, and there are as many as the second.
use Rattle.std.proofs.Common.{◌∙◌}
use Rattle.roof_sweep.proofs.OffsetLaws.{row_told}
use Rattle.roof_sweep.proofs.found.Goals as goal

pub returns : goal.returns
returns g c = rw (c.is_some.ensures, c.unwrap_or.ensures, c.wrong_row-wrong.ensures) (row_told c.args.offset _)
