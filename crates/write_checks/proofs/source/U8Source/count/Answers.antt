-- `write_checks::source::Source::count` of lent bytes meets its contract. Assumes nothing.
use Rattle.std.proofs.Common.{sym}
use Rattle.format.proofs.Boundary.{length_samples}
use Rattle.write_checks.proofs.source.U8Source.count.Goals as goal

pub returns : goal.returns
returns c = sym (length_samples c.args.held.now)
