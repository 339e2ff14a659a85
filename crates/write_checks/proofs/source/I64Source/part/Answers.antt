-- `write_checks::source::Source::part` of a list meets its contract. Assumes nothing.
use Rattle.write_checks.proofs.Bits.{cut_is}
use Rattle.write_checks.proofs.source.I64Source.part.Goals as goal

pub returns : goal.returns
returns c = cut_is c.args.held.now c.args.from c.args.to c.requires.0
