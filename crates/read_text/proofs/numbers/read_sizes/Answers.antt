-- `read_text::numbers::read_sizes` meets its contract.
use Rattle.format.specs.Words.{words}
use Rattle.read_text.proofs.NumberLaws.{sizes_flagged, sizes_flagged_none}
use Rattle.read_text.proofs.numbers.read_sizes.Goals as goal

pub returns-in-Some : goal.returns-in-Some
returns-in-Some c = sizes_flagged c.args.dimension (words c.args.s.now) c.in-Some.sizes c.in-Some.ensures

pub returns-in-None : goal.returns-in-None
returns-in-None c = sizes_flagged_none c.args.dimension (words c.args.s.now) c.in-None.ensures
