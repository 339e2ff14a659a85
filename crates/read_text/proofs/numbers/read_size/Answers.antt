-- `numbers::read_size` meets its contract.
use Rattle.std.proofs.Common.{◌∙◌}
use Rattle.format.specs.Words.{number}
use Rattle.read_text.proofs.NumberLaws.{size_is}
use Rattle.read_text.proofs.numbers.read_size.Goals as goal

pub returns : goal.returns
returns c = c.unwrap_or.ensures ∙ rw c.read_number.ensures (size_is (number c.args.s.now))
