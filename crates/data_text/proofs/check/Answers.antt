-- `check` meets its contract: the bounds are those of the type, and all samples are read in one turn.
use Rattle.std.proofs.Common.{◌∙◌}
use Rattle.format.specs.Samples.{Decoded}
use Rattle.lent_numbers.specs.Widths.{kind_by}
use Rattle.data_text.proofs.WalkLaws.{by_type}
use Rattle.data_text.proofs.check.Goals as goal

pub returns : goal.returns
returns c =
    let a = c.args in
    λ x. c.read.ensures.refusal ∙ by_type (kind_by a.signed) a.w (c.of.ensures.low x) (c.of.ensures.high x) (λ (d : Decoded). d.number) a.n a.s.now
