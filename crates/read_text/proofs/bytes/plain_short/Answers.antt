-- `bytes::plain_short` meets its contract.
use Rattle.std.proofs.Common.{rules, ◌∙◌}
use borrow.Author.Tests.{tests}
use Rattle.std.proofs.lemmas.Iterator.{YieldsList-from_slice}
use Rattle.std.proofs.lemmas.Iterator.Search.{all_from_yields_List}
use Rattle.format.specs.Pairs.{plain}
use Rattle.read_text.proofs.Places.{every_is}
use Rattle.read_text.proofs.bytes.plain_short.Goals as goal

pub returns : goal.returns
returns c =
    all_from_yields_List plain _ _ _ c.all.ensures.ran (YieldsList-from_slice c.args.s.now cc) (λ x b q k. search (rules, tests))
    ∙ every_is plain c.args.s.now
