-- `read_text::bytes::plain_pair` meets its contract: one law over both halves. Assumes nothing.
use Rattle.format.specs.Pairs.{plain}
use Rattle.read_text.proofs.Places.{blocks_both}
use Rattle.read_text.proofs.bytes.plain_pair.Goals as goal

pub returns : goal.returns
returns c =
    let a = c.args in
    let p = c.plain_block in
    let q = c.plain_block-2 in
    blocks_both plain a.s.now a.at p.result q.result p.ensures q.ensures
