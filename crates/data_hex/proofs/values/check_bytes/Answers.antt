-- `check_bytes` meets its contract: the highest bytes tell what the samples come to.
use Rattle.std.proofs.Common.{rules}
use Rattle.data_hex.proofs.HighLaws.{high_told}
use Rattle.data_hex.proofs.values.check_bytes.Goals as goal

pub returns-then-has_high : goal.returns-then-has_high
returns-then-has_high c =
    let a = c.args in
    high_told a.big a.m a.bytes.now c.requires (λ i. search rules) c.top_place.ensures.0 c.has_high.ensures c.if-has_high.true

pub returns-else-has_high : goal.returns-else-has_high
returns-else-has_high c =
    let a = c.args in
    high_told a.big a.m a.bytes.now c.requires (λ i. search rules) c.top_place.ensures.0 c.has_high.ensures c.if-has_high.false
