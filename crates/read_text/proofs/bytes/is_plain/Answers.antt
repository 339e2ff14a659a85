-- `read_text::bytes::is_plain` meets its contract.
use borrow.Author.Rules.{rules}
use mathlib.Core.Path.{sym, ◌∙◌}
use Rattle.read_text.proofs.bytes.is_plain.Goals as goal

pub returns-then-not-plain_pair : goal.returns-then-not-plain_pair
returns-then-not-plain_pair c = sym (c.loop-i.invariant.1 ∙ c.plain_pair.ensures ∙ rw (c.if-not-plain_pair.true))

pub loop-i-preserved : goal.loop-i-preserved
loop-i-preserved c =
    let b = c.plain_pair in
    (search rules, c.loop-i.invariant.1 ∙ b.ensures ∙ rw (c.if-not-plain_pair.false))

pub returns : goal.returns
returns c = c.plain_end.ensures c.loop-i.invariant.1
