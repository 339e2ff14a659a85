-- `read_text::escapes::means` meets its contract: what the bytes passed mean is the key's front.
use mathlib.Core.Path.{sym, ap, ◌∙◌}
use lib.ListN.{drop}
use borrow.Author.Rules.{rules}
use Rattle.read_text.specs.Meanings.{means_key}
use Rattle.read_text.proofs.Meanings.{nothing_left, means_more, means_other, means_next, means_end}
use Rattle.read_text.proofs.escapes.means.Goals as goal

pub returns-in_default : goal.returns-in_default
returns-in_default c =
    let l = c.loop-i in
    sym (l.invariant.2 ∙ ap (means_key _) (c.in_default.ensures.bad))

pub returns-then-key-k : goal.returns-then-key-k
returns-then-key-k c =
    let a = c.args in
    let l = c.loop-i in
    sym (l.invariant.2 ∙ means_more c.in-Some.ensures a.key.now l.k c.if-key-k.true)

pub returns-then-key-k-2 : goal.returns-then-key-k-2
returns-then-key-k-2 c =
    let a = c.args in
    let l = c.loop-i in
    sym (l.invariant.2 ∙ means_other c.in-Some.ensures a.key.now l.k c.if-key-k.false c.if-key-k-2.true)

pub loop-i-preserved : goal.loop-i-preserved
loop-i-preserved c =
    let a = c.args in
    let l = c.loop-i in (
      search rules,
      search rules,
      l.invariant.2 ∙ means_next c.in-Some.ensures a.key.now l.k c.if-key-k.false c.if-key-k-2.false,
    )

pub returns : goal.returns
returns c =
    let l = c.loop-i in
    let a = c.args in
    sym (l.invariant.2 ∙ ap (means_key (drop l.k a.key.now)) (nothing_left a.s.now l.i c.loop-i-test.false) ∙ means_end a.key.now l.k l.invariant.1)
