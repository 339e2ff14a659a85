-- `read_text::escapes::unescapes` meets its contract: the bytes passed have only allowed backslashes.
use mathlib.Core.Path.{sym, ap, ◌∙◌}
use borrow.Author.Rules.{rules}
use Rattle.format.specs.Bytes.{is_some}
use Rattle.read_text.proofs.Meanings.{nothing_left, some_next}
use Rattle.read_text.proofs.escapes.unescapes.Goals as goal

pub returns-in_default : goal.returns-in_default
returns-in_default c =
    let l = c.loop-i in
    sym (l.invariant.1 ∙ ap is_some (c.in_default.ensures.bad))

pub loop-i-preserved : goal.loop-i-preserved
loop-i-preserved c =
    let l = c.loop-i in
    (search rules, l.invariant.1 ∙ some_next c.in-Some.ensures)

pub returns : goal.returns
returns c =
    let l = c.loop-i in
    sym (l.invariant.1 ∙ ap is_some (nothing_left _ l.i c.loop-i-test.false))
