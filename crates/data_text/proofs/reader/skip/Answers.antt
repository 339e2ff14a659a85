-- `reader::skip` meets its contract: what follows the blanks from `at` on is what follows those from i on.
use Rattle.std.proofs.Common.{sym, ◌∙◌, arith}
use Rattle.data_text.proofs.TokenLaws.{skip_end, skip_more, skip_stop}
use Rattle.data_text.proofs.reader.skip.Goals as goal

pub loop-i-preserved : goal.loop-i-preserved
loop-i-preserved c =
    let j = c.loop-i.invariant in
    record { from = omega arith; within = omega arith; past = j.past ∙ skip_more _ _ c.loop-i-test.true (sym c.is_blank.ensures ∙ c.if-is_blank.true) }

pub returns-else-is_blank : goal.returns-else-is_blank
returns-else-is_blank c =
    let j = c.loop-i.invariant in
    record { from = j.from; within = j.within; past = j.past ∙ skip_stop _ _ c.loop-i-test.true (sym c.is_blank.ensures ∙ c.if-is_blank.false) }

pub returns-after-loop-i : goal.returns-after-loop-i
returns-after-loop-i c =
    let j = c.loop-i.invariant in
    record { from = j.from; within = j.within; past = j.past ∙ skip_end _ _ c.loop-i-test.false }
