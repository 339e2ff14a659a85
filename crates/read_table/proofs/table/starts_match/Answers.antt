-- What is left decides, line by line.
use Rattle.std.proofs.Common.{sym, ◌∙◌}
use Rattle.read_lines.proofs.LineCuts.{found_at}
use Rattle.read_table.proofs.Lining.{one_left, lined_short, lined_within, lined_some}
use Rattle.read_table.proofs.Matching.{matching_next, matching_not, matching_done}
use Rattle.read_table.proofs.table.starts_match.Goals as goal

pub returns-then-get-at : goal.returns-then-get-at
returns-then-get-at g c =
    matching_not c.loop-k.invariant c.loop-k-test.true (λ e. c.if-get-at.true (c.get.ensures ∙ e))

pub line_at-requires : goal.line_at-requires
line_at-requires g c =
    let l = c.loop-k.invariant.lined in
    (lined_within l (one_left c.loop-k-test.true), lined_short l)

pub returns-in_default : goal.returns-in_default
returns-in_default g c =
    absurd (lined_some c.loop-k.invariant.lined (one_left c.loop-k-test.true) c.in_default.not-Some c.line_at.ensures)

pub loop-k-preserved : goal.loop-k-preserved
loop-k-preserved g c =
    matching_next c.loop-k.invariant c.loop-k-test.true (found_at c.in-Some.is c.line_at.ensures) (sym c.get.ensures ∙ c.if-get-at.false)

pub returns : goal.returns
returns g c = matching_done c.loop-k.invariant c.loop-k-test.false
