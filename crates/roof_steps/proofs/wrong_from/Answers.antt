-- `wrong_from` meets its contract: the search stops at a wrong step, or after the last row.
use Rattle.std.proofs.Common.{sym, ap, ◌∙◌, arith}
use Rattle.roof_steps.specs.Steps.{number_found}
use Rattle.roof_steps.proofs.Stamps.{ended, went, stopped}
use Rattle.roof_steps.proofs.wrong_from.Goals as goal

pub returns-then-not-is_right : goal.returns-then-not-is_right
returns-then-not-is_right g c =
    let a = c.args in
    let l = c.loop-i in
    let no = sym c.is_right.ensures ∙ c.if-not-is_right.true in
    ap number_found (sym (stopped (g.C.Lent.samples a.samples.now) a.rows a.m a.largest l.i l.before c.stamp_at-after.result c.step.result (omega arith) c.stamp_at-after.ensures c.step.ensures no) ∙ l.invariant)

pub loop-i-preserved : goal.loop-i-preserved
loop-i-preserved g c =
    let a = c.args in
    let l = c.loop-i in
    let yes = sym c.is_right.ensures ∙ c.if-not-is_right.false in
    sym (went (g.C.Lent.samples a.samples.now) a.rows a.m a.largest l.i l.before c.stamp_at-after.result c.step.result (omega arith) c.stamp_at-after.ensures c.step.ensures yes) ∙ l.invariant

pub returns : goal.returns
returns g c =
    let a = c.args in
    ap number_found (sym (ended (g.C.Lent.samples a.samples.now) a.rows a.m a.largest _ c.loop-i.before (omega arith)) ∙ c.loop-i.invariant)
