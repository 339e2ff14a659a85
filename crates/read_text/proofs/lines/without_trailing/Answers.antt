-- `lines::without_trailing` meets its contract.
use Rattle.std.proofs.Common.{rules, arith, ap, sym, ◌∙◌, length}
use Rattle.format.specs.Words.{trim_end}
use Rattle.read_text.proofs.Places.{trim_end_none, trim_end_space, trim_end_other}
use Rattle.read_text.proofs.lines.without_trailing.Goals as goal

pub returns-then-not-is_blank : goal.returns-then-not-is_blank
returns-then-not-is_blank c =
    let s = c.in-Some in
    let l = c.loop-last in
    let e = s.ensures.cases.0 in
    let t = l.invariant.1 ∙ ap trim_end e ∙ trim_end_other s.front.now s.last.now (sym c.is_blank.ensures ∙ c.if-not-is_blank.true) ∙ sym e in
    (ap length (sym t), l.invariant.0)

pub loop-last-smaller : goal.loop-last-smaller
loop-last-smaller c = omega (arith, c.in-Some.ensures.cases.1)

pub loop-last-preserved : goal.loop-last-preserved
loop-last-preserved c =
    let s = c.in-Some in
    let l = c.loop-last in (
      omega (arith, s.ensures.cases.1),
      l.invariant.1 ∙ ap trim_end s.ensures.cases.0 ∙ trim_end_space s.front.now s.last.now (sym c.is_blank.ensures ∙ c.if-not-is_blank.false),
    )

pub returns : goal.returns
returns c = (rw c.loop-last.invariant.1 (sym (trim_end_none c.loop-last.rest.now c.in_default.ensures.cases)), search rules)
