-- `short::number` meets its contract: m is the number of the digits passed.
use native.Mathlib.Omega.{arith}
use mathlib.Core.Path.{sym, ◌∙◌}
use borrow.Author.Tests.{ltb-true}
use Rattle.data_text.proofs.ShortLaws.{numbering_one, numbering_more, numbered, numbering_small}
use Rattle.data_text.proofs.short.number.Goals as goal

pub with_digit-m-requires : goal.with_digit-m-requires
with_digit-m-requires c = (omega arith, λ e. sym c.is_digit.ensures ∙ e)

pub loop-j-init : goal.loop-j-init
loop-j-init c =
    let p = c.requires in
    numbering_one p.0 p.1.0 p.1.1 _ c.is_digit.ensures _ c.with_digit-m.ensures

pub with_digit-m-requires-in-loop-j : goal.with_digit-m-requires-in-loop-j
with_digit-m-requires-in-loop-j c =
    let l = c.loop-j in
    (numbering_small l.invariant, λ e. c.requires.1.0.digits l.j l.invariant.some (ltb-true l.j c.args.n e))

pub loop-j-preserved : goal.loop-j-preserved
loop-j-preserved c =
    let p = c.requires in
    numbering_more p.0 p.1.0 c.loop-j-test.true c.loop-j.invariant _ c.with_digit-m-in-loop-j.ensures

pub returns : goal.returns
returns c =
    let p = c.requires in
    numbered p.0 p.1.0 c.loop-j-test.false c.loop-j.invariant
