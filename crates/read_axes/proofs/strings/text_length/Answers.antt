-- `strings::text_length` meets its contract: no quote that closes the string was passed.
use borrow.Author.Rules.{rules}
use native.Mathlib.Omega.{arith}
use Rattle.read_axes.proofs.StringLaws.{text_stop, text_more, text_end}
use Rattle.read_axes.proofs.strings.text_length.Goals as goal

pub returns-then-b-escaped : goal.returns-then-b-escaped
returns-then-b-escaped c =
    let l = c.loop-i in
    let s = c.args.s.now in
    (omega (arith, text_stop l.escaped s l.i c.loop-i-test.true c.if-b-escaped.true), search rules)

pub loop-i-preserved : goal.loop-i-preserved
loop-i-preserved c =
    let l = c.loop-i in
    omega (arith, text_more l.escaped c.args.s.now l.i c.loop-i-test.true c.if-b-escaped.false)

pub returns : goal.returns
returns c =
    let l = c.loop-i in
    (omega (arith, text_end l.escaped c.args.s.now l.i c.loop-i-test.false), search rules)
