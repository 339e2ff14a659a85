-- `scan` meets its contract. The invariant: the digits counted are those up to `at`.
use Rattle.data_hex.proofs.DigitLaws.{reached_end, reached_bad, reached_more, reached_whole}
use Rattle.data_hex.proofs.scan.scan.Goals as goal

pub loop-digits-init : goal.loop-digits-init
loop-digits-init c = c.scan_blocks-at.ensures

pub returns-then-s-at : goal.returns-then-s-at
returns-then-s-at c =
    let a = c.args in
    let i = c.loop-digits in
    reached_end a.s.now a.need i.at i.digits i.invariant c.loop-digits-test.true c.if-s-at.true

pub returns-then-not-d-is_blank : goal.returns-then-not-d-is_blank
returns-then-not-d-is_blank c =
    let a = c.args in
    let i = c.loop-digits in
    reached_bad a.s.now a.need i.at i.digits i.invariant c.loop-digits-test.true c.if-s-at.false _ _ c.is_digit-d.ensures.ranges c.is_blank.ensures c.if-not-d-is_blank.true

pub loop-digits-preserved : goal.loop-digits-preserved
loop-digits-preserved c =
    let a = c.args in
    let i = c.loop-digits in
    reached_more a.s.now a.need i.at i.digits i.invariant c.loop-digits-test.true c.if-s-at.false _ _ c.is_digit-d.ensures.ranges c.is_blank.ensures c.if-not-d-is_blank.false _ c.one_if.ensures

pub returns : goal.returns
returns c =
    let a = c.args in
    let i = c.loop-digits in
    reached_whole a.s.now a.need i.at i.digits i.invariant c.loop-digits-test.false
