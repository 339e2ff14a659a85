-- `reader::digits_at` meets its contract: the digits passed write a number of which m is what is kept, and the rest goes on from there.
use Rattle.std.proofs.Common.{◌≡◌, false, get_or, drop, [], sym, ◌∙◌, arith}
use Rattle.format.specs.Bytes.{is_digit}
use Rattle.format.specs.Samples.{token}
use Rattle.data_text.proofs.TokenLaws.{scan_none, scan_more, scan_bad, scan_empty, scan_done, token_end, token_stop}
use Rattle.data_text.proofs.reader.digits_at.Goals as goal
use Rattle.data_text.proofs.reader.digits_at.Goals.{then-loop-i-test+else-is_digit, else-loop-i-test, else-i-s-via-then-i-s+else-not-is_blank, else-i-s-via-else-i-s}

pub loop-i-init : goal.loop-i-init
loop-i-init c = scan_none _ _ c.requires

pub loop-i-preserved : goal.loop-i-preserved
loop-i-preserved c =
    rw c.with_digit-m.ensures (scan_more c.loop-i.invariant c.loop-i-test.true (sym c.is_digit.ensures ∙ c.if-is_digit.true))

pub returns-then-not-is_blank : goal.returns-then-not-is_blank
returns-then-not-is_blank c =
    let s = c.args.s.now in
    let no_digit : is_digit (get_or s c.loop-i.i 0) ≡ false =
    elim c.loop-i-test.branch [ then-loop-i-test+else-is_digit w ↦ sym w.is_digit.ensures ∙ w.if-is_digit.false | else-loop-i-test w ↦ absurd (omega (arith, w.loop-i-test.false, c.if-i-s.true)) ] in
    scan_bad c.loop-i.invariant c.if-i-s.true (sym c.is_blank.ensures ∙ c.if-not-is_blank.true) no_digit

pub returns-then-i-at : goal.returns-then-i-at
returns-then-i-at c =
    let ended : token (drop c.loop-i.i c.args.s.now) ≡ [] =
    elim c.else-i-s.branch [ else-i-s-via-then-i-s+else-not-is_blank w ↦ token_stop _ _ w.if-i-s.true (sym w.is_blank.ensures ∙ w.if-not-is_blank.false) | else-i-s-via-else-i-s w ↦ token_end _ _ w.if-i-s.false ] in
    scan_empty c.loop-i.invariant ended c.if-i-at.true

pub returns-else-i-at : goal.returns-else-i-at
returns-else-i-at c =
    let ended : token (drop c.loop-i.i c.args.s.now) ≡ [] =
    elim c.else-i-s.branch [ else-i-s-via-then-i-s+else-not-is_blank w ↦ token_stop _ _ w.if-i-s.true (sym w.is_blank.ensures ∙ w.if-not-is_blank.false) | else-i-s-via-else-i-s w ↦ token_end _ _ w.if-i-s.false ] in
    scan_done c.loop-i.invariant ended c.if-i-at.false
