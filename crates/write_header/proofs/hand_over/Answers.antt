-- `hand_over` meets its contract: the laws of the reading, from what each call ensures. Assumes nothing.
use Rattle.std.proofs.Common.{refl, ap, ◌∙◌, arith, Ok}
use Rattle.format.specs.Answers.{reading_answered}
use Rattle.format.specs.Reasons.{refusal_of}
use Rattle.write_header.proofs.AskedLaws.{read_short, read_stored}
use Rattle.write_header.proofs.hand_over.Goals as goal

pub returns-then-out-text : goal.returns-then-out-text
returns-then-out-text c =
    let a = c.args in
    ap (λ r. (record { refusal = refusal_of r; length = 0 }, a.out.now)) c.into.ensures
    ∙ read_short a.text.now a.out.now (reading_answered (Ok c.in_ok-reading.field-0)) c.in_ok-reading.ensures refl (omega (arith, c.if-out-text.true))

pub returns : goal.returns
returns c =
    let a = c.args in
    let p = c.put_bytes in
    read_stored a.text.now a.out.now (reading_answered (Ok c.in_ok-reading.field-0)) c.in_ok-reading.ensures refl (omega (arith, c.if-out-text.false)) p.ensures.stored (omega (arith, p.ensures.place))
