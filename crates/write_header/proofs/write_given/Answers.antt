-- `write_given` meets its contract: the refusals before the text, then the answer for the text. Assumes nothing.
use Rattle.std.proofs.Common.{◌≡◌, refl, ap, ◌∙◌, arith, take}
use Rattle.format.specs.Header.{header}
use Rattle.format.specs.HeaderWriter.{orientation_of, oriented_bytes, after_reading}
use Rattle.format.specs.Reasons.{reason_number}
use Rattle.write_parts.proofs.Runs.{stored_front}
use Rattle.write_checks.specs.Checked.{on_asked}
use Rattle.write_file.proofs.Reasons.{reason_some, answer_is}
use Rattle.write_header.specs.Headers.{text_of}
use Rattle.write_header.proofs.AskedLaws.{asked_refused, asked_fine, text_same}
use Rattle.write_header.proofs.write_given.Goals as goal

pub returns-in_err-header : goal.returns-in_err-header
returns-in_err-header c =
    let a = c.args.asked in
    let g = c.args.given.now in
    let out = c.args.out.now in
    let reason = c.in_err-header.field-0.0 in
    ap (λ x. (x, out)) (answer_is c.from_residual.result reason c.from_residual.ensures)
    ∙ asked_refused a.version g.shape g.origin g.directions g.frame a.sizes.now a.sampletype a.encoding a.endian out (reason_number reason) c.in_err-header.ensures.is (reason_some reason)

pub returns : goal.returns
returns c =
    let a = c.args.asked in
    let g = c.args.given.now in
    let out = c.args.out.now in
    let h = c.in_ok-header.header in
    let p = c.put_text-n in
    let same = c.in_ok-header.ensures.of in
    let f : take p.result p.new.text ≡ text_of h = stored_front p.new.text _ (text_of h) p.result p.ensures.stored p.ensures.place (omega (arith, p.ensures.long)) in
    c.hand_over.ensures
    ∙ ap (λ t. after_reading (header t) t out) (f ∙ text_same a h g same.0 same.1)
    ∙ asked_fine a.version g.shape g.origin g.directions g.frame a.sizes.now a.sampletype a.encoding a.endian out 0 c.in_ok-header.ensures.is refl
