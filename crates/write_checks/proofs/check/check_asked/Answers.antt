-- `write_checks::check::check_asked` meets its contract. Assumes nothing.
use Rattle.std.proofs.Common.{ap, sym, ◌∙◌}
use Rattle.format.specs.Reasons.{reason_number}
use Rattle.write_checks.proofs.Refuse.{early_descriptor, number_is}
use Rattle.write_checks.proofs.check.check_asked.Goals as goal

pub returns-in_err-array-clause-refusal : goal.returns-in_err-array-clause-refusal
returns-in_err-array-clause-refusal g c =
    let a = c.args.asked in
    let h = c.in_err-array.ensures in
    number_is c.from_residual.result c.in_err-array.field-0.0 c.from_residual.ensures ∙ ap reason_number h.0
    ∙ sym (early_descriptor a.version a.sizes.now a.sampletype a.encoding a.endian (g.S.Source.samples c.args.samples.now) h.1)
