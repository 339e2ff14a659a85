-- `write_data::check_file` meets its contract. Assumes nothing.
use Rattle.std.proofs.Common.{◌+◌, ◌*◌, ℕ, arith, ap, ◌∙◌, length}
use Rattle.format.specs.Writer.{data_bytes}
use Rattle.write_checks.specs.Refused.{late_refusal}
use Rattle.write_data.proofs.Samples.{text_is, late_less}
use Rattle.write_data.proofs.check_file.Goals as goal

pub returns-then-any_text_fits : goal.returns-then-any_text_fits
returns-then-any_text_fits g c =
    let a = c.args in
    let zs = g.S.Source.samples a.samples.now in
    let p = c.any_text_fits.ensures c.if-any_text_fits.true in
    let q = p.1 ∙ ap (λ (k : ℕ). late_refusal (a.start + 22 * k) a.room) c.count.ensures in
    λ n. late_less (a.start + length (data_bytes a.encoding a.w n zs)) (a.start + 22 * length zs) a.room (omega (arith, ap length (text_is a.encoding a.w n zs p.0), c.requires.text_bounded)) q
