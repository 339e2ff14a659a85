-- `write_checks::source::Source::part` of lent bytes meets its contract. Assumes nothing.
use Rattle.std.proofs.Common.{arith, ◌∙◌}
use Rattle.format.specs.Boundary.{samples_lent}
use Rattle.format.proofs.Boundary.{length_samples}
use Rattle.write_checks.proofs.Bits.{lent_part, cut_is}
use Rattle.write_checks.proofs.source.U8Source.part.Goals as goal

pub overflow_mul-result : goal.overflow_mul-result
overflow_mul-result c = omega (arith, c.requires, length_samples c.args.held.now)

pub overflow_mul-result-2 : goal.overflow_mul-result-2
overflow_mul-result-2 c = omega (arith, c.requires, length_samples c.args.held.now)

pub slice_bounds-result-end : goal.slice_bounds-result-end
slice_bounds-result-end c = omega (arith, c.requires, length_samples c.args.held.now)

pub returns : goal.returns
returns c =
    let a = c.args in
    let s = a.held.now in
    lent_part s a.from a.to c.requires.0 (omega (arith, c.requires, length_samples s)) ∙ cut_is (samples_lent s) a.from a.to c.requires.0
