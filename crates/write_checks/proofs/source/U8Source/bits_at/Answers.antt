-- `write_checks::source::Source::bits_at` of lent bytes meets its contract. Assumes nothing.
use Rattle.std.proofs.Common.{arith, ap, ◌∙◌}
use Rattle.format.specs.Samples.{from_bytes, to_signed}
use Rattle.format.proofs.Boundary.{lent_room, length_samples}
use Rattle.write_checks.proofs.Bits.{word_sample}
use Rattle.write_checks.proofs.source.U8Source.bits_at.Goals as goal

pub word_at-requires : goal.word_at-requires
word_at-requires c =
    let s = c.args.held.now in
    lent_room from_bytes 8 s c.args.k (omega (arith, c.requires, length_samples s))

pub returns : goal.returns
returns c =
    let s = c.args.held.now in
    ap (to_signed 8) c.word_at.ensures ∙ word_sample s c.args.k (omega (arith, c.requires, length_samples s))
