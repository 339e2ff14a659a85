-- `write_checks::source::Source::bits_at` of a list meets its contract. Assumes nothing.
use lib.Signed.{mag}
use Rattle.std.proofs.Common.{◌<◌, get_or, pos, ap, ◌∙◌, rules}
use Rattle.format.specs.Samples.{to_signed, from_signed}
use Rattle.write_checks.proofs.Bits.{read_back, signed_back}
use Rattle.write_checks.proofs.source.I64Source.bits_at.Goals as goal

pub returns : goal.returns
returns c =
    let z = get_or c.args.held.now c.args.k (pos 0) in
    let h : mag z < 9223372036854775808 = search rules in
    ap (to_signed 8) (c.bits_of.ensures ∙ ap (from_signed 8) (read_back z h)) ∙ signed_back z h
