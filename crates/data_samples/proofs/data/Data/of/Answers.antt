-- `of` meets its contract: the width is that of the type, and the bytes are enough for raw samples.
use Rattle.std.proofs.Common.{sym, ◌∙◌}
use Rattle.format_values.proofs.TypeLaws.{type_bytes, type_width}
use Rattle.lent_numbers.proofs.WidthLaws.{width_is}
use Rattle.data_samples.proofs.Parts.{code_of, raw_coded, data_decoded}
use Rattle.data_samples.proofs.data.Data.of.Goals as goal

pub nonzero_div-result : goal.nonzero_div-result
nonzero_div-result c = rw c.sample_bytes-width.ensures (type_bytes c.args.reading.now.sampletype)

pub invariant_of-result : goal.invariant_of-result
invariant_of-result c =
    let q = code_of c.try_from.result _ c.try_from.ensures in
    record {
      is_width = rw c.sample_bytes-width.ensures (width_is _ (type_width c.args.reading.now.sampletype));
      enough = λ e. rw c.sample_bytes-width.ensures (c.requires.enough (raw_coded _ _ q (sym c.unwrap_or.ensures ∙ e)));
    }

pub returns-clause-decoded : goal.returns-clause-decoded
returns-clause-decoded c =
    let x = c.args.reading.now in
    let q = code_of c.try_from.result _ c.try_from.ensures in
    rw (c.sample_bytes-width.ensures, c.is_signed.ensures, c.unwrap_or.ensures) (data_decoded x _ c.args.bytes.now _ c.requires q)
