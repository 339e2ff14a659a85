-- `check_block` meets its contract: the samples of the bytes that were taken.
use Rattle.std.proofs.Common.{ap, ◌∙◌, arith}
use Rattle.std.proofs.lemmas.Result.{err_from_is_err_and}
use Rattle.format.specs.Reasons.{reason_number, refusal_number}
use Rattle.format.specs.Descriptors.{unsigned}
use Rattle.format.specs.Samples.{Decoded}
use Rattle.lent_numbers.specs.Widths.{endian_by}
use Rattle.data_hex.proofs.LoopLaws.{taken_samples}
use Rattle.data_hex.proofs.values.check_block.Goals as goal

pub returns-in_err-check_bytes-clause-checked : goal.returns-in_err-check_bytes-clause-checked
returns-in_err-check_bytes-clause-checked c = λ f.
    let a = c.args in
    let h = err_from_is_err_and c.from_residual.result c.from_residual.ensures.1 in
    ap refusal_number h.1 ∙ ap reason_number h.2 ∙ c.in_err-check_bytes.ensures ∙ ap (λ (d : Decoded). d.number) (taken_samples unsigned 8 (endian_by a.big) a.s.now a.m a.at _ _ (omega arith) f (c.next_bytes-next.ensures.taken f))

pub returns-clause-checked : goal.returns-clause-checked
returns-clause-checked c = λ f.
    let a = c.args in
    c.in_ok-check_bytes.ensures ∙ ap (λ (d : Decoded). d.number) (taken_samples unsigned 8 (endian_by a.big) a.s.now a.m a.at _ _ (omega arith) f (c.next_bytes-next.ensures.taken f))
