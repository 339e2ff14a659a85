-- `check_values` meets its contract. The invariant: nothing of the samples before `at` is refused.
use Rattle.std.proofs.Common.{refl, sym, ap, ◌∙◌, arith}
use Rattle.std.proofs.lemmas.Result.{err_from_is_err_and}
use Rattle.format.specs.Reasons.{reason_number, refusal_number}
use Rattle.format.specs.Descriptors.{unsigned}
use Rattle.lent_numbers.specs.Widths.{endian_by}
use Rattle.data_hex.proofs.LoopLaws.{checking_none, checking_bad, checking_more, some_number}
use borrow.Author.Rules.{rules}
use Rattle.data_hex.proofs.values.check_values.Goals as goal

pub loop-k-init : goal.loop-k-init
loop-k-init c = let a = c.args in (checking_none unsigned 8 (endian_by a.big) a.n a.s.now, (refl, refl))

pub returns-in_err-at : goal.returns-in_err-at
returns-in_err-at c = λ f.
    let a = c.args in
    let h = err_from_is_err_and c.from_residual.result c.from_residual.ensures.1 in
    ap refusal_number h.1 ∙ ap reason_number h.2
    ∙ checking_bad unsigned 8 (endian_by a.big) a.n a.s.now c.loop-k.invariant.0 c.min-m.result (omega (arith, c.min-m.ensures)) _ c.in_err-at.ensures.checked (some_number c.in_err-at.field-0.0) f

pub loop-k-preserved : goal.loop-k-preserved
loop-k-preserved c =
    let a = c.args in
    let e = c.in_ok-at.ensures in
    (checking_more unsigned 8 (endian_by a.big) a.n a.s.now c.loop-k.invariant.0 c.min-m.result (omega (arith, c.min-m.ensures)) c.in_ok-at.at e.passed.0 (λ f. (e.passed.1 f, sym (e.checked f))), (search rules, search rules))
