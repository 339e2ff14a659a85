-- `data_place::place::find_data` meets its contract: the reading, then the place.
use mathlib.Core.Path.{refl, ap, ◌∙◌}
use Rattle.std.proofs.lemmas.Result.{err_from_is_err_and}
use Rattle.format.specs.Reasons.{refusal_of}
use Rattle.format.specs.Calls.{no_data, data_answer}
use Rattle.data_place.specs.Places.{located_answered}
use Rattle.data_place.proofs.Located.{call_located}
use Rattle.data_place.proofs.place.find_data.Goals as goal

pub returns-in_err-locate_data : goal.returns-in_err-locate_data
returns-in_err-locate_data c =
    let a = c.args in
    let r = c.from_residual-in_err-locate_data in
    let h = err_from_is_err_and r.result r.ensures.1 in
    ap located_answered h.1 ∙ ap (λ r. no_data (refusal_of r)) h.2
    ∙ call_located a.file.now a.second.now _ c.in_ok-reading.ensures refl _ (λ es gs w. ap data_answer (c.in_err-locate_data.ensures es gs w))

pub returns : goal.returns
returns c =
    let a = c.args in
    call_located a.file.now a.second.now _ c.in_ok-reading.ensures refl _ (λ es gs w. ap data_answer (c.in_ok-locate_data.ensures es gs w))
