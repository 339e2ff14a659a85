-- `data_place::place::locate_data` meets its contract, by the laws of Located.
use mathlib.Core.Path.{refl, sym, ap, ◌∙◌}
use Rattle.std.proofs.lemmas.Result.{err_from_is_err_and}
use Rattle.format.specs.Data.{nowhere}
use Rattle.format.specs.Reasons.{reason_number}
use Rattle.data_place.specs.Places.{place_located}
use Rattle.data_place.proofs.Located.{some_number, located_wrong, located_unfit, located_second, located_first}
use Rattle.data_place.proofs.place.locate_data.Goals as goal

pub returns-in_err-check_files : goal.returns-in_err-check_files
returns-in_err-check_files c es gs w =
    let a = c.args in
    let e = c.in_err-check_files in
    let h = err_from_is_err_and c.from_residual.result c.from_residual.ensures.1 in
    ap place_located h.1 ∙ ap (λ r. nowhere (reason_number r)) h.2 ∙ sym (located_wrong w a.second.now a.wanted _ e.ensures (some_number e.field-0.0))

pub returns-then-is_unfit : goal.returns-then-is_unfit
returns-then-is_unfit c es gs w =
    let a = c.args in
    sym (located_unfit w a.second.now a.wanted 0 c.in_ok-check_files.ensures refl (sym c.is_unfit.ensures ∙ c.if-is_unfit.true))

pub returns-then-reading-eq-DETACHED : goal.returns-then-reading-eq-DETACHED
returns-then-reading-eq-DETACHED c es gs w =
    let a = c.args in
    c.place_in.ensures
    ∙ sym (located_second w a.second.now a.wanted 0 c.in_ok-check_files.ensures refl (sym c.is_unfit.ensures ∙ c.if-is_unfit.false) c.if-reading-eq-DETACHED.true)

pub returns-else-reading-eq-DETACHED : goal.returns-else-reading-eq-DETACHED
returns-else-reading-eq-DETACHED c es gs w =
    let a = c.args in
    let s = c.area_start in
    c.place_in-else-reading-eq-DETACHED.ensures
    ∙ sym (located_first w a.second.now a.wanted 0 c.in_ok-check_files.ensures refl (sym c.is_unfit.ensures ∙ c.if-is_unfit.false) c.if-reading-eq-DETACHED.false s.result s.ensures)
