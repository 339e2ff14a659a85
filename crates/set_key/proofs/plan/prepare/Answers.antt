-- The reading, the key, the value and the table, then the numbers of the new file, each by one law.
use Rattle.std.proofs.Common.{◌≡◌, ℕ, Bool, List, refl, sym, ap, ◌∙◌, subst, length}
use Rattle.std.specs.Prelude.{Err}
use Rattle.std.proofs.lemmas.Result.{err_from_is_err_and}
use Rattle.format.specs.Settings.{key_fine, value_fine, table_fine}
use Rattle.format.specs.Reasons.{reason_number}
use Rattle.set_key.specs.declared.plan.Sizes.{Sizes}
use Rattle.set_key.specs.Edits.{asked_number, fitted, Planned}
use Rattle.set_key.proofs.Planning.{read_of, fielded, read_lined, read_starts, plan_unread, plan_asked, numbers_small, plan_refused, plan_ready}
use Rattle.set_key.proofs.plan.prepare.Goals as goal

-- the refusal of the key, the value or the table, with the table that the reading means
asks : (v : ℕ) (k x : Bool) (lent : List ℕ) (count : ℕ) {n : ℕ} {fine : Bool} {starts table : List ℕ} → n ≡ asked_number v k x fine
    → fine ≡ table_fine lent count starts → starts ≡ table → n ≡ asked_number v k x (table_fine lent count table)
asks v k x lent count e h q = e ∙ ap (asked_number v k x) (h ∙ ap (table_fine lent count) q)

pub returns-in_err-reading : goal.returns-in_err-reading
returns-in_err-reading g c =
    let a = c.args in
    let pair = a.pair.now in
    let table = g.E.Entry.entries a.table.now in
    let h = err_from_is_err_and c.from_residual.result c.from_residual.ensures.1 in
    let r = c.in_err-reading.field-0.0 in
    subst (Planned a.file.now a.room table a.count pair.key.now pair.value.now) (sym (h.1 ∙ ap Err h.2)) (plan_unread a.file.now r c.in_err-reading.ensures a.room table a.count pair.key.now pair.value.now)

pub is_table-fine-requires : goal.is_table-fine-requires
is_table-fine-requires g c = read_lined (read_of c.args.file.now c.in_ok-reading.reading c.in_ok-reading.ensures)

pub returns-in_err-asked : goal.returns-in_err-asked
returns-in_err-asked g c =
    let a = c.args in
    let pair = a.pair.now in
    let table = g.E.Entry.entries a.table.now in
    let w = read_of a.file.now c.in_ok-reading.reading c.in_ok-reading.ensures in
    let h = err_from_is_err_and c.from_residual-in_err-asked.result c.from_residual-in_err-asked.ensures.1 in
    let r = c.in_err-asked.field-0.0 in
    subst (Planned a.file.now a.room table a.count pair.key.now pair.value.now) (sym (h.1 ∙ ap Err h.2))
    (plan_asked a.file.now table a.count pair.key.now pair.value.now _ (reason_number r) w.is w.version
    (asks _ (key_fine pair.key.now) (value_fine pair.value.now) table a.count c.in_err-asked.ensures c.is_table-fine.ensures (read_starts w)) r refl a.room)

pub find_edit-edit-requires : goal.find_edit-edit-requires
find_edit-edit-requires g c = fielded (read_of c.args.file.now c.in_ok-reading.reading c.in_ok-reading.ensures)

pub fit-requires : goal.fit-requires
fit-requires g c =
    let a = c.args in
    let w = read_of a.file.now c.in_ok-reading.reading c.in_ok-reading.ensures in
    numbers_small a.file.now a.pair.now.key.now a.pair.now.value.now w.is c.find_edit-edit.result (c.find_edit-edit.ensures w.entries w.fields w.after w.is) _ w.bytes w.lines refl

pub returns-in_err-fit : goal.returns-in_err-fit
returns-in_err-fit g c =
    let a = c.args in
    let pair = a.pair.now in
    let table = g.E.Entry.entries a.table.now in
    let reading = c.in_ok-reading.reading in
    let w = read_of a.file.now reading c.in_ok-reading.ensures in
    let edit = c.find_edit-edit.result in
    let old : Sizes = record { header = reading.length; lines = reading.lines; file = length a.file.now } in
    let h = err_from_is_err_and c.from_residual-in_err-fit.result c.from_residual-in_err-fit.ensures.1 in
    subst (Planned a.file.now a.room table a.count pair.key.now pair.value.now) (sym (h.1 ∙ ap Err h.2))
    (plan_refused a.file.now pair.key.now pair.value.now w.is edit (c.find_edit-edit.ensures w.entries w.fields w.after w.is) old w.bytes w.lines refl table a.count _ 0 w.version
    (asks _ (key_fine pair.key.now) (value_fine pair.value.now) table a.count c.in_ok-asked.ensures c.is_table-fine.ensures (read_starts w)) refl a.room
    c.in_err-fit.field-0.0 (c.in_err-fit.ensures ∙ ap (fitted edit old a.room) c.count.ensures))

pub returns : goal.returns
returns g c =
    let a = c.args in
    let pair = a.pair.now in
    let table = g.E.Entry.entries a.table.now in
    let reading = c.in_ok-reading.reading in
    let w = read_of a.file.now reading c.in_ok-reading.ensures in
    let edit = c.find_edit-edit.result in
    let old : Sizes = record { header = reading.length; lines = reading.lines; file = length a.file.now } in
    plan_ready a.file.now pair.key.now pair.value.now w.is edit (c.find_edit-edit.ensures w.entries w.fields w.after w.is) old w.bytes w.lines refl table a.count _ 0 w.version
    (asks _ (key_fine pair.key.now) (value_fine pair.value.now) table a.count c.in_ok-asked.ensures c.is_table-fine.ensures (read_starts w)) refl a.room
    c.in_ok-fit.field-0 (c.in_ok-fit.ensures ∙ ap (fitted edit old a.room) c.count.ensures)
