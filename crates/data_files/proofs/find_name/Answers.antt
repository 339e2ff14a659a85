-- `data_files::find_name` meets its contract: the reading's refusal, 29, or the name.
use Rattle.std.proofs.lemmas.Result.{err_from_is_err_and}
use Rattle.data_files.proofs.CallLaws.{name_refused, name_past, name_asked}
use Rattle.data_files.proofs.find_name.Goals as goal

pub returns-in_err-reading : goal.returns-in_err-reading
returns-in_err-reading c =
    let a = c.args in
    let e = c.in_err-reading in
    let h = err_from_is_err_and c.from_residual.result c.from_residual.ensures.1 in
    rw (h.1, h.2) (name_refused a.file.now a.n a.out.now e.field-0.0 e.ensures)

pub returns-then-files-n : goal.returns-then-files-n
returns-then-files-n c =
    let a = c.args in
    rw c.into.ensures (name_past a.file.now a.n a.out.now c.in_ok-reading.ensures c.if-files-n.true)

pub name_in-requires : goal.name_in-requires
name_in-requires c =
    let a = c.args in
    name_asked a.file.now a.n a.out.now c.in_ok-reading.ensures c.if-files-n.false
