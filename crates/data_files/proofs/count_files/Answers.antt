-- `data_files::count_files` meets its contract: the number is the reading's.
use Rattle.std.proofs.lemmas.Result.{err_from_is_err_and}
use Rattle.data_files.proofs.ShareLaws.{not_counted, counted}
use Rattle.data_files.proofs.count_files.Goals as goal

pub returns-in_err-reading : goal.returns-in_err-reading
returns-in_err-reading c =
    let e = c.in_err-reading in
    let h = err_from_is_err_and c.from_residual.result c.from_residual.ensures.1 in
    rw (h.1, h.2) (not_counted c.args.file.now e.field-0.0 e.ensures)

pub returns : goal.returns
returns c = counted c.args.file.now c.in_ok-reading.ensures
