-- `data_files::find_sample` meets its contract: the reading, then the share by its numbers.
use native.Mathlib.Omega.{arith}
use mathlib.Core.Path.{◌∙◌}
use Rattle.std.proofs.lemmas.Result.{err_from_is_err_and}
use Rattle.data_files.proofs.ShareLaws.{share_refused, some_byte, shared, share_is}
use Rattle.data_files.proofs.find_sample.Goals as goal

pub returns-in_err-reading : goal.returns-in_err-reading
returns-in_err-reading c =
    let e = c.in_err-reading in
    let h = err_from_is_err_and c.from_residual.result c.from_residual.ensures.1 in
    rw (h.1, h.2) (share_refused c.args.file.now c.args.sample e.field-0.0 e.ensures)

pub nonzero_div-shares : goal.nonzero_div-shares
nonzero_div-shares c =
    let n = c.sample_bytes-bytes in
    omega (arith, some_byte c.args.file.now c.args.sample c.in_ok-reading.ensures n.result n.ensures)

pub share_of-requires : goal.share_of-requires
share_of-requires c =
    let n = c.sample_bytes-bytes in
    shared c.args.file.now c.args.sample c.in_ok-reading.ensures n.result n.ensures

pub returns : goal.returns
returns c =
    let n = c.sample_bytes-bytes in
    c.share_of.ensures ∙ share_is c.args.file.now c.args.sample c.in_ok-reading.ensures n.result n.ensures
