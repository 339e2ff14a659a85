-- `read_header::read::read_into` meets its contract: the reading, then the table.
use Rattle.std.proofs.Common.{◌∙◌, arith}
use Rattle.std.proofs.lemmas.Result.{err_from_is_err_and}
use Rattle.read_header.proofs.Turns.{refuses_file}
use Rattle.read_header.proofs.Calls.{call_refused, call_short, call_lined, call_filled, into_held, into_kept}
use Rattle.read_header.proofs.read.read_into.Goals as goal

pub returns-in_err-reading : goal.returns-in_err-reading
returns-in_err-reading g c =
    let t = g.E.Entry in
    let a = c.args in
    let e = err_from_is_err_and c.from_residual.result c.from_residual.ensures.1 in
    let x = c.in_err-reading in
    rw (e.1, e.2) (into_kept t.entries t.holding t.holds a.file.now a.table.now c.know.ensures (call_refused a.file.now (t.entries a.table.now) x.field-0.0 x.ensures))

pub returns-then-count : goal.returns-then-count
returns-then-count g c =
    let t = g.E.Entry in
    let a = c.args in
    let x = c.in_ok-reading in
    rw (refuses_file _ c.into.ensures) (into_kept t.entries t.holding t.holds a.file.now a.table.now c.know.ensures (call_short a.file.now (t.entries a.table.now) x.reading x.ensures (omega (arith, c.count.ensures, c.if-count.true))))

pub fill-requires : goal.fill-requires
fill-requires g c =
    let a = c.args in
    let x = c.in_ok-reading in
    record { lined = call_lined a.file.now (g.E.Entry.entries a.table.now) x.reading x.ensures; room = omega (arith, c.count.ensures, c.if-count.false) }

pub returns : goal.returns
returns g c =
    let t = g.E.Entry in
    let a = c.args in
    let x = c.in_ok-reading in
    into_held t.entries t.holding t.holds a.file.now a.table.now _ c.fill.ensures (call_filled a.file.now (t.entries a.table.now) x.reading x.ensures (omega (arith, c.count.ensures, c.if-count.false)))
