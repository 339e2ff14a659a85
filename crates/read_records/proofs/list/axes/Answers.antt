-- `list::axes` meets its contract: the records by value, stored at the front of the list.
use Rattle.std.proofs.Common.{List, ap, ◌∙◌, arith, length}
use Rattle.format.specs.declared.Axis.{Axis}
use Rattle.format.specs.declared.Axes.{Axes}
use Rattle.read_records.proofs.ListLaws.{laid, few, within, handed_over}
use Rattle.read_records.proofs.list.axes.Goals as goal

pub fill-requires : goal.fill-requires
fill-requires c =
    let a = c.args in
    let n = ap (λ (y : Axes). y.answer.count) c.records.ensures in
    record {
      room = omega (arith, n, within a.file.now (length a.list.now));
      few = omega (arith, n, few a.file.now (length a.list.now));
    }

pub returns : goal.returns
returns c =
    let a = c.args in
    let x = c.records in
    ap (λ (d : List Axis). (x.result.answer, d)) c.fill.ensures
    ∙ ap (λ (y : Axes). (y.answer, laid y a.list.now)) x.ensures
    ∙ handed_over a.file.now a.list.now
