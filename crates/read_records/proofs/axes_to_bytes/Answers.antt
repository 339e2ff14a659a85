-- `axes_to_bytes` meets its contract: the records by value, stored. Assumes nothing.
use Prim.Native.Nat.{ℕ, ◌/◌}
use native.Mathlib.Omega.{arith}
use mathlib.Core.Path.{ap, ◌∙◌}
use mathlib.Core.List.{List}
use lib.ListN.{length, take}
use Rattle.format.specs.declared.Axes.{Axes}
use Rattle.format.specs.Bytes.{over}
use Rattle.format.specs.AxisRecords.{axis_width, axes_bytes}
use Rattle.theorem_room.proofs.Enough.{axes_answered}
use Rattle.read_records.proofs.ListLaws.{few, within, handed_bytes}
use Rattle.read_records.proofs.axes_to_bytes.Goals as goal

pub put_axes-requires : goal.put_axes-requires
put_axes-requires c =
    let a = c.args in
    let x = c.records in
    let n = ap (λ (y : Axes). y.answer.count) x.ensures in
    let f = few a.file.now (length a.list.now / axis_width) in
    let w = within a.file.now (length a.list.now / axis_width) in
    (omega (arith, n, f), omega (arith, n, w))

pub returns : goal.returns
returns c =
    let a = c.args in
    let x = c.records in
    let e =
    ap (λ (d : List ℕ). (x.result.answer, d)) c.put_axes.ensures
    ∙ ap (λ (y : Axes). (y.answer, over (axes_bytes (take y.answer.count y.records)) a.list.now)) x.ensures
    ∙ handed_bytes a.file.now a.list.now in
    record { call = e; enough = axes_answered a.file.now a.list.now e }
