-- `read_lookup::axes::field_given` meets its contract: each return is one law of what the line gives.
use native.Mathlib.Omega.{arith}
use lib.Seq.{length-take-le}
use mathlib.Core.Path.{sym}
use Rattle.read_text.proofs.Places.{kind_told}
use Rattle.read_header.proofs.Accepted.{told_no_field}
use Rattle.read_lookup.proofs.AxisLaws.{gives_other, gives_none, gives_some}
use Rattle.read_lookup.proofs.Finding.{field_fits}
use Rattle.read_lookup.proofs.axes.field_given.Goals as goal

pub slice_bounds-axis_row-end : goal.slice_bounds-axis_row-end
slice_bounds-axis_row-end c = sym (length-take-le _ _ (omega (arith, field_fits c.args.t.now c.in-Field.i c.in-Field.ensures)))

pub returns-in_err-field-in-Field : goal.returns-in_err-field-in-Field
returns-in_err-field-in-Field c =
    let a = c.args in
    rw c.from_residual.ensures (gives_none a.t.now a.at _ (kind_told a.t.now c.in-Field.ensures) c.in_err-field-in-Field.ensures)

pub returns-in_ok-field-in-Field : goal.returns-in_ok-field-in-Field
returns-in_ok-field-in-Field c =
    let a = c.args in
    gives_some a.t.now a.at _ (kind_told a.t.now c.in-Field.ensures) _ c.in_ok-field-in-Field.ensures c.descriptor_at-place.result c.descriptor_at-place.ensures

pub returns-in_default : goal.returns-in_default
returns-in_default c =
    let a = c.args in
    gives_other a.t.now a.at (told_no_field a.t.now _ c.kind_of.ensures c.in_default.not-Field)
