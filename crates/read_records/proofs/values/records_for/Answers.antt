-- `values::records_for` meets its contract: the reading's refusal, 22, or what the four fields say of each axis. Assumes nothing.
use mathlib.Core.Path.{sym, ap, ◌∙◌}
use mathlib.Core.List.{List}
use Rattle.std.proofs.lemmas.Result.{err_from_is_err_and}
use Rattle.format.specs.declared.Axis.{Axis}
use Rattle.format.specs.Refusals.{fine}
use Rattle.format.specs.Fields.{centers, labels, units, kinds}
use Rattle.format.specs.Reasons.{refusal_of}
use Rattle.format.specs.AxisRecords.{no_axes, records_in}
use Rattle.read_header.proofs.Accepted.{was_not_read}
use Rattle.read_lookup.proofs.Finding.{before_lines_of}
use Rattle.read_records.specs.Values.{records_answered}
use Rattle.read_records.proofs.ValueLaws.{looked_up, too_short, records_are}
use Rattle.read_records.proofs.values.records_for.Goals as goal

pub returns-in_err-reading : goal.returns-in_err-reading
unfolding records_in
returns-in_err-reading c =
    let e = c.in_err-reading in
    let h = err_from_is_err_and c.from_residual.result c.from_residual.ensures.1 in
    ap records_answered h.1 ∙ ap (λ r. no_axes (refusal_of r)) h.2 ∙ sym (ap (records_in c.args.room) (was_not_read c.args.file.now e.field-0.0 e.ensures))

pub returns-then-room-axes : goal.returns-then-room-axes
returns-then-room-axes c =
    let e = c.in_ok-reading.ensures in
    rw c.into.ensures (sym (too_short _ _ e (before_lines_of _ e) _ c.if-room-axes.true))

pub find_axis_fields-places-requires : goal.find_axis_fields-places-requires
find_axis_fields-places-requires c = before_lines_of _ c.in_ok-reading.ensures

pub codes_of-centrings-requires : goal.codes_of-centrings-requires
codes_of-centrings-requires c = let e = c.in_ok-reading.ensures in looked_up _ _ e (before_lines_of _ e) _ _ c.find_axis_fields-places.ensures.centers_are

pub codes_of-kinds-requires : goal.codes_of-kinds-requires
codes_of-kinds-requires c = let e = c.in_ok-reading.ensures in looked_up _ _ e (before_lines_of _ e) _ _ c.find_axis_fields-places.ensures.kinds_are

pub spans_of-labels-requires : goal.spans_of-labels-requires
spans_of-labels-requires c = let e = c.in_ok-reading.ensures in looked_up _ _ e (before_lines_of _ e) _ _ c.find_axis_fields-places.ensures.labels_are

pub spans_of-units-requires : goal.spans_of-units-requires
spans_of-units-requires c = let e = c.in_ok-reading.ensures in looked_up _ _ e (before_lines_of _ e) _ _ c.find_axis_fields-places.ensures.units_are

pub returns : goal.returns
returns c =
    let e = c.in_ok-reading.ensures in
    let s = c.find_axis_fields-places.ensures in
    ap (λ (rs : List Axis). record { answer = record { refusal = fine; count = c.in_ok-reading.reading.dimension }; records = rs }) c.all_records.ensures
    ∙ records_are _ _ e (before_lines_of _ e) _ _ _ _
    (c.codes_of-centrings.ensures centers s.centers_are)
    (c.codes_of-kinds.ensures kinds s.kinds_are)
    (c.spans_of-labels.ensures labels s.labels_are)
    (c.spans_of-units.ensures units s.units_are) _ c.if-room-axes.false
