-- `read_lookup::descriptors::field_in` meets its contract: each return is one law of what the line gives the field.
use native.Mathlib.Omega.{arith}
use lib.Seq.{length-take-le}
use mathlib.Core.Path.{sym, ◌∙◌}
use mathlib.Core.Bool.{false}
use Rattle.format.specs.Refusals.{fine}
use Rattle.format.specs.Calls.{no_place}
use Rattle.read_text.proofs.Places.{kind_told}
use Rattle.read_header.proofs.Accepted.{told_no_field}
use Rattle.read_lookup.proofs.Finding.{field_fits, field_other, field_field, field_there}
use Rattle.read_lookup.proofs.descriptors.field_in.Goals as goal

pub slice_bounds-is_field-end : goal.slice_bounds-is_field-end
slice_bounds-is_field-end c = sym (length-take-le _ _ (omega (arith, field_fits c.args.t.now c.in-Field.i c.in-Field.ensures)))

pub returns-then-is_field : goal.returns-then-is_field
returns-then-is_field c i w =
    let a = c.args in
    field_there a.field a.at (no_place fine) w _ (kind_told a.t.now c.in-Field.ensures) (sym c.is_field.ensures ∙ c.if-is_field.true) _ c.descriptor_at.ensures

pub returns-else-is_field : goal.returns-else-is_field
returns-else-is_field c i w =
    let a = c.args in
    field_field a.field a.at (no_place fine) w _ (kind_told a.t.now c.in-Field.ensures) false (sym c.is_field.ensures ∙ c.if-is_field.false)

pub returns-in_default : goal.returns-in_default
returns-in_default c i w =
    let a = c.args in
    field_other a.field a.at (no_place fine) w (told_no_field a.t.now _ c.kind_of.ensures c.in_default.not-Field)
