-- `find_origin` meets its contract: the header's refusal, no origin, or its vector.
use native.Mathlib.Omega.{arith}
use mathlib.Core.Path.{◌∙◌}
use lib.ListN.{length-take}
use Rattle.std.proofs.lemmas.Result.{err_from_is_err_and}
use Rattle.read_vectors.proofs.ListLaws.{column_or}
use Rattle.read_orientation.proofs.PlaceLaws.{lies}
use Rattle.read_orientation.proofs.CallLaws.{origin_refused, origin_none, origin_given}
use Rattle.read_orientation.proofs.find_origin.Goals as goal

pub returns-in_err-said : goal.returns-in_err-said
returns-in_err-said c =
    let e = c.in_err-said in
    let h = err_from_is_err_and c.from_residual.result c.from_residual.ensures.1 in
    rw (h.1, h.2) (origin_refused c.args.file.now e.field-0.0 e.ensures)

pub returns-in_default : goal.returns-in_default
returns-in_default c = origin_none c.args.file.now c.in_ok-said.ensures c.in_default.is

pub slice_bounds-nth_vector-start : goal.slice_bounds-nth_vector-start
slice_bounds-nth_vector-start c = (lies c.in_ok-said.ensures.field_is c.in-Some.is).ordered

pub slice_bounds-nth_vector-end : goal.slice_bounds-nth_vector-end
slice_bounds-nth_vector-end c = (lies c.in_ok-said.ensures.field_is c.in-Some.is).within

pub nth_vector-requires : goal.nth_vector-requires
nth_vector-requires c =
    let l = lies c.in_ok-said.ensures.field_is c.in-Some.is in
    (simp length-take (omega (arith, l.short)), l.few)

pub overflow_cast-result : goal.overflow_cast-result
overflow_cast-result c =
    let l = lies c.in_ok-said.ensures.field_is c.in-Some.is in
    omega (arith, l.few)

pub returns : goal.returns
returns c =
    origin_given c.args.file.now c.in_ok-said.ensures c.in-Some.is (c.unwrap_or-parts.ensures ∙ rw (c.nth_vector.ensures, c.blank_column.ensures) (column_or _))
