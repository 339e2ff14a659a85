-- `store_frame` meets its contract: where there is no frame, nothing is stored.
use native.Mathlib.Omega.{arith}
use mathlib.Core.Path.{◌∙◌}
use lib.ListN.{length-take}
use Rattle.std.proofs.lemmas.Result.{err_from_is_err_and}
use Rattle.read_orientation.proofs.StoreLaws.{few_times}
use Rattle.read_orientation.proofs.PlaceLaws.{lies}
use Rattle.read_orientation.proofs.CallLaws.{lent_short, lent_enough, frame_columns, frame_not_stored, frame_nothing, frame_stores}
use Rattle.read_orientation.proofs.store_frame.Goals as goal

pub returns-in_err-said : goal.returns-in_err-said
returns-in_err-said c =
    let e = c.in_err-said in
    let h = err_from_is_err_and c.from_residual.result c.from_residual.ensures.1 in
    rw (h.1, h.2) (frame_not_stored c.args.file.now c.args.list.now e.field-0.0 e.ensures)

pub returns-in_default : goal.returns-in_default
returns-in_default c = frame_nothing c.args.file.now c.args.list.now c.in_ok-said.ensures c.in_default.is

pub overflow_mul-count : goal.overflow_mul-count
overflow_mul-count c =
    let l = lies c.in_ok-said.ensures.field_is c.in-Some.is in
    omega (arith, few_times c.in-Some.f.size c.in-Some.f.size l.few, l.few)

pub returns-then-list-count : goal.returns-then-list-count
returns-then-list-count c =
    rw c.into.ensures (lent_short (frame_stores c.args.file.now c.args.list.now c.in_ok-said.ensures c.in-Some.is) c.if-list-count.true)

pub slice_bounds-read_frame-start : goal.slice_bounds-read_frame-start
slice_bounds-read_frame-start c = (lies c.in_ok-said.ensures.field_is c.in-Some.is).ordered

pub slice_bounds-read_frame-end : goal.slice_bounds-read_frame-end
slice_bounds-read_frame-end c = (lies c.in_ok-said.ensures.field_is c.in-Some.is).within

pub read_frame-m-requires : goal.read_frame-m-requires
read_frame-m-requires c =
    let l = lies c.in_ok-said.ensures.field_is c.in-Some.is in
    (simp length-take (omega (arith, l.short)), l.few)

pub put_columns-requires : goal.put_columns-requires
put_columns-requires c =
    let m = c.read_frame-m in
    let l = lies c.in_ok-said.ensures.field_is c.in-Some.is in
    (frame_columns _ _ m.result m.ensures, l.few, omega (arith, c.if-list-count.false))

pub returns : goal.returns
returns c =
    lent_enough (frame_stores c.args.file.now c.args.list.now c.in_ok-said.ensures c.in-Some.is) c.if-list-count.false _ (c.put_columns.ensures ∙ rw c.read_frame-m.ensures)
