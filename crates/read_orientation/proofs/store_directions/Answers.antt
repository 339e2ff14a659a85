-- `store_directions` meets its contract: where there are no directions, none is stored.
use native.Mathlib.Omega.{arith}
use lib.ListN.{length-take}
use Rattle.std.proofs.lemmas.Result.{err_from_is_err_and}
use Rattle.read_orientation.proofs.StoreLaws.{few_times}
use Rattle.read_orientation.proofs.PlaceLaws.{lies}
use Rattle.read_orientation.proofs.CallLaws.{lent_short, lent_enough, directions_refused, directions_none, directions_stores}
use Rattle.read_orientation.proofs.store_directions.Goals as goal

pub returns-in_err-said : goal.returns-in_err-said
returns-in_err-said c =
    let e = c.in_err-said in
    let h = err_from_is_err_and c.from_residual.result c.from_residual.ensures.1 in
    rw (h.1, h.2) (directions_refused c.args.file.now c.args.list.now e.field-0.0 e.ensures)

pub returns-in_default : goal.returns-in_default
returns-in_default c = directions_none c.args.file.now c.args.list.now c.in_ok-said.ensures c.in_default.is

pub overflow_mul-count : goal.overflow_mul-count
overflow_mul-count c =
    let l = lies c.in_ok-said.ensures.field_is c.in-Some.is in
    omega (arith, few_times c.in-Some.f.size c.in_ok-said.said.axes l.few)

pub returns-then-list-count : goal.returns-then-list-count
returns-then-list-count c =
    rw c.into.ensures (lent_short (directions_stores c.args.file.now c.args.list.now c.in_ok-said.ensures c.in-Some.is) c.if-list-count.true)

pub slice_bounds-put_directions-start : goal.slice_bounds-put_directions-start
slice_bounds-put_directions-start c = (lies c.in_ok-said.ensures.field_is c.in-Some.is).ordered

pub slice_bounds-put_directions-end : goal.slice_bounds-put_directions-end
slice_bounds-put_directions-end c = (lies c.in_ok-said.ensures.field_is c.in-Some.is).within

pub put_directions-requires : goal.put_directions-requires
put_directions-requires c =
    let l = lies c.in_ok-said.ensures.field_is c.in-Some.is in
    (simp length-take (omega (arith, l.short)), l.few, omega (arith, c.if-list-count.false))

pub returns : goal.returns
returns c =
    lent_enough (directions_stores c.args.file.now c.args.list.now c.in_ok-said.ensures c.in-Some.is) c.if-list-count.false _ c.put_directions.ensures
