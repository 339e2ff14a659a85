-- `find_direction` meets its contract: a law for each return.
use native.Mathlib.Omega.{arith}
use lib.ListN.{length-take}
use Rattle.std.proofs.lemmas.Result.{err_from_is_err_and}
use Rattle.read_orientation.proofs.PlaceLaws.{lies}
use Rattle.read_orientation.proofs.CallLaws.{direction_refused, direction_outside, direction_none, direction_given}
use Rattle.read_orientation.proofs.find_direction.Goals as goal

pub returns-in_err-said : goal.returns-in_err-said
returns-in_err-said c =
    let e = c.in_err-said in
    let h = err_from_is_err_and c.from_residual.result c.from_residual.ensures.1 in
    rw (h.1, h.2) (direction_refused c.args.file.now c.args.axis e.field-0.0 e.ensures)

pub returns-then-said-axis : goal.returns-then-said-axis
returns-then-said-axis c = rw c.into.ensures (direction_outside c.args.file.now c.args.axis c.in_ok-said.ensures c.if-said-axis.true)

pub returns-in_default : goal.returns-in_default
returns-in_default c = direction_none c.args.file.now c.args.axis c.in_ok-said.ensures c.if-said-axis.false c.in_default.is

pub slice_bounds-direction_in-start : goal.slice_bounds-direction_in-start
slice_bounds-direction_in-start c = (lies c.in_ok-said.ensures.field_is c.in-Some.is).ordered

pub slice_bounds-direction_in-end : goal.slice_bounds-direction_in-end
slice_bounds-direction_in-end c = (lies c.in_ok-said.ensures.field_is c.in-Some.is).within

pub direction_in-requires : goal.direction_in-requires
direction_in-requires c =
    let l = lies c.in_ok-said.ensures.field_is c.in-Some.is in
    (simp length-take (omega (arith, l.short)), l.few)

pub returns : goal.returns
returns c = direction_given c.args.file.now c.args.axis c.in_ok-said.ensures c.if-said-axis.false c.in-Some.is c.direction_in.ensures
