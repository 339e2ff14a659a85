-- `data_place::place::data` meets its contract: the place lies within its file.
use native.Mathlib.Omega.{arith}
use Rattle.data_place.proofs.Located.{call_holds}
use Rattle.data_place.proofs.place.data.Goals as goal

pub overflow_add-result : goal.overflow_add-result
overflow_add-result c = omega (arith, rw c.if-located.true at (call_holds c.args.file.now c.args.second.now c.in-Ok.ensures).within)

pub slice_bounds-result-end : goal.slice_bounds-result-end
slice_bounds-result-end c = omega (arith, rw c.if-located.true at (call_holds c.args.file.now c.args.second.now c.in-Ok.ensures).within)

pub overflow_add-result-else-located : goal.overflow_add-result-else-located
overflow_add-result-else-located c = omega (arith, rw c.if-located.false at (call_holds c.args.file.now c.args.second.now c.in-Ok.ensures).within)

pub slice_bounds-result-end-else-located : goal.slice_bounds-result-end-else-located
slice_bounds-result-end-else-located c = omega (arith, rw c.if-located.false at (call_holds c.args.file.now c.args.second.now c.in-Ok.ensures).within)
