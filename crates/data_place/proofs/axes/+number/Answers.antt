-- `data_place::axes::number` meets its contract.
use borrow.Author.Rules.{rules}
use native.Mathlib.Omega.{arith}
use Prim.Native.Nat.{◌<◌}
use mathlib.Core.Path.{sym}
use lib.ListN.{length}
use Rattle.data_place.proofs.Numbers.{in_coords, inside_next, number_next, number_fits, number_end}
use Rattle.data_place.proofs.axes.+number.Goals as goal

pub bounds-coords-axis : goal.bounds-coords-axis
bounds-coords-axis t c =
    let ss = c.args.sizes.now in
    let h : c.args.axis < length ss = omega arith in
    in_coords ss c.args.coords.now c.args.axis h c.requires.1

pub number-requires : goal.number-requires
number-requires t c =
    let ss = c.args.sizes.now in
    let h : c.args.axis < length ss = omega arith in
    (search rules, (search rules, inside_next ss c.args.coords.now c.args.axis h c.requires.1))

pub overflow_mul-result : goal.overflow_mul-result
overflow_mul-result t c =
    let ss = c.args.sizes.now in
    let h : c.args.axis < length ss = omega arith in
    rw c.number.ensures (omega (arith, number_fits ss c.args.coords.now c.args.axis h c.requires.1))

pub overflow_add-result : goal.overflow_add-result
overflow_add-result t c =
    let ss = c.args.sizes.now in
    let h : c.args.axis < length ss = omega arith in
    rw c.number.ensures (omega (arith, number_fits ss c.args.coords.now c.args.axis h c.requires.1))

pub returns-then-axis-sizes : goal.returns-then-axis-sizes
returns-then-axis-sizes t c = sym (number_end c.args.sizes.now c.args.coords.now c.args.axis (omega arith))

pub returns-else-axis-sizes : goal.returns-else-axis-sizes
returns-else-axis-sizes t c =
    let ss = c.args.sizes.now in
    let h : c.args.axis < length ss = omega arith in
    rw c.number.ensures (sym (number_next ss c.args.coords.now c.args.axis h c.requires.1))
