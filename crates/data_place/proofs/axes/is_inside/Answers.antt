-- `data_place::axes::is_inside` meets its contract.
use native.Mathlib.Omega.{arith}
use mathlib.Core.Path.{sym, ◌∙◌}
use Rattle.data_place.proofs.Numbers.{inside_lengths, inside_end, inside_on, inside_no}
use Rattle.data_place.proofs.axes.is_inside.Goals as goal

pub returns-then-sizes-coords : goal.returns-then-sizes-coords
returns-then-sizes-coords c =
    let a = c.args in
    sym (inside_lengths a.sizes.now a.coords.now c.if-sizes-coords.true)

pub returns-then-size-coords : goal.returns-then-size-coords
returns-then-size-coords c =
    let l = c.loop-i in
    let a = c.args in
    sym (l.invariant.1 ∙ inside_no a.sizes.now a.coords.now l.i (omega arith) (omega arith) c.if-size-coords.true)

pub loop-i-preserved : goal.loop-i-preserved
loop-i-preserved c =
    let l = c.loop-i in
    let a = c.args in
    (l.invariant.0, l.invariant.1 ∙ inside_on a.sizes.now a.coords.now l.i (omega arith) (omega arith) c.if-size-coords.false)

pub returns : goal.returns
returns c =
    let l = c.loop-i in
    let a = c.args in
    sym (l.invariant.1 ∙ inside_end a.sizes.now a.coords.now l.i (omega arith) (omega arith))
