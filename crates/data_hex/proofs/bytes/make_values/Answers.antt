-- `make_values` meets its contract. The invariant: the digits passed are replaced by their values.
use Prim.Native.Nat.{◌*◌}
use native.Mathlib.Omega.{arith}
use mathlib.Core.List.{map}
use mathlib.Core.Path.{ap, ◌∙◌}
use lib.ListN.{length-map}
use Rattle.data_hex.specs.Forms.{digit_value}
use Rattle.data_hex.proofs.BlockLaws.{partly_none, partly_old, partly_more, partly_done, map_at}
use Rattle.data_hex.proofs.bytes.make_values.Goals as goal

pub loop-j-init : goal.loop-j-init
loop-j-init c = let a = c.args in partly_none (map digit_value a.d.now) a.d.now (32 * a.k)

pub bounds-d-j : goal.bounds-d-j
bounds-d-j c = omega (arith, c.loop-j.invariant.long)

pub bounds-d-j-in-loop-j : goal.bounds-d-j-in-loop-j
bounds-d-j-in-loop-j c = omega (arith, c.loop-j.invariant.long)

pub loop-j-preserved : goal.loop-j-preserved
loop-j-preserved c =
    let a = c.args in
    let d = a.d.now in
    let n = length-map d digit_value in
    let i = c.loop-j in
    partly_more (map digit_value d) d (32 * a.k) n (omega arith) i.invariant (omega arith) _
    (c.value.ensures.ranges ∙ ap digit_value (partly_old (map digit_value d) d (32 * a.k) n (omega arith) i.invariant (omega arith)) ∙ map_at digit_value d i.j (omega arith))

pub shape_of-d : goal.shape_of-d
shape_of-d c = c.loop-j.invariant.long

pub returns : goal.returns
returns c =
    let a = c.args in
    let n = length-map a.d.now digit_value in
    partly_done (map digit_value a.d.now) a.d.now (32 * a.k) n (omega arith) c.loop-j.invariant (omega arith)
