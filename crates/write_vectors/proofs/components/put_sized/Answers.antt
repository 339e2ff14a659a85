-- `write_vectors::components::put_sized` meets its contract. Assumes nothing.
use mathlib.Core.Path.{◌∙◌}
use native.Mathlib.Omega.{arith}
use lib.ListN.{length-set}
use Rattle.format.specs.Writer.{decimal}
use Rattle.write_parts.proofs.Runs.{set_then}
use Rattle.write_vectors.proofs.components.put_sized.Goals as goal

pub put_decimal-requires : goal.put_decimal-requires
put_decimal-requires c = simp length-set (omega (arith, c.requires))

pub shape_of-out-then-minus : goal.shape_of-out-then-minus
shape_of-out-then-minus c = simp length-set at c.put_decimal.auto.out

pub returns-then-minus : goal.returns-then-minus
returns-then-minus c =
    let a = c.args in
    let p = c.put_decimal in
    rw c.if-minus.true (record { place = omega (arith, p.ensures.place.0); stored = p.ensures.stored ∙ set_then a.out.now (decimal a.size) a.at 45; long = omega (arith, p.ensures.place.0) })

pub returns-else-minus : goal.returns-else-minus
returns-else-minus c = let p = c.put_decimal-else-minus in rw c.if-minus.false (record { place = p.ensures.place.0; stored = p.ensures.stored; long = omega (arith, p.ensures.place.0) })
