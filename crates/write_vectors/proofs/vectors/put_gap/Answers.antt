-- `write_vectors::vectors::put_gap` meets its contract. Assumes nothing.
use mathlib.Core.Path.{refl}
use native.Mathlib.Omega.{arith}
use borrow.Author.Tests.{ne_eqb}
use Rattle.write_vectors.proofs.vectors.put_gap.Goals as goal

pub returns-then-i-eq0 : goal.returns-then-i-eq0
returns-then-i-eq0 c = rw c.if-i-eq0.true (record { place = omega arith; stored = refl; long = omega arith })

pub returns-else-i-eq0 : goal.returns-else-i-eq0
returns-else-i-eq0 c = rw (ne_eqb c.args.i 0 c.if-i-eq0.false) (record { place = omega arith; stored = refl; long = omega arith })
