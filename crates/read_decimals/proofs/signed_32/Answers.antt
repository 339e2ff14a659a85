-- `read_decimals::signed_32` meets its contract.
use native.Mathlib.Omega.{arith}
use mir.Syntax.{w32}
use mir.Facts.{to_z_pos}
use Rattle.read_decimals.proofs.Signs.{minus_fits, minus_kept}
use Rattle.read_decimals.proofs.signed_32.Goals as goal

pub overflow_sub-result : goal.overflow_sub-result
overflow_sub-result c = minus_fits w32 c.args.n (omega arith)

pub returns-then-minus : goal.returns-then-minus
returns-then-minus c = rw c.if-minus.true (minus_kept w32 c.args.n (omega arith))

pub returns-else-minus : goal.returns-else-minus
returns-else-minus c = rw c.if-minus.false (to_z_pos w32 (omega arith))
