-- `reader::with_sign` meets its contract: what it computes after a minus fits.
use native.Mathlib.Omega.{arith}
use mathlib.Core.Path.{refl}
use mir.Syntax.{w64}
use mir.Facts.{to_z_pos}
use Rattle.data_text.proofs.TokenLaws.{minus_sfits, minus_kept}
use Rattle.data_text.proofs.reader.with_sign.Goals as goal

pub overflow_cast-result : goal.overflow_cast-result
overflow_cast-result c = omega (arith, c.requires.0 c.if-minus.true)

pub overflow_sub-result-else-m-eq0 : goal.overflow_sub-result-else-m-eq0
overflow_sub-result-else-m-eq0 c = minus_sfits c.args.m c.if-m-eq0.false (c.requires.0 c.if-minus.true)

pub overflow_cast-result-else-minus : goal.overflow_cast-result-else-minus
overflow_cast-result-else-minus c = omega (arith, c.requires.1 c.if-minus.false)

pub returns-then-m-eq0 : goal.returns-then-m-eq0
returns-then-m-eq0 c = rw (c.if-minus.true, c.if-m-eq0.true) refl

pub returns-else-m-eq0 : goal.returns-else-m-eq0
returns-else-m-eq0 c = rw c.if-minus.true (minus_kept c.args.m c.if-m-eq0.false (c.requires.0 c.if-minus.true))

pub returns-else-minus : goal.returns-else-minus
returns-else-minus c = rw c.if-minus.false (to_z_pos w64 (c.requires.1 c.if-minus.false))
