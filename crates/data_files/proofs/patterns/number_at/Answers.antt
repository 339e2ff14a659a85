-- `data_files::patterns::number_at` meets its contract: the number is within reach.
use native.Mathlib.Omega.{arith}
use mathlib.Core.Path.{subst}
use mathlib.Core.Bool.{Bool}
use Rattle.read_files.specs.Parts.{Reach}
use Rattle.data_files.proofs.patterns.number_at.Goals as goal

pub overflow_mul-result : goal.overflow_mul-result
overflow_mul-result c = let a = c.args in omega (arith, subst (λ (x : Bool). Reach a.first x a.size a.n) c.if-falls.true c.requires)

pub overflow_sub-result : goal.overflow_sub-result
overflow_sub-result c = let a = c.args in subst (λ (x : Bool). Reach a.first x a.size a.n) c.if-falls.true c.requires

pub returns-then-falls : goal.returns-then-falls
returns-then-falls c = rw c.if-falls.true

pub overflow_mul-result-else-falls : goal.overflow_mul-result-else-falls
overflow_mul-result-else-falls c = let a = c.args in omega (arith, subst (λ (x : Bool). Reach a.first x a.size a.n) c.if-falls.false c.requires)

pub overflow_add-result : goal.overflow_add-result
overflow_add-result c = let a = c.args in omega (arith, subst (λ (x : Bool). Reach a.first x a.size a.n) c.if-falls.false c.requires)

pub returns-else-falls : goal.returns-else-falls
returns-else-falls c = rw c.if-falls.false
