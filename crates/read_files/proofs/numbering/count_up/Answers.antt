-- `numbering::count_up` meets its contract.
use native.Mathlib.Omega.{arith}
use Rattle.read_files.proofs.NumberLaws.{count_none, steps_few, count_some}
use Rattle.read_files.proofs.numbering.count_up.Goals as goal

pub returns-then-high-low : goal.returns-then-high-low
returns-then-high-low c = let a = c.args in count_none a.low a.high a.size c.if-high-low.true

pub overflow_add-result : goal.overflow_add-result
overflow_add-result c = let a = c.args in omega (arith, steps_few a.low a.high a.size c.requires.0)

pub returns : goal.returns
returns c = let a = c.args in count_some a.low a.high a.size c.if-high-low.false
