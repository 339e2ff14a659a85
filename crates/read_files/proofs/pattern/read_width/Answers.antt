-- `pattern::read_width` meets its contract.
use native.Mathlib.Omega.{arith}
use Rattle.read_files.proofs.PatternLaws.{width_missing, some_byte, width_small, width_good, width_bad}
use Rattle.read_files.proofs.pattern.read_width.Goals as goal

pub returns-then-length-eq0 : goal.returns-then-length-eq0
returns-then-length-eq0 c = let a = c.args in width_missing a.zeros a.s.now c.read_digits-d.ensures c.if-length-eq0.true

pub bounds-s-0 : goal.bounds-s-0
bounds-s-0 c =
    let a = c.args in
    some_byte a.zeros a.s.now c.read_digits-d.ensures c.if-length-eq0.false

-- the width is at most the largest
pub overflow_cast-result : goal.overflow_cast-result
overflow_cast-result c =
    let a = c.args in
    omega (arith, width_small a.zeros a.s.now c.read_digits-d.ensures c.if-length-eq0.false c.if-s-n.true)

pub returns-then-s-n : goal.returns-then-s-n
returns-then-s-n c =
    let a = c.args in
    width_good a.zeros a.s.now c.read_digits-d.ensures c.if-length-eq0.false c.if-s-n.true

pub returns : goal.returns
returns c =
    let a = c.args in
    width_bad a.zeros a.s.now c.read_digits-d.ensures c.if-length-eq0.false c.if-s-n.false
