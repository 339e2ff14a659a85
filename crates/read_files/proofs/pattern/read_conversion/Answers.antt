-- `pattern::read_conversion` meets its contract.
use native.Mathlib.Omega.{arith}
use Rattle.read_files.proofs.WordLaws.{begins_within}
use Rattle.read_files.proofs.PatternLaws.{end_within, d_within, conversion_good, conversion_bad}
use Rattle.read_files.proofs.pattern.read_conversion.Goals as goal

-- the zero is within the text
pub slice_bounds-read_width-count : goal.slice_bounds-read_width-count
slice_bounds-read_width-count c = rw c.begins-zeros.ensures (begins_within 48 c.args.s.now)

pub slice_bounds-read_width-start : goal.slice_bounds-read_width-start
slice_bounds-read_width-start c = rw c.begins-zeros.ensures (begins_within 48 c.args.s.now)

-- and so is the width
pub overflow_add-end : goal.overflow_add-end
overflow_add-end c = omega (arith, end_within c.args.s.now c.begins-zeros.ensures c.read_width-w.ensures)

pub slice_bounds-is_rest-count : goal.slice_bounds-is_rest-count
slice_bounds-is_rest-count c = end_within c.args.s.now c.begins-zeros.ensures c.read_width-w.ensures

pub slice_bounds-is_rest-start : goal.slice_bounds-is_rest-start
slice_bounds-is_rest-start c = end_within c.args.s.now c.begins-zeros.ensures c.read_width-w.ensures

pub overflow_add-result : goal.overflow_add-result
overflow_add-result c =
    omega (arith, d_within c.args.s.now c.begins-zeros.ensures c.read_width-w.ensures c.is_rest.ensures c.if-w-is_rest.true)

pub returns-then-w-is_rest : goal.returns-then-w-is_rest
returns-then-w-is_rest c =
    conversion_good c.args.s.now c.begins-zeros.ensures c.read_width-w.ensures c.is_rest.ensures c.if-w-is_rest.true

pub returns : goal.returns
returns c =
    conversion_bad c.args.s.now c.begins-zeros.ensures c.read_width-w.ensures c.is_rest.ensures c.if-w-is_rest.false
