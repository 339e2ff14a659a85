-- The two cases of the definition.
use Rattle.std.proofs.Common.{sym, arith}
use Rattle.read_table.proofs.Shifting.{moved_below, moved_above}
use Rattle.read_table.proofs.table.Edit.moved.Goals as goal

pub returns-then-at-to : goal.returns-then-at-to
returns-then-at-to c = sym (moved_below _ _ _ c.if-at-to.true)

pub overflow_add-result : goal.overflow_add-result
overflow_add-result c = let e = c.args.self in omega (arith, c.requires, moved_above e.to e.front c.args.x c.if-at-to.false)

pub overflow_cast-result : goal.overflow_cast-result
overflow_cast-result c = let e = c.args.self in omega (arith, c.requires, moved_above e.to e.front c.args.x c.if-at-to.false)

pub returns-else-at-to : goal.returns-else-at-to
returns-else-at-to c = sym (moved_above _ _ _ c.if-at-to.false)
