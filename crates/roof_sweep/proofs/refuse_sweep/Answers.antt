-- `roof_sweep::refuse_sweep` meets its contract. Assumes nothing.
use borrow.Author.Tests.{eq-eqb, ne_eqb}
use Rattle.roof_sweep.proofs.refuse_sweep.Goals as goal

pub returns-then-samples-eq0 : goal.returns-then-samples-eq0
returns-then-samples-eq0 c = rw (eq-eqb _ 0 c.if-samples-eq0.true, c.refuse.ensures, c.refusal.ensures)

pub returns-else-samples-eq0 : goal.returns-else-samples-eq0
returns-else-samples-eq0 c = rw (ne_eqb _ 0 c.if-samples-eq0.false, c.refuse-else-samples-eq0.ensures)
