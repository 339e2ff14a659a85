-- `judge::is_in_order` meets its contract: one law for a field that lies in a space, and one for any other.
use mathlib.Core.Path.{sym, ◌∙◌}
use Rattle.read_fields.proofs.Judging.{needs_no_space, order_apart, order_in_space}
use Rattle.read_fields.proofs.judge.is_in_order.Goals as goal

pub returns-then-f-lt-SPACE : goal.returns-then-f-lt-SPACE
returns-then-f-lt-SPACE c gs e =
    let f = c.args.f in
    order_apart f gs (c.is_after_dimension.ensures gs e) (needs_no_space f c.if-f-lt-SPACE.true)

pub returns-then-needs_space : goal.returns-then-needs_space
returns-then-needs_space c gs e =
    order_in_space c.args.f gs (c.is_after_dimension-then-needs_space.ensures gs e) (sym c.needs_space.ensures ∙ c.if-needs_space.true) e

pub returns-else-needs_space : goal.returns-else-needs_space
returns-else-needs_space c gs e =
    order_apart c.args.f gs (c.is_after_dimension-else-needs_space.ensures gs e) (sym c.needs_space.ensures ∙ c.if-needs_space.false)
