-- `data_place::axes::number_in` meets its contract.
use borrow.Author.Rules.{rules}
use mathlib.Core.Path.{sym, ◌∙◌}
use Rattle.data_place.proofs.axes.number_in.Goals as goal

pub number-requires : goal.number-requires
number-requires c =
    (search rules, record { all = sym c.is_inside.ensures ∙ c.if-is_inside.true; few = c.requires })

pub returns-then-is_inside : goal.returns-then-is_inside
returns-then-is_inside c = rw (sym c.is_inside.ensures ∙ c.if-is_inside.true, c.number.ensures)

pub returns-else-is_inside : goal.returns-else-is_inside
returns-else-is_inside c = rw (sym c.is_inside.ensures ∙ c.if-is_inside.false, c.into.ensures)
