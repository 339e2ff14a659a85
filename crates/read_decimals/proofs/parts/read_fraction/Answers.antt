-- `read_decimals::parts::read_fraction` meets its contract.
use native.Mathlib.Omega.{arith}
use mathlib.Core.Path.{sym, ◌∙◌}
use borrow.Author.Tests.{eqb-true, eqb-false}
use Rattle.read_decimals.proofs.PartLaws.{fraction_empty, fraction_none, fraction_some}
use Rattle.read_decimals.proofs.parts.read_fraction.Goals as goal

pub returns-then-is_empty : goal.returns-then-is_empty
returns-then-is_empty c = let a = c.args in fraction_empty a.before a.s.now c.requires (eqb-true _ _ (sym c.is_empty.ensures ∙ c.if-is_empty.true))

pub returns-then-s-ne46 : goal.returns-then-s-ne46
returns-then-s-ne46 c = let a = c.args in fraction_none a.before a.s.now c.requires (eqb-false _ _ (sym c.is_empty.ensures ∙ c.if-is_empty.false)) c.if-s-ne46.true

pub overflow_add-result : goal.overflow_add-result
overflow_add-result c =
    let a = c.args in
    let d = c.read_digits-d in
    let r = fraction_some a.before a.s.now d.result (eqb-false _ _ (sym c.is_empty.ensures ∙ c.if-is_empty.false)) c.if-s-ne46.false d.ensures in
    omega (arith, r.within)

pub returns : goal.returns
returns c =
    let a = c.args in
    let d = c.read_digits-d in
    fraction_some a.before a.s.now d.result (eqb-false _ _ (sym c.is_empty.ensures ∙ c.if-is_empty.false)) c.if-s-ne46.false d.ensures
