-- `read_decimals::parts::read_exponent` meets its contract.
use mathlib.Core.Path.{sym, ◌∙◌}
use borrow.Author.Tests.{eqb-true, eqb-false}
use Rattle.read_decimals.proofs.PartLaws.{exponent_empty, exponent_some, exponent_none}
use Rattle.read_decimals.proofs.parts.read_exponent.Goals as goal

pub returns-then-is_empty : goal.returns-then-is_empty
returns-then-is_empty c = exponent_empty c.args.s.now (eqb-true _ _ (sym c.is_empty.ensures ∙ c.if-is_empty.true))

pub returns-then-b : goal.returns-then-b
returns-then-b c =
    c.read_signed.ensures
    ∙ exponent_some c.args.s.now (eqb-false _ _ (sym c.is_empty.ensures ∙ c.if-is_empty.false)) c.if-b.true

pub returns : goal.returns
returns c = exponent_none c.args.s.now (eqb-false _ _ (sym c.is_empty.ensures ∙ c.if-is_empty.false)) c.if-b.false
