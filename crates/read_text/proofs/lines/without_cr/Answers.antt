-- `lines::without_cr` meets its contract.
use Rattle.std.proofs.Common.{rules, arith, sym, ◌≡◌, ◌+◌, length}
use Rattle.read_text.specs.Places.{without_cr}
use Rattle.read_text.proofs.Places.{without_cr_none, without_cr_cut, without_cr_kept}
use Rattle.read_text.proofs.lines.without_cr.Goals as goal

pub returns-then-last-eq13 : goal.returns-then-last-eq13
returns-then-last-eq13 c =
    let s = c.in-Some in
    (sym (rw s.ensures.cases.0 (without_cr_cut s.front.now s.last.now c.if-last-eq13.true)), omega (arith, s.ensures.cases.1))

pub returns-else-last-eq13 : goal.returns-else-last-eq13
returns-else-last-eq13 c =
    let s = c.in-Some in
    let k : length (without_cr c.args.s.now) ≡ length s.front.now + 1 = rw s.ensures.cases.0 (without_cr_kept s.front.now s.last.now c.if-last-eq13.false) in
    (omega (arith, s.ensures.cases.1), search rules)

pub returns-in-None : goal.returns-in-None
returns-in-None c = (sym (without_cr_none c.args.s.now c.in-None.ensures.cases), search rules)
