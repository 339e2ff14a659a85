-- `read_text::escapes::unescaped_length` meets its contract: the bytes passed mean n bytes, and the rest what is left.
use native.Mathlib.Omega.{arith}
use mathlib.Core.Path.{ap}
use lib.ListN.{length}
use borrow.Author.Rules.{rules}
use Rattle.read_text.proofs.Meanings.{meant_end}
use Rattle.read_text.proofs.escapes.unescaped_length.Goals as goal

pub loop-i-init : goal.loop-i-init
loop-i-init c = (search rules, search rules, omega arith)

pub returns-in_default : goal.returns-in_default
returns-in_default c =
    let l = c.loop-i in
    record {
      length = omega (arith, l.invariant.2, ap length (c.in_default.ensures.ends));
      within = omega arith;
    }

pub loop-i-preserved : goal.loop-i-preserved
loop-i-preserved c =
    let l = c.loop-i in
    (search rules, search rules, omega (arith, l.invariant.2, ap length (c.in-Some.ensures.next)))

pub returns : goal.returns
returns c =
    let l = c.loop-i in
    let a = c.args in
    record {
      length = omega (arith, l.invariant.2, ap length (meant_end a.s.now l.i c.loop-i-test.false));
      within = omega arith;
    }
