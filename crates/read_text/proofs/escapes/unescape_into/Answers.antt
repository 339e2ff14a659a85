-- `read_text::escapes::unescape_into` meets its contract: to store what the rest means from n on gives the list that is wanted.
use native.Mathlib.Numerals.{add-one}
use mathlib.Core.Path.{refl, sym, ap, ◌∙◌}
use lib.ListN.{drop}
use lib.Seq.{sets}
use borrow.Author.Rules.{rules}
use Rattle.read_text.specs.Meanings.{meant}
use Rattle.read_text.proofs.Meanings.{meant_end, sets_full}
use Rattle.read_text.proofs.escapes.unescape_into.Goals as goal

pub loop-i-init : goal.loop-i-init
loop-i-init c = (search rules, refl, refl)

pub returns-then-out-n : goal.returns-then-out-n
returns-then-out-n c =
    let l = c.loop-i in
    let a = c.args in
    sym (l.invariant.2 ∙ sets_full l.out (meant (drop l.i a.s.now)) l.n c.if-out-n.true)

pub returns-in_default : goal.returns-in_default
returns-in_default c =
    let l = c.loop-i in
    sym (l.invariant.2 ∙ ap (sets l.out l.n) (c.in_default.ensures.ends))

pub loop-i-preserved : goal.loop-i-preserved
loop-i-preserved c =
    let l = c.loop-i in
    (search rules, search rules, l.invariant.2 ∙ ap (sets l.out l.n) (c.in-Some.ensures.next) ∙ rw (add-one l.n))

pub returns : goal.returns
returns c =
    let l = c.loop-i in
    let a = c.args in
    sym (l.invariant.2 ∙ ap (sets l.out l.n) (meant_end a.s.now l.i c.loop-i-test.false))
