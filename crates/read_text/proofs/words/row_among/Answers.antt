-- `words::row_among` meets its contract. The loop's invariant: s is none of the names passed, and the table holds the others from `at` on.
use mathlib.Core.Path.{refl}
use native.Mathlib.Omega.{arith}
use Rattle.read_text.proofs.Rows.{passed_all, passed_here, passed_on, name_within}
use borrow.Author.Rules.{rules}
use Rattle.read_text.proofs.words.row_among.Goals as goal

pub loop-at-init : goal.loop-at-init
loop-at-init c = (search rules, λ ns e. (ns, e, refl))

-- the name at `at` lies in the table
pub overflow_add-to : goal.overflow_add-to
overflow_add-to c =
    let l = c.loop-at in
    let h = name_within c.args.names.now c.args.s.now l.at l.invariant.1 c.loop-at-test.true c.requires.0 c.requires.1 in
    search rules

pub slice_bounds-is_alike-end : goal.slice_bounds-is_alike-end
slice_bounds-is_alike-end c =
    let l = c.loop-at in
    let h = name_within c.args.names.now c.args.s.now l.at l.invariant.1 c.loop-at-test.true c.requires.0 c.requires.1 in
    omega arith

pub bounds-names-at-then-is_alike : goal.bounds-names-at-then-is_alike
bounds-names-at-then-is_alike c =
    let l = c.loop-at in
    let h = name_within c.args.names.now c.args.s.now l.at l.invariant.1 c.loop-at-test.true c.requires.0 c.requires.1 in
    omega arith

pub returns-then-is_alike : goal.returns-then-is_alike
returns-then-is_alike c =
    let h = passed_here c.args.names.now c.args.s.now c.loop-at.at c.loop-at.invariant.1 c.loop-at-test.true in
    h c.is_alike.ensures c.if-is_alike.true

pub loop-at-preserved : goal.loop-at-preserved
loop-at-preserved c =
    let l = c.loop-at in
    let w = name_within c.args.names.now c.args.s.now l.at l.invariant.1 c.loop-at-test.true c.requires.0 c.requires.1 in
    let h = passed_on c.args.names.now c.args.s.now c.loop-at.at c.loop-at.invariant.1 c.loop-at-test.true in
    (omega arith, h c.is_alike.ensures c.if-is_alike.false)

pub returns : goal.returns
returns c =
    let a = c.args in
    passed_all a.names.now a.s.now c.loop-at.at c.loop-at.invariant.1 (search rules)
