-- `strings::strings_in` meets its contract: what is to come of the strings, after the n spans stored, gives the answer.
use borrow.Author.Rules.{rules}
use borrow.Author.Tests.{eq-eqb, ne_eqb}
use Prim.Native.Nat.{◌+◌}
use native.Mathlib.Omega.{arith}
use mathlib.Core.Path.{refl, sym, ap, ◌∙◌}
use Rattle.read_axes.proofs.StringLaws.{strings_end, strings_blank, strings_left, left_start, left_wrong, left_full, left_next, left_end}
use Rattle.read_axes.proofs.strings.strings_in.Goals as goal

pub loop-at-init : goal.loop-at-init
loop-at-init c =
    (search rules, search rules, refl, left_start c.args.base c.args.axes c.args.t.now c.requires.0)

pub loop-at-preserved-then-b : goal.loop-at-preserved-then-b
loop-at-preserved-then-b c =
    let l = c.loop-at in
    let a = c.args in (
      search rules,
      search rules,
      search rules,
      l.invariant.3
          ∙ ap (strings_left a.base a.axes l.n l.v) (strings_blank a.t.now l.at c.loop-at-test.true c.if-b.true),
    )

pub string_at-requires : goal.string_at-requires
string_at-requires c = (c.loop-at-test.true, c.if-b.false)

pub returns-in_err-long : goal.returns-in_err-long
returns-in_err-long c =
    let l = c.loop-at in
    let a = c.args in
    c.from_residual.ensures
    ∙ sym (l.invariant.3 ∙ ap (strings_left a.base a.axes l.n l.v) c.in_err-long.ensures ∙ left_wrong a.base a.axes l.n l.v)

pub returns-then-n-axes : goal.returns-then-n-axes
returns-then-n-axes c =
    let l = c.loop-at in
    let a = c.args in
    let r = c.in_ok-long.ensures in
    let first = l.invariant.3 ∙ ap (strings_left a.base a.axes l.n l.v) r.strings in
    sym (first ∙ left_full _ _ _ _ _ _ c.if-n-axes.true)

pub overflow_cast-place : goal.overflow_cast-place
overflow_cast-place c = omega (arith, c.in_ok-long.ensures.within)

pub overflow_add-start : goal.overflow_add-start
overflow_add-start c = omega (arith, c.in_ok-long.ensures.within)

pub overflow_cast-length : goal.overflow_cast-length
overflow_cast-length c = omega (arith, c.in_ok-long.ensures.within)

pub overflow_add-at-else-b : goal.overflow_add-at-else-b
overflow_add-at-else-b c = omega (arith, c.in_ok-long.ensures.within)

pub overflow_add-at-else-b-2 : goal.overflow_add-at-else-b-2
overflow_add-at-else-b-2 c = omega (arith, c.in_ok-long.ensures.within)

pub loop-at-smaller : goal.loop-at-smaller
loop-at-smaller c = omega (arith, c.in_ok-long.ensures.within)

pub loop-at-preserved : goal.loop-at-preserved
loop-at-preserved c =
    let l = c.loop-at in
    let a = c.args in
    let r = c.in_ok-long.ensures in
    let first = l.invariant.3 ∙ ap (strings_left a.base a.axes l.n l.v) r.strings in
    (r.within, search rules, search rules, first ∙ left_next a.base a.axes l.n l.v (l.at + 1) _ r.text _ r.size)

pub returns-then-n-axes-2 : goal.returns-then-n-axes-2
returns-then-n-axes-2 c =
    let l = c.loop-at in
    let a = c.args in
    let all = l.invariant.3 ∙ ap (strings_left a.base a.axes l.n l.v) (strings_end a.t.now l.at c.loop-at-test.false) ∙ left_end a.base a.axes l.n l.v in
    sym (all ∙ rw (eq-eqb l.n _ c.if-n-axes-2.true))

pub returns-else-n-axes-2 : goal.returns-else-n-axes-2
returns-else-n-axes-2 c =
    let l = c.loop-at in
    let a = c.args in
    let all = l.invariant.3 ∙ ap (strings_left a.base a.axes l.n l.v) (strings_end a.t.now l.at c.loop-at-test.false) ∙ left_end a.base a.axes l.n l.v in
    sym (all ∙ rw (ne_eqb l.n _ c.if-n-axes-2.false))
