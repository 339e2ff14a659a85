-- `codes::codes_in` meets its contract: what is to come of the words, after the n numbers stored, gives the answer.
use Prim.Native.Nat.{◌<◌}
use native.Mathlib.Omega.{arith}
use mathlib.Core.Path.{sym, ap, ◌∙◌, refl}
use borrow.Author.Rules.{rules}
use Rattle.read_text.proofs.NumberLaws.{words_end, words_blank, words_next}
use Rattle.read_axes.proofs.CodeLaws.{codes_from, codes_start, codes_all, codes_few, codes_many, codes_bad, codes_next}
use Rattle.read_axes.proofs.codes.codes_in.Goals as goal

pub loop-at-init : goal.loop-at-init
loop-at-init c =
    (search rules, search rules, refl, codes_start _ _ _ c.requires)

pub loop-at-preserved-then-size-eq0 : goal.loop-at-preserved-then-size-eq0
loop-at-preserved-then-size-eq0 c =
    let w = c.word_length-size in
    let l = c.loop-at in
    let a = c.args in (
      search rules,
      search rules,
      search rules,
      l.invariant.3
          ∙ ap (codes_from a.kinds a.axes l.n l.v) (words_blank a.t.now l.at w.result w.ensures.0 c.loop-at-test.true c.if-size-eq0.true),
    )

pub returns-then-n-axes : goal.returns-then-n-axes
returns-then-n-axes c =
    let w = c.word_length-size in
    let l = c.loop-at in
    let a = c.args in
    let first = l.invariant.3 ∙ ap (codes_from a.kinds a.axes l.n l.v) (words_next a.t.now l.at w.result w.ensures.0 c.if-size-eq0.false) in
    sym (first ∙ codes_many _ _ _ _ _ _ c.if-n-axes.true)

pub loop-at-preserved : goal.loop-at-preserved
loop-at-preserved c =
    let w = c.word_length-size in
    let l = c.loop-at in
    let a = c.args in
    let first = l.invariant.3 ∙ ap (codes_from a.kinds a.axes l.n l.v) (words_next a.t.now l.at w.result w.ensures.0 c.if-size-eq0.false) in
    let left : l.n < a.axes = omega arith in
    let x = c.in_ok-v in
    let e = x.ensures in (
      search rules,
      search rules,
      search rules,
      first ∙ codes_next _ _ _ _ _ _ left x.field-0 e,
    )

pub returns-then-n-axes-2 : goal.returns-then-n-axes-2
returns-then-n-axes-2 c =
    let l = c.loop-at in
    let a = c.args in
    let all = l.invariant.3 ∙ ap (codes_from a.kinds a.axes l.n l.v) (words_end a.t.now l.at c.loop-at-test.false) in
    sym (all ∙ codes_all _ _ _ _ c.if-n-axes-2.true)

pub returns-else-n-axes-2 : goal.returns-else-n-axes-2
returns-else-n-axes-2 c =
    let l = c.loop-at in
    let a = c.args in
    let all = l.invariant.3 ∙ ap (codes_from a.kinds a.axes l.n l.v) (words_end a.t.now l.at c.loop-at-test.false) in
    sym (all ∙ codes_few _ _ _ _ (omega (arith, c.loop-at.invariant.1, c.if-n-axes-2.false)))

pub returns-in_err-v : goal.returns-in_err-v
returns-in_err-v c =
    let w = c.word_length-size in
    let l = c.loop-at in
    let a = c.args in
    let first = l.invariant.3 ∙ ap (codes_from a.kinds a.axes l.n l.v) (words_next a.t.now l.at w.result w.ensures.0 c.if-size-eq0.false) in
    let left : l.n < a.axes = omega arith in
    c.from_residual.ensures ∙ sym (first ∙ codes_bad _ _ _ _ _ _ left c.in_err-v.ensures)
