-- `read_text::numbers::sizes_in` meets its contract: what is to come of the words, after the n sizes stored, gives the answer.
use Rattle.std.specs.Prelude.{if◌then◌else◌}
use Rattle.std.specs.Prelude.{Some, None}
use Prim.Native.Nat.{ℕ, ◌-◌, ◌+◌, ◌≤◌}
use mathlib.Core.Path.{◌≡◌, refl, sym, ap, ◌∙◌}
use mathlib.Core.List.{List, ◌∷◌}
use lib.ListN.{length, take, drop}
use lib.Dec.{eqb}
use borrow.Author.Rules.{rules}
use borrow.Author.Tests.{eq-eqb, ne_eqb}
use Rattle.format.specs.Words.{words}
use Rattle.read_text.specs.Numbers.{first_word, sizes_in}
use Rattle.read_text.proofs.NumberLaws.{words_end, words_blank, words_next, sizes_from, sizes_start, sizes_many, sizes_bad, sizes_full, sizes_next, sizes_end}
use Rattle.read_text.proofs.numbers.sizes_in.Goals as goal

pub returns-then-dimension-gt-AXES : goal.returns-then-dimension-gt-AXES
returns-then-dimension-gt-AXES c =
    sym (sizes_many _ _ c.if-dimension-gt-AXES.true)

pub loop-at-init : goal.loop-at-init
loop-at-init c =
    (search rules, search rules, refl, sizes_start _ _ c.if-dimension-gt-AXES.false)

-- the word at hand, and those to come
word_first : (d at size n : ℕ) (s v : List ℕ)
    → sizes_in d (words s) ≡ sizes_from d n v (words (drop at s))
    → size ≡ length (first_word (take (length s - at) (drop at s)))
    → (size ≡ 0 → ⊥)
    → sizes_in d (words s) ≡ sizes_from d n v (take (at + size - at) (drop at s) ∷ words (drop (at + size) s))
word_first d at size n s v q w h = q ∙ ap (sizes_from d n v) (words_next s at size w h)

-- after the last word
all_words : (d at n : ℕ) (s v : List ℕ)
    → sizes_in d (words s) ≡ sizes_from d n v (words (drop at s))
    → length s ≤ at
    → sizes_in d (words s) ≡ (if eqb n d then Some v else None)
all_words d at n s v q h = q ∙ ap (sizes_from d n v) (words_end s at h) ∙ sizes_end d n v

pub loop-at-preserved-then-size-eq0 : goal.loop-at-preserved-then-size-eq0
loop-at-preserved-then-size-eq0 c =
    let w = c.word_length-size in
    let l = c.loop-at in
    let a = c.args in (
      search rules,
      search rules,
      search rules,
      l.invariant.3
          ∙ ap (sizes_from a.dimension l.n l.v) (words_blank a.s.now l.at w.result w.ensures.0 c.loop-at-test.true c.if-size-eq0.true),
    )

pub returns-then-x-eq0 : goal.returns-then-x-eq0
returns-then-x-eq0 c =
    let w = c.word_length-size in
    let l = c.loop-at in
    let f = word_first c.args.dimension l.at w.result l.n c.args.s.now l.v l.invariant.3 w.ensures.0 c.if-size-eq0.false in
    sym (f ∙ sizes_bad _ _ _ _ _ (sym c.read_size-x.ensures ∙ c.if-x-eq0.true))

pub returns-then-n-dimension : goal.returns-then-n-dimension
returns-then-n-dimension c =
    let w = c.word_length-size in
    let l = c.loop-at in
    let f = word_first c.args.dimension l.at w.result l.n c.args.s.now l.v l.invariant.3 w.ensures.0 c.if-size-eq0.false in
    sym (f ∙ sizes_full _ _ _ _ _ c.if-n-dimension.true)

pub loop-at-preserved : goal.loop-at-preserved
loop-at-preserved c =
    let w = c.word_length-size in
    let l = c.loop-at in
    let x = c.read_size-x in
    let f = word_first c.args.dimension l.at w.result l.n c.args.s.now l.v l.invariant.3 w.ensures.0 c.if-size-eq0.false in (
      search rules,
      search rules,
      search rules,
      rw x.ensures (f ∙ sizes_next _ _ _ _ _ (λ e. c.if-x-eq0.false (x.ensures ∙ e))),
    )

pub returns-then-n-dimension-2 : goal.returns-then-n-dimension-2
returns-then-n-dimension-2 c =
    let l = c.loop-at in
    let a = all_words c.args.dimension l.at l.n c.args.s.now l.v l.invariant.3 c.loop-at-test.false in
    sym (a ∙ rw (eq-eqb l.n _ c.if-n-dimension-2.true))

pub returns-else-n-dimension-2 : goal.returns-else-n-dimension-2
returns-else-n-dimension-2 c =
    let l = c.loop-at in
    let a = all_words c.args.dimension l.at l.n c.args.s.now l.v l.invariant.3 c.loop-at-test.false in
    sym (a ∙ rw (ne_eqb l.n _ c.if-n-dimension-2.false))
