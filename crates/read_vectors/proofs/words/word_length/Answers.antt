-- `words::word_length` meets its contract: nothing that ends the word was passed.
use borrow.Author.Rules.{rules}
use native.Mathlib.Omega.{arith}
use mathlib.Core.Path.{sym, ◌∙◌}
use Rattle.read_vectors.proofs.WordLaws.{word_stop, word_more, word_end}
use Rattle.read_vectors.proofs.words.word_length.Goals as goal

pub returns-then-is_end : goal.returns-then-is_end
returns-then-is_end c =
    let l = c.loop-i in
    let s = c.args.s.now in
    let e = sym c.is_end.ensures ∙ c.if-is_end.true in
    (omega (arith, word_stop l.inside s l.i c.loop-i-test.true e), search rules)

pub loop-i-preserved : goal.loop-i-preserved
loop-i-preserved c =
    let l = c.loop-i in
    let s = c.args.s.now in
    let e = sym c.is_end.ensures ∙ c.if-is_end.false in
    rw c.is_inside-inside.ensures (omega (arith, word_more l.inside s l.i c.loop-i-test.true e))

pub returns : goal.returns
returns c =
    let l = c.loop-i in
    let s = c.args.s.now in
    (omega (arith, word_end l.inside s l.i c.loop-i-test.false), search rules)
