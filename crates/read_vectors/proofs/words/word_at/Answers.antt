-- `words::word_at` meets its contract.
use Rattle.std.proofs.Common.{rules, arith, ◌∙◌, ◌≡◌, ◌-◌, ◌+◌}
use native.Mathlib.Nat.{sub-zero}
use Rattle.read_vectors.proofs.WordLaws.{word_none, word_later, word_next}
use Rattle.read_vectors.proofs.words.word_at.Goals as goal

pub loop-init : goal.loop-init
loop-init c = (search rules, rw sub-zero)

pub returns-then-w : goal.returns-then-w
returns-then-w c = word_none c.args.i (c.args.i - c.loop.counter) c.next_word-w.ensures c.loop.invariant.1 c.if-w.true

pub loop-preserved : goal.loop-preserved
loop-preserved c =
    let i = c.args.i in
    let l = c.loop in
    let w = c.next_word-w.ensures in
    let e : i - l.counter - 1 ≡ i - (l.counter + 1) = omega arith in
    (w.within, rw (← e) (word_later i (i - l.counter) w l.invariant.1 c.if-w.false (omega arith)))

pub returns : goal.returns
returns c = word_next c.args.i (c.args.i - c.loop.counter) c.next_word.ensures c.loop.invariant.1 (omega arith)
