-- `list::words_fine` meets its contract.
use Rattle.std.proofs.Common.{rules, arith, sym, ◌∙◌, ◌≡◌, ◌-◌, ◌+◌}
use native.Mathlib.Nat.{sub-zero}
use Rattle.read_vectors.proofs.ListLaws.{fine_short, fine_wrong, fine_more, fine_end}
use Rattle.read_vectors.proofs.list.words_fine.Goals as goal

pub loop-init : goal.loop-init
loop-init c = (search rules, rw sub-zero)

pub returns-then-w : goal.returns-then-w
returns-then-w c =
    let a = c.args in
    let l = c.loop in
    fine_short a.none a.n (a.count - l.counter) c.next_word-w.ensures c.if-w.true (omega arith) ∙ sym l.invariant.1

pub returns-then-not-word_fine : goal.returns-then-not-word_fine
returns-then-not-word_fine c =
    let a = c.args in
    let l = c.loop in
    let f = c.word_fine in
    fine_wrong a.none a.n (a.count - l.counter) c.next_word-w.ensures c.if-w.false (omega arith) (sym f.ensures ∙ c.if-not-word_fine.true) ∙ sym l.invariant.1

pub loop-preserved : goal.loop-preserved
loop-preserved c =
    let a = c.args in
    let l = c.loop in
    let w = c.next_word-w.ensures in
    let e : a.count - l.counter - 1 ≡ a.count - (l.counter + 1) = omega arith in
    (w.within, l.invariant.1 ∙ rw (← e) (fine_more a.none a.n (a.count - l.counter) w c.if-w.false (omega arith) (sym c.word_fine.ensures ∙ c.if-not-word_fine.false)))

pub returns : goal.returns
returns c =
    let a = c.args in
    let l = c.loop in
    fine_end a.none a.n (a.count - l.counter) c.next_word-w-2.ensures (omega arith) ∙ sym l.invariant.1
