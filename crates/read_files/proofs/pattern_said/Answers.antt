-- `read_files::pattern_said` meets its contract.
use borrow.Author.Tests.{not-true, not-false}
use native.Mathlib.Omega.{arith}
use Rattle.read_files.proofs.SaidLaws.{word_bad, numbers_bad, axes_bad, after_within, pattern_read}
use Rattle.read_files.proofs.pattern_said.Goals as goal

pub returns-then-not-p : goal.returns-then-not-p
returns-then-not-p c =
    word_bad c.next_word-w.ensures c.read_pattern-p.ensures (not-true c.read_pattern-p.result.fine c.if-not-p.true)

pub returns-then-not-n : goal.returns-then-not-n
returns-then-not-n c =
    numbers_bad c.next_word-w.ensures c.read_pattern-p.ensures c.read_numbering-n.ensures (not-true c.read_numbering-n.result.fine c.if-not-n.true)

pub returns-then-cover-eq-NO_COVER : goal.returns-then-cover-eq-NO_COVER
returns-then-cover-eq-NO_COVER c =
    let f = not-false c.read_pattern-p.result.fine c.if-not-p.false in
    let g = not-false c.read_numbering-n.result.fine c.if-not-n.false in
    axes_bad c.next_word-w.ensures c.read_pattern-p.ensures c.read_numbering-n.ensures f g c.read_axes-cover.ensures c.if-cover-eq-NO_COVER.true

pub overflow_add-percent : goal.overflow_add-percent
overflow_add-percent c =
    let n = c.next_word-w.ensures in
    let q = c.read_pattern-p.ensures in
    omega (arith, after_within n q, q.ordered, n.within)

pub overflow_add-after : goal.overflow_add-after
overflow_add-after c =
    let n = c.next_word-w.ensures in
    omega (arith, after_within n c.read_pattern-p.ensures, n.within)

pub returns : goal.returns
returns c =
    let f = not-false c.read_pattern-p.result.fine c.if-not-p.false in
    let g = not-false c.read_numbering-n.result.fine c.if-not-n.false in
    pattern_read c.next_word-w.ensures c.read_pattern-p.ensures c.read_numbering-n.ensures f g c.read_axes-cover.ensures c.if-cover-eq-NO_COVER.false
