-- `list::read_frame` meets its contract: the columns of the words from here on, stored from c on, make the matrix.
use borrow.Author.Rules.{rules}
use mathlib.Core.Path.{sym, ap, ◌∙◌}
use mathlib.Core.List.{[]}
use lib.ListN.{length, drop, length-set}
use Rattle.format.specs.Vectors.{vector_words, vector_said}
use Rattle.read_vectors.proofs.ListLaws.{length_matrix, frame_start, frame_end, frame_more, frame_full, column_or}
use Rattle.read_vectors.proofs.list.read_frame.Goals as goal

pub loop-c-init : goal.loop-c-init
loop-c-init c =
    let a = c.args in
    let m = c.blank_matrix-m in
    (search rules, ap length m.ensures ∙ length_matrix [], frame_start a.n m.result a.t.now m.ensures)

pub returns-then-w : goal.returns-then-w
returns-then-w c =
    let a = c.args in
    let l = c.loop-c in
    frame_end a.n l.m l.c c.next_word-w.ensures c.if-w.true ∙ sym l.invariant.2

pub loop-c-preserved : goal.loop-c-preserved
loop-c-preserved c =
    let a = c.args in
    let l = c.loop-c in
    let w = c.next_word-w.ensures in
    let v = c.unwrap_or.ensures ∙ rw (c.vector_of.ensures, c.blank_column.ensures) (column_or (vector_said a.n _)) in
    (w.within, rw length-set l.invariant.1, l.invariant.2 ∙ frame_more a.n l.m l.c w c.if-w.false _ v)

pub returns : goal.returns
returns c =
    let a = c.args in
    let l = c.loop-c in
    frame_full a.n l.m l.c (vector_words (drop l.at a.t.now)) l.invariant.1 c.loop-c-test.false ∙ sym l.invariant.2
