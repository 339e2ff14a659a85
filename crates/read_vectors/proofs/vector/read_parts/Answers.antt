-- `vector::read_parts` meets its contract: what is left after i components, stored from i on, is the vector.
use borrow.Author.Rules.{rules}
use native.Mathlib.Nat.{sub-zero}
use mathlib.Core.Path.{sym, ◌∙◌}
use Rattle.format.specs.Vectors.{comma_parts, said_by, component_in}
use Rattle.read_vectors.proofs.VectorLaws.{parts_start, parts_more, stored_start, vector_short, vector_wrong, vector_more, vector_long, vector_done}
use Rattle.read_vectors.proofs.vector.read_parts.Goals as goal

pub loop-i-init : goal.loop-i-init
loop-i-init c =
    let a = c.args in
    let o = said_by a.n component_in (comma_parts a.s.now) in
    (search rules, rw (parts_start, sub-zero) (stored_start c.blank_column-parts.result o c.blank_column-parts.ensures))

pub returns-then-s-at : goal.returns-then-s-at
returns-then-s-at c =
    let a = c.args in
    let l = c.loop-i in
    vector_short a.s.now l.parts a.n l.i l.at c.loop-i-test.true c.if-s-at.true ∙ sym l.invariant.1

pub returns-in_err-parts : goal.returns-in_err-parts
returns-in_err-parts c =
    let a = c.args in
    let l = c.loop-i in
    let q = parts_more a.s.now l.at c.if-s-at.false c.find_byte.result c.find_byte.ensures.0 in
    c.from_residual.ensures ∙ vector_wrong a.s.now l.parts a.n l.i l.at c.loop-i-test.true _ _ q c.in_err-parts.ensures ∙ sym l.invariant.1

pub loop-i-preserved : goal.loop-i-preserved
loop-i-preserved c =
    let a = c.args in
    let l = c.loop-i in
    let q = parts_more a.s.now l.at c.if-s-at.false c.find_byte.result c.find_byte.ensures.0 in
    (search rules, l.invariant.1 ∙ vector_more a.s.now l.parts a.n l.i l.at c.loop-i-test.true _ _ q _ c.in_ok-parts.ensures)

pub returns-then-at-s : goal.returns-then-at-s
returns-then-at-s c =
    let a = c.args in
    let l = c.loop-i in
    vector_long a.s.now l.parts a.n l.i l.at c.loop-i-test.false c.if-at-s.true ∙ sym l.invariant.1

pub returns : goal.returns
returns c =
    let a = c.args in
    let l = c.loop-i in
    vector_done a.s.now l.parts a.n l.i l.at c.loop-i-test.false c.if-at-s.false ∙ sym l.invariant.1
