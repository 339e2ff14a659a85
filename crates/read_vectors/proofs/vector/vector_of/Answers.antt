-- `vector::vector_of` meets its contract.
use native.Mathlib.Omega.{arith}
use mathlib.Core.Path.{sym, ◌∙◌}
use Rattle.read_vectors.proofs.VectorLaws.{enclosed_some, vector_open, vector_enclosed}
use Rattle.read_vectors.proofs.vector.vector_of.Goals as goal

pub returns-then-not-is_enclosed : goal.returns-then-not-is_enclosed
returns-then-not-is_enclosed c =
    let a = c.args in
    let i = c.is_enclosed in
    rw (vector_open a.n a.w.now (sym i.ensures ∙ c.if-not-is_enclosed.true))

pub overflow_sub-to : goal.overflow_sub-to
overflow_sub-to c =
    let w = c.args.w.now in
    let e = sym c.is_enclosed.ensures ∙ c.if-not-is_enclosed.false in
    omega (arith, (enclosed_some w e).0)

pub slice_bounds-read_parts-count : goal.slice_bounds-read_parts-count
slice_bounds-read_parts-count c =
    let w = c.args.w.now in
    let e = sym c.is_enclosed.ensures ∙ c.if-not-is_enclosed.false in
    omega (arith, (enclosed_some w e).0)

pub slice_bounds-read_parts-start : goal.slice_bounds-read_parts-start
slice_bounds-read_parts-start c =
    let w = c.args.w.now in
    let e = sym c.is_enclosed.ensures ∙ c.if-not-is_enclosed.false in
    omega (arith, (enclosed_some w e).0)

pub returns : goal.returns
returns c =
    let w = c.args.w.now in
    let e = sym c.is_enclosed.ensures ∙ c.if-not-is_enclosed.false in
    rw (vector_enclosed c.args.n w e) c.read_parts.ensures
