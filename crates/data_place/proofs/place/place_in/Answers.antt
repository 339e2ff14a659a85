-- `data_place::place::place_in` meets its contract: the skips, then what is left.
use native.Mathlib.Omega.{arith}
use mathlib.Core.Path.{sym, ◌∙◌}
use Rattle.data_place.proofs.Located.{left_within, left_past, left_at}
use Rattle.data_place.proofs.place.place_in.Goals as goal

pub overflow_add-at : goal.overflow_add-at
overflow_add-at c = let a = c.args in let t = c.in-Some.ensures in
    omega (arith, left_within a.reading.now a.second a.file.now a.from c.in-Some.skip t.0 t.1 c.requires)

pub overflow_sub-left : goal.overflow_sub-left
overflow_sub-left c = let a = c.args in let t = c.in-Some.ensures in
    omega (arith, left_within a.reading.now a.second a.file.now a.from c.in-Some.skip t.0 t.1 c.requires)

pub returns-then-left-skipped : goal.returns-then-left-skipped
returns-then-left-skipped c =
    let a = c.args in
    let t = c.in-Some.ensures in
    let b = c.bytes_skipped-skipped in
    sym (left_past a.reading.now a.second a.file.now a.from c.in-Some.skip t.0 t.1 b.result b.ensures c.if-left-skipped.true)

pub returns : goal.returns
returns c =
    let a = c.args in
    let t = c.in-Some.ensures in
    let b = c.bytes_skipped-skipped in
    c.place_at.ensures ∙ sym (left_at a.reading.now a.second a.file.now a.from c.in-Some.skip t.0 t.1 b.result b.ensures c.requires c.if-left-skipped.false)
