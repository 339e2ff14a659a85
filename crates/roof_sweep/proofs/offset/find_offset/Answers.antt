-- `find_offset` meets its contract: the text read is that at the place which the look-up answers.
use Rattle.std.proofs.Common.{sym, ap, ◌∙◌, arith}
use borrow.Author.Tests.{not-true, not-false}
use Rattle.roof_steps.specs.Steps.{number_found}
use Rattle.roof_sweep.proofs.OffsetLaws.{place_within, offset_absent, offset_there}
use Rattle.roof_sweep.proofs.offset.find_offset.Goals as goal

pub returns-then-not-place : goal.returns-then-not-place
returns-then-not-place c =
    let f = c.find_key-place in
    sym (ap number_found (offset_absent _ f.result f.ensures.call (not-true f.result.found c.if-not-place.true)))

pub overflow_add-start : goal.overflow_add-start
overflow_add-start c = omega (arith, place_within _ c.find_key-place.result c.find_key-place.ensures.finds (not-false c.find_key-place.result.found c.if-not-place.false))

pub slice_bounds-read_offset-end : goal.slice_bounds-read_offset-end
slice_bounds-read_offset-end c = place_within _ c.find_key-place.result c.find_key-place.ensures.finds (not-false c.find_key-place.result.found c.if-not-place.false)

pub returns : goal.returns
returns c =
    let f = c.find_key-place in
    c.read_offset.ensures ∙ ap number_found (offset_there _ f.result f.ensures.call (not-false f.result.found c.if-not-place.false))
