-- `State::complete` meets its contract: each answer is one law over the tests before it. Assumes nothing.
use Rattle.std.proofs.Common.{◌<◌, ◌≤◌, ◌∙◌, sym, arith}
use Rattle.format.specs.Descriptors.{extent_of}
use Rattle.format.specs.Limits.{max_extent}
use Rattle.read_fields.proofs.States.{complete_missing, complete_unfit, complete_large, complete_uneven, complete_fine, needs_sizes}
use Rattle.read_fields.proofs.Sharing.{files_are}
use Rattle.read_fields.proofs.state.State.complete.Goals as goal

pub returns-then-not-has_needed-clause-refused : goal.returns-then-not-has_needed-clause-refused
returns-then-not-has_needed-clause-refused c gs h f = complete_missing gs (sym (c.has_needed.ensures gs h) ∙ c.if-not-has_needed.true)

pub returns-then-not-end_is_raw-clause-refused : goal.returns-then-not-end_is_raw-clause-refused
returns-then-not-end_is_raw-clause-refused c gs h f =
    complete_unfit gs (sym (c.has_needed.ensures gs h) ∙ c.if-not-has_needed.false) (sym (c.end_is_raw.ensures gs h) ∙ c.if-not-end_is_raw.true)

pub returns-then-extent-gt-MAX_EXTENT-clause-refused : goal.returns-then-extent-gt-MAX_EXTENT-clause-refused
returns-then-extent-gt-MAX_EXTENT-clause-refused c gs h f =
    let needed = sym (c.has_needed.ensures gs h) ∙ c.if-not-has_needed.false in
    let large : max_extent < extent_of gs = omega (arith, c.extent-extent.ensures gs h (needs_sizes gs needed), c.if-extent-gt-MAX_EXTENT.true) in
    complete_large gs needed (sym (c.end_is_raw.ensures gs h) ∙ c.if-not-end_is_raw.false) large

pub returns-then-not-fit-clause-refused : goal.returns-then-not-fit-clause-refused
returns-then-not-fit-clause-refused c gs h f =
    let needed = sym (c.has_needed.ensures gs h) ∙ c.if-not-has_needed.false in
    let sized = needs_sizes gs needed in
    let within : extent_of gs ≤ max_extent = omega (arith, c.extent-extent.ensures gs h sized, c.if-extent-gt-MAX_EXTENT.false) in
    let shared = files_are gs h.kept sized within (c.axes.ensures.sizes gs h sized) h.cover_is f in
    complete_uneven gs needed (sym (c.end_is_raw.ensures gs h) ∙ c.if-not-end_is_raw.false) within (sym (c.fit.ensures ∙ shared) ∙ c.if-not-fit.true)

pub returns-clause-refused : goal.returns-clause-refused
returns-clause-refused c gs h f =
    let needed = sym (c.has_needed.ensures gs h) ∙ c.if-not-has_needed.false in
    let sized = needs_sizes gs needed in
    let within : extent_of gs ≤ max_extent = omega (arith, c.extent-extent.ensures gs h sized, c.if-extent-gt-MAX_EXTENT.false) in
    let shared = files_are gs h.kept sized within (c.axes.ensures.sizes gs h sized) h.cover_is f in
    complete_fine gs needed (sym (c.end_is_raw.ensures gs h) ∙ c.if-not-end_is_raw.false) within (sym (c.fit.ensures ∙ shared) ∙ c.if-not-fit.false)

pub returns-clause-extent : goal.returns-clause-extent
returns-clause-extent c gs h f =
    let needed = sym (c.has_needed.ensures gs h) ∙ c.if-not-has_needed.false in
    omega (arith, c.extent-extent.ensures gs h (needs_sizes gs needed), c.if-extent-gt-MAX_EXTENT.false)
