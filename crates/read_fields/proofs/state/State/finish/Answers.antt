-- `State::finish` meets its contract. Assumes nothing.
use Rattle.read_fields.proofs.States.{complete_is, needs_sizes, finish_refused, reading_is}
use Rattle.read_fields.proofs.Sharing.{files_at_most}
use Rattle.read_fields.proofs.state.State.finish.Goals as goal

pub returns-in_err-extent : goal.returns-in_err-extent
returns-in_err-extent c gs h f =
    let a = c.args in
    finish_refused a.self.now.version gs a.bytes a.lines a.fieldlines c.from_residual.result c.in_err-extent.field-0.0 c.from_residual.ensures.1 (c.in_err-extent.ensures.refused gs h f)

pub returns : goal.returns
returns c gs h f =
    let a = c.args in
    let z = c.in_ok-extent.ensures.refused gs h f in
    let k = complete_is gs z in
    rw c.saturating_add.ensures (reading_is a.self.now gs h a.self.now.version a.bytes a.lines a.fieldlines a.last (c.is_detached.ensures gs h) f (c.in_ok-extent.ensures.extent gs h f) (c.space_size.ensures gs h.marks_are h.numbers_are)
    (files_at_most gs h.kept (needs_sizes gs k.needed) k.within k.shared) z)
