-- Each return is one law of the answer; the edit and the table are what the plan promises.
use Rattle.std.proofs.Common.{◌≡◌, ◌∙◌, refl, sym, ap, length-take-le}
use Rattle.set_key.proofs.Answers.{call_short, call_kept, edit_from, edit_to, edit_room, call_done, call_into}
use Rattle.set_key.proofs.set.set_into.Goals as goal

pub returns-then-room-used : goal.returns-then-room-used
returns-then-room-used g c =
    let a = c.args in
    let e = g.E.Entry in
    call_into e.entries e.holding a.buf.now a.used a.table.now a.count a.pair.now.key.now a.pair.now.value.now
    (call_short a.buf.now a.used (e.entries a.table.now) a.count a.pair.now.key.now a.pair.now.value.now c.if-room-used.true)
    c.answer.ensures refl (sym (e.holds.own a.table.now c.know.ensures))

pub returns-in-Err : goal.returns-in-Err
returns-in-Err g c =
    let a = c.args in
    let e = g.E.Entry in
    call_into e.entries e.holding a.buf.now a.used a.table.now a.count a.pair.now.key.now a.pair.now.value.now
    (call_kept a.buf.now a.used (e.entries a.table.now) a.count a.pair.now.key.now a.pair.now.value.now c.if-room-used.false c.in-Err.refused c.in-Err.ensures)
    (c.answer-in-Err.ensures ∙ ap (λ r. record { refusal = r; length = a.used; count = a.count }) c.into.ensures) refl (sym (e.holds.own a.table.now c.know.ensures))

pub returns-in-Ok : goal.returns-in-Ok
returns-in-Ok g c =
    let a = c.args in
    let e = g.E.Entry in
    call_into e.entries e.holding a.buf.now a.used a.table.now a.count a.pair.now.key.now a.pair.now.value.now
    (call_done a.buf.now a.used (e.entries a.table.now) a.count a.pair.now.key.now a.pair.now.value.now c.if-room-used.false c.in-Ok.ensures)
    c.answer-in-Ok.ensures c.splice_pair.ensures c.shift.ensures
