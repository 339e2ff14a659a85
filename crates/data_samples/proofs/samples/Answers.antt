-- `samples` meets its contract: the room is enough for the samples that the list holds.
use Rattle.std.proofs.Common.{ap}
use Rattle.format.specs.Calls.{samples_call}
use Rattle.theorem_room.proofs.Enough.{samples_answered}
use Rattle.data_samples.proofs.samples.Goals as goal

pub returns-clause-enough : goal.returns-clause-enough
returns-clause-enough g c = λ h.
    let a = c.args in
    let zs = g.C.Lent.samples a.list.now in
    rw c.into.ensures (samples_answered a.file.now a.second.now zs (λ i. (ap (λ x. x.0) c.store.ensures i, (samples_call a.file.now a.second.now zs).1)) (rw (g.met.C.Lent.views.count a.list.now) h))
