-- `judge::take_field` meets its contract: the step is made of the checker's answer. Assumes nothing.
use Rattle.std.proofs.Common.{refl}
use Rattle.read_fields.proofs.States.{check_taken}
use Rattle.read_fields.proofs.judge.take_field.Goals as goal

pub returns-in-Some : goal.returns-in-Some
returns-in-Some c d m l =
    let a = c.args in
    rw c.in-Some.is at (check_taken a.dimension a.space a.f a.t.now a.state.now.sizes c.check.result _ (c.check.ensures d m l) d a.state.now refl)

pub returns-in-None : goal.returns-in-None
returns-in-None c d m l =
    let a = c.args in
    rw c.in-None.is at (check_taken a.dimension a.space a.f a.t.now a.state.now.sizes c.check.result _ (c.check.ensures d m l) d a.state.now refl)
