-- `moves::slide` meets its contract. Assumes nothing.
use Rattle.std.proofs.Common.{◌≡◌, arith}
use Rattle.set_splice.proofs.Bridges.{sets_same}
use Rattle.set_splice.proofs.moves.slide.Goals as goal

pub returns-else-from-to : goal.returns-else-from-to
returns-else-from-to c =
    let a = c.args in
    let e : a.from ≡ a.to = omega arith in
    rw e (sets_same a.d.now a.to a.n c.requires.to)
