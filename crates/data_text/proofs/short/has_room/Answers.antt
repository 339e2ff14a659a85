-- `short::has_room` meets its contract: the second test is that of the room.
use native.Mathlib.Omega.{arith}
use Prim.Native.Nat.{◌-◌}
use lib.Dec.{leb, ltb}
use lib.ListN.{length}
use borrow.Author.Tests.{leb-true}
use Rattle.format.proofs.Bytes.{and_right}
use Rattle.data_text.proofs.short.has_room.Goals as goal

pub returns : goal.returns
returns c = λ e.
    let a = c.args in
    omega (arith, leb-true 6 (length a.s.now - a.at) (and_right (ltb a.high 65536) (leb 6 (length a.s.now - a.at)) e))
