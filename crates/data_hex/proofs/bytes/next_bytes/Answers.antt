-- `next_bytes` meets its contract: the digits, their values, and the bytes of these.
use Prim.Native.Nat.{◌+◌, ◌/◌}
use native.Mathlib.Omega.{arith}
use Rattle.data_hex.proofs.BlockLaws.{taken}
use Rattle.data_hex.proofs.bytes.next_bytes.Goals as goal

pub returns : goal.returns
returns c =
    let a = c.args in
    let g = c.gather-next.ensures in
    record { within = g.within; taken = λ f. taken a.s.now a.at a.j _ _ _ _ _ ((a.j + 15) / 16) (omega arith) (omega arith) (g.moved f) c.make_values.ensures c.make_bytes.ensures }
