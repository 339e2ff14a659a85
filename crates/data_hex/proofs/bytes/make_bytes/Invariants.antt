-- `make_bytes` meets its contract. The invariant: the bytes passed are those of the values.
use Prim.Native.Nat.{◌*◌}
use Rattle.data_hex.specs.Forms.{pairs_of}
use Rattle.data_hex.proofs.BlockLaws.{Partly}
use Rattle.data_hex.proofs.bytes.make_bytes.Given as goal

abbrev pub invariant-loop-j : goal.invariant-loop-j
invariant-loop-j l = Partly (pairs_of l.d) l.initial.bytes (16 * l.k) l.bytes l.j
