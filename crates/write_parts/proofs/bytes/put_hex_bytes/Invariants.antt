-- `write_parts::bytes::put_hex_bytes` meets its contract: `Putting` of Runs.antt. Assumes nothing.
use Prim.Native.Nat.{◌+◌, ◌*◌}
use lib.ListN.{drop}
use Rattle.format.specs.Writer.{hex_text}
use Rattle.write_parts.proofs.Runs.{Putting}
use Rattle.write_parts.proofs.bytes.put_hex_bytes.Given as goal

abbrev pub invariant-loop-i : goal.invariant-loop-i
invariant-loop-i l = Putting (hex_text l.s) l.initial.out l.at l.out (l.at + 2 * l.i) (hex_text (drop l.i l.s))
