-- `make_values` meets its contract. The invariant: the digits passed are replaced by their values.
use Prim.Native.Nat.{◌*◌}
use mathlib.Core.List.{map}
use Rattle.data_hex.specs.Forms.{digit_value}
use Rattle.data_hex.proofs.BlockLaws.{Partly}
use Rattle.data_hex.proofs.bytes.make_values.Given as goal

abbrev pub invariant-loop-j : goal.invariant-loop-j
invariant-loop-j l = Partly (map digit_value l.initial.d) l.initial.d (32 * l.k) l.d l.j
