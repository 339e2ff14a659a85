-- `has_high` meets its contract. The invariant: the flag tells it of the samples before i.
use mathlib.Core.Path.{◌≡◌}
use Rattle.data_hex.specs.Forms.{has_high}
use Rattle.data_hex.proofs.values.has_high.Given as goal

abbrev pub invariant-loop-i : goal.invariant-loop-i
invariant-loop-i l = l.high ≡ has_high l.i l.top l.bytes
