-- `strings::text_length` meets its contract: no quote that closes the string was passed.
use Prim.Native.Nat.{◌≤◌, ◌-◌, ◌+◌}
use mathlib.Core.Path.{◌≡◌}
use mathlib.Core.Bool.{false}
use lib.ListN.{length, drop}
use Rattle.read_axes.specs.Strings.{text_from}
use Rattle.read_axes.proofs.strings.text_length.Given as goal

abbrev pub invariant-loop-i : goal.invariant-loop-i
invariant-loop-i l =
    length (text_from false l.s) ≡ l.i + length (text_from l.escaped (drop l.i l.s))
