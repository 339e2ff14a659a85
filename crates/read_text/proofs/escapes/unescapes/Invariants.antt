-- `read_text::escapes::unescapes` meets its contract: the bytes passed have only allowed backslashes.
use Prim.Native.Nat.{◌≤◌, ◌-◌}
use mathlib.Core.Path.{◌≡◌}
use lib.ListN.{length, drop}
use Rattle.format.specs.Bytes.{is_some}
use Rattle.format.specs.Pairs.{unescape}
use Rattle.read_text.proofs.escapes.unescapes.Given as goal

abbrev pub invariant-loop-i : goal.invariant-loop-i
invariant-loop-i l =
    (l.i ≤ length l.s) × (is_some (unescape l.s) ≡ is_some (unescape (drop l.i l.s)))

abbrev pub decreases-loop-i : goal.decreases-loop-i
decreases-loop-i l = length l.s - l.i
