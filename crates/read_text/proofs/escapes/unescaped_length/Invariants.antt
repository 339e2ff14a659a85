-- `read_text::escapes::unescaped_length` meets its contract: the bytes passed mean n bytes, and the rest what is left.
use Prim.Native.Nat.{◌+◌, ◌≤◌, ◌-◌}
use mathlib.Core.Path.{◌≡◌}
use lib.ListN.{length, drop}
use Rattle.read_text.specs.Meanings.{meant}
use Rattle.read_text.proofs.escapes.unescaped_length.Given as goal

abbrev pub invariant-loop-i : goal.invariant-loop-i
invariant-loop-i l =
    (l.i ≤ length l.s) × (l.n ≤ l.i) × (length (meant l.s) ≡ l.n + length (meant (drop l.i l.s)))

abbrev pub decreases-loop-i : goal.decreases-loop-i
decreases-loop-i l = length l.s - l.i
