-- `read_text::bytes::is_plain` meets its contract.
-- The loop's invariant: all bytes are plain if and only if those from i on are.
use mathlib.Core.Path.{◌≡◌}
use Prim.Native.Nat.{◌≤◌, ◌-◌}
use lib.ListN.{length, drop}
use Rattle.format.specs.Bytes.{every}
use Rattle.format.specs.Pairs.{plain}
use Rattle.read_text.proofs.bytes.is_plain.Given as goal

abbrev pub invariant-loop-i : goal.invariant-loop-i
invariant-loop-i l = (l.i ≤ length l.s) × (every plain l.s ≡ every plain (drop l.i l.s))

abbrev pub decreases-loop-i : goal.decreases-loop-i
decreases-loop-i l = length l.s - l.i
