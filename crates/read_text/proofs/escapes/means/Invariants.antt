-- `read_text::escapes::means` meets its contract: what the bytes passed mean is the key's front.
use Prim.Native.Nat.{◌≤◌, ◌-◌}
use mathlib.Core.Path.{◌≡◌}
use lib.ListN.{length, drop}
use Rattle.format.specs.Pairs.{unescape}
use Rattle.read_text.specs.Meanings.{means_key}
use Rattle.read_text.proofs.escapes.means.Given as goal

abbrev pub invariant-loop-i : goal.invariant-loop-i
invariant-loop-i l =
    (l.i ≤ length l.s) × (l.k ≤ length l.key) × (means_key l.key (unescape l.s) ≡ means_key (drop l.k l.key) (unescape (drop l.i l.s)))

abbrev pub decreases-loop-i : goal.decreases-loop-i
decreases-loop-i l = length l.s - l.i
