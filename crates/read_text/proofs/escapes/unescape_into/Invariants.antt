-- `read_text::escapes::unescape_into` meets its contract: to store what the rest means from n on gives the list that is wanted.
use Prim.Native.Nat.{◌≤◌, ◌-◌}
use mathlib.Core.Path.{◌≡◌}
use lib.ListN.{length, drop}
use lib.Seq.{sets}
use Rattle.read_text.specs.Meanings.{meant}
use Rattle.read_text.proofs.escapes.unescape_into.Given as goal

abbrev pub invariant-loop-i : goal.invariant-loop-i
invariant-loop-i l =
    (l.i ≤ length l.s) × (length l.out ≡ length l.initial.out) × (sets l.initial.out 0 (meant l.s) ≡ sets l.out l.n (meant (drop l.i l.s)))

abbrev pub decreases-loop-i : goal.decreases-loop-i
decreases-loop-i l = length l.s - l.i
