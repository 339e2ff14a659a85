-- `data_place::place::skip_lines` meets its contract.
-- The loop's invariant: what is left past n lines is what is left past the lines left of the bytes from `at` on.
use mathlib.Core.Path.{◌≡◌}
use Prim.Native.Nat.{◌≤◌, ◌-◌}
use lib.ListN.{length, drop}
use Rattle.format.specs.Data.{skip_lines}
use Rattle.data_place.proofs.place.skip_lines.Given as goal

abbrev pub invariant-loop : goal.invariant-loop
invariant-loop l = (l.at ≤ length l.s) × (skip_lines l.n l.s ≡ skip_lines (l.n - l.counter) (drop l.at l.s))
