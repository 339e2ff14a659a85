-- `data_place::axes::is_inside` meets its contract.
-- The loop's invariant: there are as many coordinates as sizes, and they are inside if and only if they are so from i on.
use mathlib.Core.Path.{◌≡◌}
use lib.ListN.{length, drop}
use Rattle.format.specs.Axes.{inside}
use Rattle.data_place.proofs.axes.is_inside.Given as goal

abbrev pub invariant-loop-i : goal.invariant-loop-i
invariant-loop-i l =
    (length l.sizes ≡ length l.coords) × (inside l.sizes l.coords ≡ inside (drop l.i l.sizes) (drop l.i l.coords))
