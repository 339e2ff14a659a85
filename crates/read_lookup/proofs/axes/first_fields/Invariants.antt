-- `read_lookup::axes::first_fields` meets its contract: what was found of each field, or else what the lines left give it, is the answer.
use Prim.Native.Nat.{◌-◌}
use Rattle.read_lookup.specs.Axes.{AxesLeft}
use Rattle.read_lookup.proofs.axes.first_fields.Given as goal

abbrev pub invariant-loop : goal.invariant-loop
invariant-loop l = AxesLeft l.file l.at (l.count - l.counter) l.places
