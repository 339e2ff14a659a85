-- `read_lookup::descriptors::first_field` meets its contract: what the lines left give is the answer.
use Prim.Native.Nat.{◌-◌}
use Rattle.read_lookup.specs.Lookup.{FieldLeft}
use Rattle.read_lookup.proofs.descriptors.first_field.Given as goal

abbrev pub invariant-loop : goal.invariant-loop
invariant-loop l = FieldLeft l.file l.field l.at (l.count - l.counter)
