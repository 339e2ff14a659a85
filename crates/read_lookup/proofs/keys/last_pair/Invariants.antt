-- `read_lookup::keys::last_pair` meets its contract: what the lines left give, or else what was found before them, is the answer.
use Prim.Native.Nat.{◌-◌}
use Rattle.format.specs.Answers.{place_found}
use Rattle.read_lookup.specs.Lookup.{KeyLeft}
use Rattle.read_lookup.proofs.keys.last_pair.Given as goal

abbrev pub invariant-loop : goal.invariant-loop
invariant-loop l = KeyLeft l.file l.key l.at (l.count - l.counter) (place_found l.found)
