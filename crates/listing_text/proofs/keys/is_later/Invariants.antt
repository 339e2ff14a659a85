-- `listing_text::keys::is_later` meets its contract: the lines left decide.
use Prim.Native.Nat.{◌-◌}
use mathlib.Core.Path.{◌≡◌}
use Rattle.listing_text.specs.Shown.{is_later, lines_from, Within}
use Rattle.listing_text.proofs.keys.is_later.Given as goal

abbrev pub invariant-loop : goal.invariant-loop
invariant-loop l =
    Within l.file l.at (l.count - l.counter)
    × (is_later l.key (lines_from l.file l.from l.count) ≡ is_later l.key (lines_from l.file l.at (l.count - l.counter)))
