-- The loop's invariant: all bytes are settable if and only if `fine` holds and those that are left are settable.
use Rattle.std.proofs.Common.{◌≡◌, ◌&&◌, drop}
use Rattle.format.specs.Bytes.{every}
use Rattle.format.specs.Settings.{settable}
use Rattle.set_pair.proofs.value_fine.Given as goal

abbrev pub invariant-loop-b : goal.invariant-loop-b
invariant-loop-b l = every settable l.value ≡ (l.fine && every settable (drop l.b-index l.value))
