-- `listing_print::head::put_spaced` meets its contract: the sizes left are still to print.
use Prim.Native.Nat.{◌+◌, ◌*◌, ◌≤◌}
use lib.ListN.{drop}
use Rattle.format.specs.Writer.{spaced}
use Rattle.listing_print.proofs.Printing.{Printing}
use Rattle.listing_print.proofs.head.put_spaced.Given as goal

abbrev pub invariant-loop-i : goal.invariant-loop-i
invariant-loop-i l = Printing l.initial.out l.at (spaced l.ns) l.out l.o (spaced (drop l.i l.ns)) × (l.o ≤ l.at + 21 * l.i)
