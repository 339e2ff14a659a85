-- `listing_print::put::put_bytes` meets its contract: the bytes left are still to print.
use Prim.Native.Nat.{◌+◌}
use mathlib.Core.Path.{◌≡◌}
use lib.ListN.{drop}
use Rattle.listing_print.proofs.Printing.{Printing}
use Rattle.listing_print.proofs.put.put_bytes.Given as goal

abbrev pub invariant-loop-b : goal.invariant-loop-b
invariant-loop-b l = Printing l.initial.out l.at l.s l.out l.o (drop l.b-index l.s) × (l.o ≡ l.at + l.b-index)
