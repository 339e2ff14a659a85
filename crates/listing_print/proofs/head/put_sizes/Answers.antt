-- `listing_print::head::put_sizes` meets its contract.
use Prim.Native.Nat.{◌+◌, ◌*◌}
use native.Mathlib.Omega.{arith}
use Rattle.format.specs.Limits.{max_axes}
use Rattle.listing_print.proofs.Printing.{printed_then, printed_more}
use Rattle.listing_print.proofs.head.put_sizes.Goals as goal

pub returns : goal.returns
returns c =
    printed_more (printed_then c.put_bytes-a.ensures (printed_then c.put_spaced-e.ensures c.put_bytes.ensures)) (7 + 21 * max_axes) (omega (arith, c.requires.1))
