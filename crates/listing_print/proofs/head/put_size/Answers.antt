-- `listing_print::head::put_size` meets its contract.
use native.Mathlib.Omega.{arith}
use Rattle.listing_print.proofs.Printing.{printed_then, printed_is, printed_more}
use Rattle.listing_print.proofs.Names.{size_more, size_last}
use Rattle.listing_print.proofs.head.put_size.Goals as goal

pub returns-then-more : goal.returns-then-more
returns-then-more c =
    let a = c.args in
    printed_is (printed_then c.put_decimal-e.ensures c.put_bytes.ensures) (size_more a.n a.more c.if-more.true)

pub returns-else-more : goal.returns-else-more
returns-else-more c =
    let a = c.args in
    printed_more (printed_is c.put_decimal-e.ensures (size_last a.n a.more c.if-more.false)) 21 (omega arith)
