-- `listing_print::put::put_number` meets its contract.
use Rattle.listing_print.proofs.Printing.{printed_then}
use Rattle.listing_print.proofs.put.put_number.Goals as goal

pub returns : goal.returns
returns c =
    printed_then c.put_bytes-a.ensures (printed_then c.put_decimal-e.ensures c.put_byte.ensures)
