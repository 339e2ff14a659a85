-- `listing_text::put_refusal` meets its contract.
use Rattle.format.specs.Listing.{shown_refusal}
use Rattle.listing_print.proofs.Printing.{printed_then}
use Rattle.listing_text.proofs.put_refusal.Goals as goal

pub returns : goal.returns
unfolding shown_refusal
returns c =
    printed_then c.put_bytes-a.ensures (printed_then c.put_decimal-e.ensures c.put_number.ensures)
