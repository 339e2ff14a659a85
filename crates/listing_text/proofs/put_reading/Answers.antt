-- `listing_text::put_reading` meets its contract.
use Rattle.listing_text.specs.Shown.{reading_text}
use Rattle.listing_print.proofs.Printing.{printed_then}
use Rattle.listing_text.proofs.put_reading.Goals as goal

pub returns : goal.returns
unfolding reading_text
returns c =
    printed_then c.put_top-a.ensures
    (printed_then c.put_middle-b.ensures (printed_then c.put_end-e.ensures c.put_keys.ensures))
