-- `listing_print::head::put_end` meets its contract.
use Rattle.listing_print.specs.Lines.{end_text}
use Rattle.listing_print.proofs.Printing.{printed_then}
use Rattle.listing_print.proofs.head.put_end.Goals as goal

pub returns : goal.returns
unfolding end_text
returns c = printed_then c.put_number-e.ensures c.put_number.ensures
