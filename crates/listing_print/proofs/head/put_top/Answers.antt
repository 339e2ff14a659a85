-- `listing_print::head::put_top` meets its contract.
use native.Mathlib.Omega.{arith}
use mathlib.Core.Path.{ap}
use Rattle.format.specs.Listing.{shown}
use Rattle.listing_print.specs.Lines.{top_text}
use Rattle.listing_print.proofs.Printing.{printed_then, printed_more, printed_is}
use Rattle.listing_print.proofs.head.put_top.Goals as goal

pub returns : goal.returns
unfolding top_text
returns c =
    let typed = printed_is (printed_more c.put_line.ensures 12 (omega arith)) (ap (shown "type") c.type_name.ensures.is) in
    printed_then c.put_number-a.ensures (printed_then c.put_form-e.ensures typed)
