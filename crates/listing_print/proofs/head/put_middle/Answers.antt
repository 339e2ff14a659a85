-- `listing_print::head::put_middle` meets its contract.
use native.Mathlib.Omega.{arith}
use mathlib.Core.Path.{◌≡◌, sym, ap}
use lib.ListN.{length, length-take}
use lib.Seq.{length-take-le}
use Rattle.format.specs.Listing.{shown}
use Rattle.listing_print.specs.Lines.{middle_text}
use Rattle.listing_print.proofs.Printing.{printed_then, printed_more, printed_is}
use Rattle.listing_print.proofs.head.put_middle.Goals as goal

pub slice_bounds-put_sizes-end : goal.slice_bounds-put_sizes-end
slice_bounds-put_sizes-end c = let x = c.args.reading in sym (length-take-le x.dimension x.sizes c.requires.1)

pub put_sizes-a-requires : goal.put_sizes-a-requires
put_sizes-a-requires c =
    -- the list of sizes has 16 entries, as its type says
    let e : length c.args.reading.sizes ≡ 16 = c.well_formed.1.1.0.1.1.1.1.1.1.1.1.0.1.0.1 in
    simp length-take (omega (arith, c.requires.0), omega arith)

pub returns : goal.returns
unfolding middle_text
returns c =
    let e = c.encoding_name.ensures in
    let d = c.endian_name.ensures in
    let encoded = printed_is (printed_more c.put_line-e.ensures 13 (omega arith)) (ap (shown "encoding") e.is) in
    let ended = printed_is (printed_more c.put_line.ensures 14 (omega arith)) (ap (shown "endian") d.is) in
    printed_then c.put_sizes-a.ensures (printed_then encoded ended)
