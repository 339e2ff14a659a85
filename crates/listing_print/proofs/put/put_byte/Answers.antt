-- `listing_print::put::put_byte` meets its contract.
use borrow.Author.Rules.{rules}
use Rattle.listing_print.proofs.Printing.{byte_past}
use Rattle.listing_print.proofs.put.put_byte.Goals.{then-at-out, else-at-out}
use Rattle.listing_print.proofs.put.put_byte.Goals as goal

pub returns : goal.returns
returns c = let a = c.args in
    elim c.if-at-out.branch [ then-at-out w ↦ rw w.out-is (search rules) | else-at-out w ↦ rw w.out-is (byte_past a.out.now a.at a.b w.if-at-out.false) ]
