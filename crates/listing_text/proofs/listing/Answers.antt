-- `listing_text::listing` meets its contract: the first pass tells the length, the second one writes.
use native.Mathlib.Omega.{arith}
use Rattle.listing_text.proofs.Listed.{call_refused, call_written}
use Rattle.listing_text.proofs.listing.Goals as goal

pub returns-then-out-n : goal.returns-then-out-n
returns-then-out-n c =
    let a = c.args in
    let p = c.print-n.ensures in
    record { call = call_refused a.file.now a.out.now (omega (arith, p.place)); enough = omega (arith, p.place, p.long); within = omega arith }

pub returns : goal.returns
returns c =
    let a = c.args in
    let p = c.print-n in
    let q = c.print in
    record {
      call = call_written a.file.now a.out.now p.result (omega (arith, p.ensures.place)) c.if-out-n.false q.new.out q.ensures.stored;
      enough = omega (arith, p.ensures.place, p.ensures.long);
      within = omega arith;
    }
