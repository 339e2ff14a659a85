-- `listing_print::put::put_bytes` meets its contract: the bytes left are still to print.
use Prim.Native.Nat.{◌+◌}
use native.Mathlib.Omega.{arith}
use lib.ListN.{length, drop, drop_of_length-le}
use Rattle.write_parts.proofs.Runs.{drop_next}
use Rattle.listing_print.proofs.Printing.{printing_start, printing_more, printing_done}
use Rattle.listing_print.proofs.put.put_bytes.Goals as goal

pub loop-b-init : goal.loop-b-init
loop-b-init c = let a = c.args in (printing_start a.out.now a.at a.s.now, omega arith)

pub loop-b-preserved : goal.loop-b-preserved
loop-b-preserved c =
    let l = c.loop-b in
    let s = c.args.s.now in
    (printing_more l.invariant.0 (drop (l.b-index + 1) s) (drop_next s l.b-index 0 (omega arith)) c.put_byte-o.ensures, omega arith)

pub returns : goal.returns
returns c =
    let l = c.loop-b in
    let s = c.args.s.now in
    printing_done l.invariant.0 (length s) (drop_of_length-le s (omega arith)) (omega arith)
