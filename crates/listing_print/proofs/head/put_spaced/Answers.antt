-- `listing_print::head::put_spaced` meets its contract: the sizes from i on are left to print.
use Prim.Native.Nat.{◌+◌, ◌*◌}
use native.Mathlib.Omega.{arith}
use mathlib.Core.Path.{ap}
use lib.ListN.{length, drop, drop_of_length-le}
use Rattle.format.specs.Writer.{spaced}
use Rattle.listing_print.proofs.Printing.{printing_start, printing_more, printing_done}
use Rattle.listing_print.proofs.Names.{spaced_next}
use Rattle.listing_print.proofs.head.put_spaced.Goals as goal

pub loop-i-init : goal.loop-i-init
loop-i-init c =
    let a = c.args in
    (printing_start a.out.now a.at (spaced a.ns.now), omega arith)

pub loop-i-preserved : goal.loop-i-preserved
loop-i-preserved c =
    let l = c.loop-i in
    let ns = c.args.ns.now in
    let p = c.put_size-o.ensures in
    (printing_more l.invariant.0 (spaced (drop (l.i + 1) ns)) (spaced_next ns l.i (omega arith)) p, omega (arith, p.long))

pub returns : goal.returns
unfolding spaced
returns c =
    let l = c.loop-i in
    let ns = c.args.ns.now in
    printing_done l.invariant.0 (21 * length ns) (ap spaced (drop_of_length-le ns (omega arith))) (omega arith)
