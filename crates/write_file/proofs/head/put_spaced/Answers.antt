-- `write_file::head::put_spaced` meets its contract: `Putting` of Runs.antt. Assumes nothing.
use Prim.Native.Nat.{◌+◌}
use mathlib.Core.Path.{refl, ◌∙◌}
use mathlib.Core.List.{flat_map}
use native.Mathlib.Omega.{arith}
use lib.ListN.{get_or, drop, length-set}
use Rattle.format.specs.Writer.{decimal}
use Rattle.write_file.specs.Stored.{after_space}
use Rattle.write_parts.proofs.Digits.{at_most_20}
use Rattle.write_parts.proofs.Runs.{putting_none, putting_more, putting_done, putting_end, set_then}
use Rattle.write_data.proofs.Parts.{flat_next, flat_over}
use Rattle.write_file.proofs.head.put_spaced.Goals as goal

pub loop-n-init : goal.loop-n-init
loop-n-init c =
    let a = c.args in
    (putting_none (flat_map after_space a.ns.now) a.out.now a.at (flat_map after_space a.ns.now) refl, omega arith)

pub put_decimal-o-requires : goal.put_decimal-o-requires
put_decimal-o-requires c =
    let n = get_or c.args.ns.now c.loop-n.n-index 0 in
    simp length-set (omega (arith, c.requires, c.loop-n-test.true, c.loop-n.invariant.1, c.loop-n.invariant.0.long, at_most_20 n (c.type_inv.ns c.loop-n.n-index).fits))

pub loop-n-preserved : goal.loop-n-preserved
loop-n-preserved c =
    let ns = c.args.ns.now in
    let l = c.loop-n in
    let i = l.n-index in
    let p = c.put_decimal-o in (
      putting_more l.invariant.0 (after_space (get_or ns i 0)) (flat_map after_space (drop (i + 1) ns)) (flat_next after_space ns i 0 c.loop-n-test.true) _ _
          (p.ensures.stored ∙ set_then l.out (decimal (get_or ns i 0)) l.o 32) (omega (arith, p.ensures.place.0)),
      omega (arith, p.ensures.place.1, l.invariant.1),
    )

pub shape_of-out : goal.shape_of-out
shape_of-out c = c.loop-n.invariant.0.long

pub returns : goal.returns
returns c =
    let l = c.loop-n in
    let e = flat_over after_space c.args.ns.now l.n-index c.loop-n-test.false in
    record { place = putting_end l.invariant.0 e; stored = putting_done l.invariant.0 e; long = omega (arith, l.invariant.1) }
