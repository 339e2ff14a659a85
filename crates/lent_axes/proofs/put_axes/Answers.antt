-- `put_axes` meets its contract. The invariant: the first i records are at the front.
use native.Mathlib.Omega.{arith}
use mathlib.Core.Path.{◌≡◌, refl, ◌∙◌}
use lib.ListN.{length}
use Rattle.format.specs.AxisRecords.{no_axis, axes_bytes}
use Rattle.lent_axes.proofs.AxisLaws.{axes_stored}
use borrow.Author.Rules.{rules}
use Rattle.lent_axes.proofs.put_axes.Goals as goal

pub loop-i-init : goal.loop-i-init
unfolding axes_bytes
loop-i-init c = (search rules, refl)

pub loop-i-preserved : goal.loop-i-preserved
loop-i-preserved c =
    let l = c.loop-i in
    let n : length c.args.records ≡ 16 = c.well_formed.1.0.1.0.1 in
    (search rules, axes_stored c.args.d.now l.d l.i c.args.records no_axis (omega arith) (omega arith) l.invariant.1 c.put_axis.ensures)

pub returns : goal.returns
returns c =
    let e : c.loop-i.i ≡ c.args.n = omega arith in
    c.loop-i.invariant.1 ∙ rw e
