-- `put_column` meets its contract. The invariant: the first i decimals are stored.
use native.Mathlib.Omega.{arith}
use mathlib.Core.Path.{◌≡◌, refl, ◌∙◌}
use lib.ListN.{length}
use Rattle.format.specs.Decimals.{nought}
use Rattle.format.specs.Boundary.{decimals_bytes}
use Rattle.lent_decimals.proofs.DecimalLaws.{column_stored}
use borrow.Author.Rules.{rules}
use Rattle.lent_decimals.proofs.put_column.Goals as goal

pub loop-i-init : goal.loop-i-init
unfolding decimals_bytes
loop-i-init c = (search rules, refl)

pub loop-i-preserved : goal.loop-i-preserved
loop-i-preserved c =
    let l = c.loop-i in
    let n : length c.args.v ≡ 8 = c.well_formed.1.1.0.1.0.1 in
    (search rules, column_stored c.args.d.now l.d c.args.at l.i c.args.v nought (omega arith) l.invariant.1 c.put_decimal.ensures)

pub returns : goal.returns
returns c =
    let e : c.loop-i.i ≡ c.args.n = omega arith in
    c.loop-i.invariant.1 ∙ rw e
