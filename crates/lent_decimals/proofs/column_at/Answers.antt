-- `column_at` meets its contract. The invariant: the first i decimals are at the front.
use native.Mathlib.Omega.{arith}
use mathlib.Core.Path.{refl, ◌∙◌}
use lib.ListN.{take, drop, length-set}
use Rattle.format.specs.Decimals.{nought}
use Rattle.format.specs.Boundary.{decimals_lent}
use Rattle.lent_numbers.proofs.Stores.{over_more}
use Rattle.lent_decimals.proofs.DecimalLaws.{column_read, column_length, over_whole}
use borrow.Author.Rules.{rules}
use Rattle.lent_decimals.proofs.column_at.Goals as goal

pub loop-i-init : goal.loop-i-init
loop-i-init c = (search rules, refl)

pub loop-i-preserved : goal.loop-i-preserved
loop-i-preserved c =
    let l = c.loop-i in
    let s = c.args.s.now in
    let ds = decimals_lent (take 128 (drop c.args.at s)) in (
      simp length-set (search rules),
      over_more ds l.v _ l.i _ nought l.invariant.1 (c.decimal_at.ensures ∙ column_read s c.args.at c.requires l.i nought (omega arith)) (omega (arith, column_length s c.args.at c.requires)) (omega arith),
    )

pub returns : goal.returns
returns c =
    let l = c.loop-i in
    let s = c.args.s.now in
    let n = column_length s c.args.at c.requires in
    l.invariant.1 ∙ over_whole (decimals_lent (take 128 (drop c.args.at s))) _ l.i (omega (arith, n)) n
