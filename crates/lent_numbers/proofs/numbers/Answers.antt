-- `numbers` meets its contract. The invariant: the first i numbers are at the front.
use native.Mathlib.Omega.{arith}
use mathlib.Core.Path.{◌≡◌, refl, sym, ◌∙◌}
use lib.ListN.{length-set}
use Rattle.format.specs.Boundary.{numbers_of}
use Rattle.lent_numbers.proofs.Stores.{over_more}
use Rattle.format.proofs.Boundary.{number_at, length_numbers}
use borrow.Author.Rules.{rules}
use Rattle.lent_numbers.proofs.numbers.Goals as goal

pub loop-i-init : goal.loop-i-init
loop-i-init c = (search rules, search rules, refl)

pub loop-i-preserved : goal.loop-i-preserved
loop-i-preserved c =
    let l = c.loop-i in
    let s = c.args.s.now in (
      search rules,
      simp length-set (search rules),
      over_more (numbers_of 8 s) l.t _ l.i _ 0 l.invariant.2 (c.word_at.ensures ∙ sym (number_at 8 s l.i (omega arith))) (omega (arith, length_numbers 8 s)) (omega arith),
    )

pub returns : goal.returns
returns c =
    let e : c.loop-i.i ≡ c.min-n.result = omega arith in
    (search rules, c.loop-i.invariant.2 ∙ rw e)
