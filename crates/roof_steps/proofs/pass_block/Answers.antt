-- `pass_block` meets its contract: a right step goes on with the next row.
use Rattle.std.proofs.Common.{◌≡◌, ◌+◌, sym, ap, ◌∙◌, arith}
use Rattle.format.proofs.Bytes.{and_left, and_right}
use Rattle.roof_steps.specs.Steps.{wrong_left}
use Rattle.roof_steps.proofs.Stamps.{went}
use Rattle.roof_steps.proofs.pass_block.Goals as goal

pub loop-j-preserved : goal.loop-j-preserved
loop-j-preserved g c = λ rows h t.
    let a = c.args in
    let zs = g.C.Lent.samples a.samples.now in
    let l = c.loop-j in
    let next : (a.from + l.j) + 1 ≡ a.from + (l.j + 1) = omega arith in
    l.invariant rows h (and_left l.right c.is_right-right.result t)
    ∙ went zs rows a.m a.largest (a.from + l.j) l.last c.stamp_at-after.result c.step.result (omega arith) c.stamp_at-after.ensures c.step.ensures (sym c.is_right-right.ensures ∙ and_right l.right c.is_right-right.result t)
    ∙ ap (λ k. wrong_left a.largest rows a.m zs k c.stamp_at-after.result) next
