-- `products::product` meets its contract.
use native.Mathlib.Omega.{arith}
use mathlib.Core.Path.{sym, ◌∙◌}
use Rattle.format_values.proofs.ProductLaws.{product_next, product_end}
use Rattle.format_values.proofs.products.product.Goals as goal

pub loop-n-preserved : goal.loop-n-preserved
loop-n-preserved c =
    let v = c.loop-n in
    let e = product_next c.args.ns.now v.n-index v.p c.loop-n-test.true in
    (omega (arith, c.times-p.ensures), rw c.times-p.ensures (sym e ∙ v.invariant.1))

pub returns : goal.returns
returns c =
    let v = c.loop-n in
    let e = product_end c.args.ns.now v.n-index v.p c.loop-n-test.false in
    omega (arith, rw e at v.invariant.1)
