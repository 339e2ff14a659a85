-- `write_vectors::vectors::count_components` meets its contract: `Passed` of Counting.antt. Assumes nothing.
use Rattle.std.proofs.Common.{◌≡◌, ◌≤◌, arith, ap, sym, ◌∙◌, length, take}
use Rattle.format.specs.HeaderWriter.{until_none}
use lib.Seq.{take-length}
use Rattle.write_vectors.proofs.Counting.{passed_none, passed_more, passed_all, passed_over}
use Rattle.write_vectors.proofs.vectors.count_components.Goals as goal

pub loop-i-init : goal.loop-i-init
loop-i-init c = passed_none c.args.v.now (length c.args.v.now) (omega arith)

pub returns-then-kind-eq-NO_DIRECTION : goal.returns-then-kind-eq-NO_DIRECTION
returns-then-kind-eq-NO_DIRECTION c =
    let v = c.args.v.now in
    record { counted = sym (ap until_none (take-length v)) ∙ passed_all c.loop-i.invariant _ c.loop-i-test.true c.if-kind-eq-NO_DIRECTION.true; few = omega (arith, c.loop-i-test.true) }

pub loop-i-preserved : goal.loop-i-preserved
loop-i-preserved c = passed_more c.loop-i.invariant _ c.loop-i-test.true c.if-kind-eq-NO_DIRECTION.false

pub returns : goal.returns
returns c =
    let l = c.loop-i in
    let v = c.args.v.now in
    let e : l.i ≡ length v = omega (arith, l.invariant.few, c.loop-i-test.false) in
    record { counted = sym (ap until_none (take-length v)) ∙ passed_over l.invariant c.loop-i-test.false ∙ ap (λ k. take k v) e; few = omega arith }
