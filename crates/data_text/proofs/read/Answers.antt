-- `read` meets its contract: the list that the cells hold is filled, sample by sample.
use Rattle.std.proofs.Common.{refl, sym, arith, w64, rules, ◌≡◌, Err, ◌∙◌}
use mir.Val.{to_z, of_z}
use Rattle.lent_lists.proofs.Seen.{seen_none, seen_put, seen_out, seen_done}
use Rattle.data_text.proofs.WalkLaws.{not_fine, filling_none, turn, filling_stop, filling_more, filling_done}
use Rattle.data_text.proofs.read.Goals as goal
use Rattle.data_text.proofs.read.Goals.{then-k-room, else-k-room}

pub loop-k-init : goal.loop-k-init
loop-k-init g c = seen_none g.met.C.Lent.views c.args.dst.now c.entries-room.ensures.sound (filling_none _ _ _ _ _ _ c.requires c.skip-at.ensures)

pub put-requires : goal.put-requires
put-requires g c =
    let d = c.args.dst.now in
    g.C.Cell.stores.fits _ _ (rw c.loop-k.auto.dst (omega (arith, c.if-k-room.true, c.entries-room.ensures.count, g.met.C.Lent.views.count d)))

pub returns-in_err-result-clause-refusal : goal.returns-in_err-result-clause-refusal
returns-in_err-result-clause-refusal g c =
    let e : c.from_residual.result ≡ Err c.in_err-result.field-0.0 = search rules in
    let q = c.in_err-result.ensures in
    let f = filling_stop _ _ _ _ _ _ c.loop-k.invariant.held c.loop-k-test.true c.token.ensures (λ z. not_fine c.in_err-result.field-0.0 (q ∙ z)) in
    rw e (q ∙ f.code)

pub returns-in_err-result-clause-stored : goal.returns-in_err-result-clause-stored
returns-in_err-result-clause-stored g c = λ one.
    let q = c.in_err-result.ensures in
    let f = filling_stop _ _ _ _ _ _ c.loop-k.invariant.held c.loop-k-test.true c.token.ensures (λ z. not_fine c.in_err-result.field-0.0 (q ∙ z)) in
    seen_done g.met.C.Lent.views c.args.dst.now c.loop-k.invariant (f.held one)

pub overflow_add-k : goal.overflow_add-k
overflow_add-k g c = omega (arith, (turn _ _ _ _ _ _ c.loop-k.invariant.held c.loop-k-test.true).1.0)

pub loop-k-smaller : goal.loop-k-smaller
loop-k-smaller g c = omega (arith, (turn _ _ _ _ _ _ c.loop-k.invariant.held c.loop-k-test.true).0)

pub loop-k-preserved : goal.loop-k-preserved
loop-k-preserved g c =
    let z = to_z w64 (of_z w64 c.token.new.v) in
    let v = g.met.C.Lent.views in
    let p = c.loop-k.invariant in
    let f = filling_more _ _ _ _ _ _ p.held c.loop-k-test.true c.token.ensures (sym c.in_ok-result.ensures) refl in
    elim c.if-k-room.branch [ then-k-room w ↦ rw w.dst-is (seen_put v c.args.dst.now p c.loop-k.k z f (omega (arith, w.if-k-room.true, c.entries-room.ensures.count)) w.put.ensures) | else-k-room w ↦ rw w.dst-is (seen_out v c.args.dst.now p c.loop-k.k z f (omega (arith, w.if-k-room.false, c.entries-room.ensures.count))) ]

pub returns-clause-refusal : goal.returns-clause-refusal
returns-clause-refusal g c = (filling_done _ _ _ _ _ _ c.loop-k.invariant.held c.loop-k-test.false).code

pub returns-clause-stored : goal.returns-clause-stored
returns-clause-stored g c = λ one.
    seen_done g.met.C.Lent.views c.args.dst.now c.loop-k.invariant ((filling_done _ _ _ _ _ _ c.loop-k.invariant.held c.loop-k-test.false).held one)
