-- `gather` meets its contract. The invariant: the digits up to `i` are stored.
use native.Mathlib.Omega.{arith}
use mathlib.Core.Path.{◌≡◌}
use Rattle.data_hex.proofs.BlockLaws.{gathering_none, gathering_stuck, gathering_more}
use borrow.Author.Rules.{rules}
use Rattle.data_hex.proofs.bytes.gather.Goals as goal

pub loop-o-init : goal.loop-o-init
loop-o-init c = let a = c.args in gathering_none a.s.now a.m a.at a.d.now c.requires.at_within

pub shape_of-d-then-s-i : goal.shape_of-d-then-s-i
shape_of-d-then-s-i c = c.loop-o.invariant.long

pub returns-then-s-i : goal.returns-then-s-i
returns-then-s-i c =
    let a = c.args in
    let i = c.loop-o in
    record { within = i.invariant.within; moved = λ f. absurd (gathering_stuck a.s.now a.m a.at a.d.now i.invariant c.requires.room c.loop-o-test.true c.if-s-i.true f) }

pub put_some-p-requires : goal.put_some-p-requires
put_some-p-requires c = record { at_inside = search rules; o_below_m = search rules; room = omega (arith, c.loop-o.invariant.long) }

pub loop-o-preserved : goal.loop-o-preserved
loop-o-preserved c =
    let a = c.args in
    let i = c.loop-o in
    let r = c.put_some-p.ensures in
    gathering_more a.s.now a.m a.at a.d.now i.invariant c.requires.room _ _ _ r.ahead.1.1.1 r.ahead.1.0 (search rules) r.moved

pub shape_of-d : goal.shape_of-d
shape_of-d c = c.loop-o.invariant.long

pub returns : goal.returns
returns c =
    let i = c.loop-o in
    let a = c.args in
    let e : i.o ≡ a.m = omega (arith, i.invariant.few) in
    record { within = i.invariant.within; moved = rw e at i.invariant.same }
