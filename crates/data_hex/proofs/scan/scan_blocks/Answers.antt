-- `scan_blocks` meets its contract. The invariant: the digits counted are those up to `at`.
use native.Mathlib.Omega.{arith}
use Rattle.data_hex.proofs.DigitLaws.{reached_none, reached_room, reached_block}
use Rattle.data_hex.proofs.scan.scan_blocks.Goals as goal

pub loop-at-init : goal.loop-at-init
loop-at-init c = reached_none c.args.s.now c.args.need

pub block_digits-d-requires : goal.block_digits-d-requires
block_digits-d-requires c =
    let a = c.args in
    (reached_room a.s.now a.need c.loop-at.at c.loop-at.digits c.loop-at.invariant c.loop-at-test.true).0

pub returns-then-d : goal.returns-then-d
returns-then-d c = c.loop-at.invariant

pub overflow_add-digits : goal.overflow_add-digits
overflow_add-digits c =
    let a = c.args in
    let i = c.loop-at in
    omega (arith, (c.block_digits-d.ensures c.if-d.false).0, reached_room a.s.now a.need i.at i.digits i.invariant c.loop-at-test.true)

pub loop-at-smaller : goal.loop-at-smaller
loop-at-smaller c =
    let a = c.args in
    let i = c.loop-at in
    omega (arith, reached_room a.s.now a.need i.at i.digits i.invariant c.loop-at-test.true)

pub loop-at-preserved : goal.loop-at-preserved
loop-at-preserved c =
    let a = c.args in
    let i = c.loop-at in
    reached_block a.s.now a.need i.at i.digits i.invariant c.loop-at-test.true _ (c.block_digits-d.ensures c.if-d.false)

pub returns : goal.returns
returns c = c.loop-at.invariant
