-- `read_text::bytes::plain_end` meets its contract: one law for a last block alone, and one for a block before it. Assumes nothing.
use Prim.Native.Nat.{◌-◌}
use native.Mathlib.Omega.{arith}
use lib.ListN.{length}
use Rattle.format.specs.Pairs.{plain}
use Rattle.read_text.proofs.Places.{last_block, last_blocks}
use Rattle.read_text.proofs.bytes.plain_end.Goals as goal

pub returns-then-last-i : goal.returns-then-last-i
returns-then-last-i c h =
    let a = c.args in
    let s = a.s.now in
    let b = c.plain_block in
    last_block plain s (length s - 8) b.result (omega arith) b.ensures a.i (omega arith) h

pub returns-else-last-i : goal.returns-else-last-i
returns-else-last-i c h =
    let a = c.args in
    let s = a.s.now in
    let f = c.plain_block-else-last-i in
    let b = c.plain_block-else-last-i-2 in
    last_blocks plain s (length s - 8) b.result (omega arith) b.ensures a.i f.result (omega arith) h f.ensures
