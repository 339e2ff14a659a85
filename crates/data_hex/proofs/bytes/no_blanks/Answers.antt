-- `no_blanks` meets its contract. The invariant: where all tests held, every byte passed is above the blanks.
use Rattle.std.proofs.Common.{arith}
use borrow.Author.Count.{below_more}
use borrow.Author.Tests.{ltb-true}
use Rattle.format.proofs.Bytes.{and_left, and_right}
use Rattle.data_hex.proofs.bytes.no_blanks.Goals as goal

pub loop-j-init : goal.loop-j-init
loop-j-init c = λ e i h. absurd (omega arith)

pub loop-j-preserved : goal.loop-j-preserved
loop-j-preserved c =
    let i = c.loop-j in
    λ e. below_more _ _ (i.invariant (and_left i.fine _ e)) (ltb-true 32 _ (and_right i.fine _ e))

pub returns : goal.returns
returns c = λ e k h. c.loop-j.invariant e k (omega arith)
