-- `blanks_third` meets its contract. The invariant: where all tests held, of the bytes passed each third one is at most 32, and no other.
use Rattle.std.proofs.Common.{arith}
use borrow.Author.Count.{below_more}
use Rattle.format.proofs.Bytes.{and_left, and_right}
use Rattle.data_hex.proofs.DigitLaws.{same_test}
use Rattle.data_hex.proofs.bytes.blanks_third.Goals as goal

pub loop-j-init : goal.loop-j-init
loop-j-init c = λ e i h. absurd (omega arith)

pub loop-j-preserved : goal.loop-j-preserved
loop-j-preserved c =
    let i = c.loop-j in
    λ e. below_more _ _ (i.invariant (and_left i.fine _ e)) (same_test _ _ (and_right i.fine _ e))

pub returns : goal.returns
returns c = λ e k h. c.loop-j.invariant e k (omega arith)
