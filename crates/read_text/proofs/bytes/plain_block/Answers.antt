-- `bytes::plain_block` meets its contract.
use Rattle.std.proofs.Common.{arith, ◌≡◌, ◌∙◌, add-zero}
use Rattle.format.specs.Pairs.{plain}
use Rattle.read_text.proofs.Places.{block_step}
use Rattle.read_text.proofs.bytes.plain_block.Goals as goal

pub loop-j-init : goal.loop-j-init
loop-j-init c = rw add-zero

pub loop-j-preserved : goal.loop-j-preserved
loop-j-preserved c =
    let l = c.loop-j in
    let p = c.is_plain_byte-fine in
    block_step plain c.args.s.now c.args.at l.j l.fine p.result (omega arith) p.ensures l.invariant

pub returns : goal.returns
returns c = let k : c.loop-j.j ≡ 8 = omega arith in c.loop-j.invariant ∙ rw k
