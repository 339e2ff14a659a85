-- `bytes::hit` meets its contract.
use Rattle.std.proofs.Common.{arith, ◌≡◌, ◌∙◌, zero-add, add-zero}
use Rattle.read_text.proofs.Places.{hit_step}
use Rattle.read_text.proofs.bytes.hit.Goals as goal

pub loop-j-init : goal.loop-j-init
loop-j-init c = λ e. simp (zero-add, add-zero)

pub loop-j-preserved : goal.loop-j-preserved
loop-j-preserved c = λ e. hit_step _ _ _ c.loop-j.j c.loop-j.found c.loop-j.invariant (omega arith) e

pub returns : goal.returns
returns c = λ e. let k : c.loop-j.j ≡ 32 = omega arith in c.loop-j.invariant e ∙ rw k
