-- `lowered` meets its contract, by the kind.
use Rattle.std.proofs.Common.{pos, ap, ◌∙◌, arith, w64}
use mir.Facts.{to_z_pos}
use Rattle.data_raw.proofs.NarrowLaws.{lowered_fits, lowered_kept}
use Rattle.data_raw.proofs.number.lowered.Goals as goal

pub overflow_sub-result : goal.overflow_sub-result
overflow_sub-result c = let a = c.args in lowered_fits a.y a.up (omega arith) (omega arith)

pub returns-then-signed : goal.returns-then-signed
returns-then-signed c = let a = c.args in rw c.if-signed.true (lowered_kept a.y a.up (omega arith) (omega arith))

pub returns-else-signed : goal.returns-else-signed
returns-else-signed c = rw c.if-signed.false (to_z_pos w64 {n = c.wrapping_add_u16.result} (omega arith) ∙ ap pos c.wrapping_add_u16.ensures.value)
