-- `types::highest` meets its contract, by half of the values.
use Rattle.format_values.proofs.TypeLaws.{half_pos, highest_signed}
use Rattle.format_values.proofs.types.highest.Goals as goal

pub overflow_sub-result : goal.overflow_sub-result
overflow_sub-result c = half_pos c.args.w c.half-h.ensures

pub returns-then-signed : goal.returns-then-signed
returns-then-signed c = rw c.if-signed.true (highest_signed c.args.w c.half-h.ensures)
