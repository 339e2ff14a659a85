-- `turn` meets its contract, by the width.
use Rattle.std.proofs.Common.{◌∙◌, arith}
use Rattle.lent_numbers.proofs.WidthLaws.{width_1}
use Rattle.data_raw.proofs.RawLaws.{turned_1, swapped_2, swapped_4, swapped_8}
use Rattle.data_raw.proofs.number.turn.Goals as goal

pub returns-in-8 : goal.returns-in-8
returns-in-8 c = rw c.in-8.is (record { is = c.swap_bytes.ensures ∙ swapped_8 c.args.x; less = omega (arith, c.swap_bytes.type_inv) })

pub returns-in-4 : goal.returns-in-4
returns-in-4 c = rw c.in-4.is (record { is = c.swap_bytes-in-4.ensures ∙ swapped_4 c.args.x; less = omega (arith, c.swap_bytes-in-4.type_inv) })

pub returns-in-2 : goal.returns-in-2
returns-in-2 c = rw c.in-2.is (record { is = c.swap_bytes-in-2.ensures ∙ swapped_2 c.args.x; less = omega (arith, c.swap_bytes-in-2.type_inv) })

pub returns-in_default : goal.returns-in_default
returns-in_default c = turned_1 _ _ (width_1 _ c.requires.width (λ e. omega arith) (λ e. omega arith) (λ e. omega arith)) c.requires.x_of_w_bytes
