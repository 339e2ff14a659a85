-- `write_data::data_length` meets its contract. Assumes nothing.
use Rattle.std.proofs.Common.{arith, sym, ap, ◌∙◌, length}
use Rattle.write_data.proofs.Samples.{raw_is_long, text_is, hex_is_long}
use Rattle.write_data.proofs.data_length.Goals as goal

pub returns-in-0-clause-length_of_data : goal.returns-in-0-clause-length_of_data
returns-in-0-clause-length_of_data g c =
    let a = c.args in
    λ n. rw c.count.ensures (sym (raw_is_long a.encoding a.w n (g.S.Source.samples a.samples.now) c.in-0.is))

pub returns-in-1-clause-length_of_data : goal.returns-in-1-clause-length_of_data
returns-in-1-clause-length_of_data g c =
    let a = c.args in
    λ n. c.text_length.ensures.0 ∙ ap length (sym (text_is a.encoding a.w n (g.S.Source.samples a.samples.now) c.in-1.is))

pub returns-in_default-clause-length_of_data : goal.returns-in_default-clause-length_of_data
returns-in_default-clause-length_of_data g c =
    let a = c.args in
    λ n. rw c.count.ensures (sym (hex_is_long a.encoding a.w n (g.S.Source.samples a.samples.now) (λ e. absurd (omega (arith, e))) (λ e. absurd (omega (arith, e)))))
