-- `write_data::text_length` meets its contract. Assumes nothing.
use Rattle.std.proofs.Common.{ap, arith, pos, length, get_or}
use Rattle.write_parts.specs.Stored.{text_line}
use Rattle.write_parts.proofs.Signs.{line_length}
use Rattle.write_data.proofs.Parts.{flat_next_length, flat_over}
use Rattle.write_data.proofs.Samples.{flat_text}
use Rattle.write_data.proofs.text_length.Goals as goal

pub overflow_add-total-in-loop-i : goal.overflow_add-total-in-loop-i
overflow_add-total-in-loop-i g c = omega (arith, c.signed_length.ensures.1, c.loop-i.invariant, c.requires, c.count-i-end.ensures, c.loop-i-test.true)

pub loop-i-preserved : goal.loop-i-preserved
loop-i-preserved g c =
    let zs = g.S.Source.samples c.args.samples.now in
    let i = c.loop-i.i in
    let e = rw c.bits_at.ensures at c.signed_length.ensures.0 in
    omega (arith, e, c.signed_length.ensures.1, c.loop-i.invariant, flat_next_length text_line zs i (pos 0) (omega (arith, c.count-i-end.ensures, c.loop-i-test.true)), line_length (get_or zs i (pos 0)))

pub returns : goal.returns
returns g c =
    let zs = g.S.Source.samples c.args.samples.now in
    omega (arith, c.loop-i.invariant, c.count-i-end.ensures, ap length (flat_over text_line zs c.loop-i.i (omega (arith, c.count-i-end.ensures, c.loop-i-test.false))), ap length (flat_text zs))
