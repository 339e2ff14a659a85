-- `text::put_size_line` meets its contract. Assumes nothing.
use Rattle.std.proofs.Common.{arith, sym, ◌∙◌, map, take}
use Rattle.format.specs.Bytes.{bytes}
use Rattle.format.specs.Writer.{decimal}
use Rattle.write_parts.proofs.Digits.{at_most_20}
use Rattle.write_header.proofs.TextLaws.{line_none, line_put}
use Rattle.write_header.proofs.text.put_size_line.Goals as goal

pub put_decimal-e-requires : goal.put_decimal-e-requires
put_decimal-e-requires c = omega (arith, c.requires, at_most_20 c.size.result c.size.type_inv, c.put_bytes-a.ensures.place, c.put_bytes-a.auto.out)

pub returns-then-has : goal.returns-then-has
returns-then-has c =
    let given = c.args.header.now.given.now in
    let shape = given.shape in
    let p = c.put_bytes-a.ensures in
    let q = rw c.size.ensures at c.put_decimal-e.ensures in
    let put = line_put c.args.text.now (bytes "space dimension: ") (decimal shape.spacedimension) c.args.at (sym c.has.ensures ∙ c.if-has.true) (p.place, p.stored) (q.place.0, q.stored) in
    record { place = put.0; stored = put.1; long = omega (arith, p.place, q.place.1) }

pub returns-else-has : goal.returns-else-has
returns-else-has c =
    let given = c.args.header.now.given.now in
    let shape = given.shape in
    let put = line_none c.args.text.now (bytes "space dimension: ") (decimal shape.spacedimension) c.args.at (sym c.has.ensures ∙ c.if-has.false) in
    record { place = put.0; stored = put.1; long = omega arith }
