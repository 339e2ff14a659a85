-- `text::put_directions_line` meets its contract. Assumes nothing.
use Rattle.std.proofs.Common.{arith, sym, ◌∙◌, map, take}
use Rattle.format.specs.Bytes.{bytes}
use Rattle.format.specs.HeaderWriter.{directions_text, direction_of}
use Rattle.write_header.proofs.TextLaws.{line_none, line_put}
use Rattle.write_header.proofs.text.put_directions_line.Goals as goal

pub returns-then-has : goal.returns-then-has
returns-then-has c =
    let given = c.args.header.now.given.now in
    let shape = given.shape in
    let p = c.put_bytes-a.ensures in
    let q = c.put_directions-e.ensures in
    let put = line_put c.args.text.now (bytes "space directions: ") (directions_text (map (direction_of shape.components) (take shape.axes given.directions))) c.args.at (sym c.has.ensures ∙ c.if-has.true) (p.place, p.stored) (q.place, q.stored) in
    record { place = put.0; stored = put.1; long = omega (arith, p.place, q.long) }

pub returns-else-has : goal.returns-else-has
returns-else-has c =
    let given = c.args.header.now.given.now in
    let shape = given.shape in
    let put = line_none c.args.text.now (bytes "space directions: ") (directions_text (map (direction_of shape.components) (take shape.axes given.directions))) c.args.at (sym c.has.ensures ∙ c.if-has.false) in
    record { place = put.0; stored = put.1; long = omega arith }
