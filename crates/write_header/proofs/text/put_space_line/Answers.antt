-- `text::put_space_line` meets its contract. Assumes nothing.
use Rattle.std.proofs.Common.{arith, sym, ◌∙◌, map, take}
use Rattle.format.specs.Bytes.{bytes}
use Rattle.format.specs.HeaderWriter.{space_text}
use Rattle.write_header.proofs.TextLaws.{line_none, line_put}
use Rattle.write_header.proofs.text.put_space_line.Goals as goal

pub put_space-e-requires : goal.put_space-e-requires
put_space-e-requires c = (c.args.header.now.shaped.space_in (sym c.has.ensures ∙ c.if-has.true), omega (arith, c.requires, c.put_bytes-a.ensures.place, c.put_bytes-a.auto.out))

pub returns-then-has : goal.returns-then-has
returns-then-has c =
    let given = c.args.header.now.given.now in
    let shape = given.shape in
    let p = c.put_bytes-a.ensures in
    let q = c.put_space-e.ensures in
    let put = line_put c.args.text.now (bytes "space: ") (space_text shape.space) c.args.at (sym c.has.ensures ∙ c.if-has.true) (p.place, p.stored) (q.place, q.stored) in
    record { place = put.0; stored = put.1; long = omega (arith, p.place, q.long) }

pub returns-else-has : goal.returns-else-has
returns-else-has c =
    let given = c.args.header.now.given.now in
    let shape = given.shape in
    let put = line_none c.args.text.now (bytes "space: ") (space_text shape.space) c.args.at (sym c.has.ensures ∙ c.if-has.false) in
    record { place = put.0; stored = put.1; long = omega arith }
