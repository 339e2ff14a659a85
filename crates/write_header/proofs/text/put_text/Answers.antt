-- `text::put_text` meets its contract. Assumes nothing.
use Rattle.std.proofs.Common.{ap, ◌∙◌, arith, length}
use Rattle.std.proofs.lemmas.List.Edits.{sets}
use Rattle.format.specs.Codes.{type_code, encoding_code, endian_code}
use Rattle.write_checks.specs.Checked.{on_array}
use Rattle.write_header.specs.Headers.{lines_of}
use Rattle.write_header.proofs.TextLaws.{front_bytes, header_front, header_long, text_is, text_put}
use Rattle.write_header.proofs.text.put_text.Goals as goal

pub overflow_sub-n : goal.overflow_sub-n
overflow_sub-n c =
    let a = c.args.header.now.array in
    omega (arith, c.put_header-n.ensures.place, header_long a.version a.sizes.now (type_code a.coding.sample_type) (encoding_code a.coding.encoding) (endian_code a.coding.endian))

pub put_lines-e-requires : goal.put_lines-e-requires
put_lines-e-requires c =
    let h = c.put_header-n in
    omega (arith, c.requires, h.ensures.long, h.auto.out)

pub returns : goal.returns
returns c =
    let d = c.args.text.now in
    let a = c.args.header.now.array in
    let g = c.args.header.now.given.now in
    let t = type_code a.coding.sample_type in
    let e = encoding_code a.coding.encoding in
    let endian = endian_code a.coding.endian in
    let h = c.put_header-n.ensures in
    let l = c.put_lines-e.ensures in
    let put = text_put d (front_bytes a.version a.sizes.now t e endian) (lines_of g) (header_front a.version a.sizes.now t e endian) h.place h.stored (l.place, l.stored) in
    let whole = text_is a.version a.sizes.now t e endian g.shape g.origin g.directions g.frame in
    record { place = omega (arith, put.0, ap length whole); stored = put.1 ∙ ap (sets d 0) whole; long = omega (arith, h.long, l.long) }
