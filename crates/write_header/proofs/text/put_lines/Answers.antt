-- `text::put_lines` meets its contract. Assumes nothing.
use Rattle.std.proofs.Common.{arith}
use Rattle.write_header.specs.Headers.{space_of, size_of, origin_of, directions_of, frame_of}
use Rattle.write_header.proofs.TextLaws.{five_put}
use Rattle.write_header.proofs.text.put_lines.Goals as goal

pub returns : goal.returns
returns c =
    let g = c.args.header.now.given.now in
    let p = c.put_space_line-a.ensures in
    let q = c.put_size_line-b.ensures in
    let r = c.put_origin_line-c.ensures in
    let s = c.put_directions_line-d.ensures in
    let t = c.put_frame_line.ensures in
    let put = five_put c.args.text.now (space_of g) (size_of g) (origin_of g) (directions_of g) (frame_of g) c.args.at (p.place, p.stored) (q.place, q.stored) (r.place, r.stored) (s.place, s.stored) (t.place, t.stored) in
    record { place = put.0; stored = put.1; long = omega (arith, p.long, q.long, r.long, s.long, t.long) }
