-- `read_lines::line_at` meets its contract, by the laws of LineCuts.
use Rattle.read_lines.proofs.LineCuts.{line_found, line_last, line_past}
use Rattle.read_lines.proofs.line_at.Goals as goal

pub returns-then-e-to : goal.returns-then-e-to
returns-then-e-to c =
    let f = c.find_byte-n in
    let l = c.limit-to in
    line_found c.args.file.now c.args.at l.result f.result c.requires l.ensures f.ensures.0 c.if-e-to.true c.without_cr.result c.without_cr.ensures.0 c.without_cr.ensures.1

pub returns-then-to-file : goal.returns-then-to-file
returns-then-to-file c =
    let f = c.find_byte-n in
    let l = c.limit-to in
    line_past c.args.file.now c.args.at l.result f.result c.requires l.ensures f.ensures.0 c.if-e-to.false c.if-to-file.true

pub returns : goal.returns
returns c =
    let f = c.find_byte-n in
    let l = c.limit-to in
    line_last c.args.file.now c.args.at l.result f.result c.requires l.ensures f.ensures.0 c.if-e-to.false c.if-to-file.false
