-- `read_decimals::parts::read_signed` meets its contract.
use Rattle.read_decimals.proofs.PartLaws.{size_missing, size_partly, size_whole}
use Rattle.read_decimals.proofs.parts.read_signed.Goals as goal

pub returns-then-d-eq0 : goal.returns-then-d-eq0
returns-then-d-eq0 c =
    let g = c.read_sign-sign in
    let d = c.read_digits-d in
    size_missing c.args.s.now g.result d.result g.ensures d.ensures c.if-d-eq0.true

pub returns-then-d-t : goal.returns-then-d-t
returns-then-d-t c =
    let g = c.read_sign-sign in
    let d = c.read_digits-d in
    size_partly c.args.s.now g.result d.result g.ensures d.ensures c.if-d-t.true

pub returns : goal.returns
returns c =
    let g = c.read_sign-sign in
    let d = c.read_digits-d in
    size_whole c.args.s.now g.result d.result g.ensures d.ensures c.if-d-eq0.false c.if-d-t.false
