-- `write_checks::asked::Asked::is_sized` meets its contract. Assumes nothing.
use Rattle.std.proofs.Common.{not, ap, ◌∙◌, le-leb, arith, length}
use Rattle.write_checks.proofs.Refuse.{any_is}
use Rattle.write_checks.proofs.asked.Asked.is_sized.Goals as goal

pub returns-in-1-to-5-1-to-16 : goal.returns-in-1-to-5-1-to-16
returns-in-1-to-5-1-to-16 c =
    let v = c.args.self.now.version in
    let n = length c.args.self.now.sizes.now in
    rw (le-leb 1 v (omega arith), le-leb v 5 (omega arith), le-leb 1 n (omega arith), le-leb n 16 (omega arith))
    (ap not (c.contains.ensures.value ∙ any_is c.args.self.now.sizes.now))
