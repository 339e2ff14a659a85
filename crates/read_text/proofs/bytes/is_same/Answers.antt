-- `bytes::is_same` meets its contract.
use Rattle.std.proofs.Common.{◌∙◌}
use Rattle.read_text.proofs.Places.{same_is}
use Rattle.read_text.proofs.bytes.is_same.Goals as goal

pub returns : goal.returns
returns c = c.eq.ensures ∙ same_is c.args.a.now c.args.b.now
