-- `bytes::begins_with` meets its contract.
use Rattle.std.proofs.Common.{◌∙◌}
use Rattle.read_text.proofs.Places.{begins_is}
use Rattle.read_text.proofs.bytes.begins_with.Goals as goal

pub returns : goal.returns
returns c = c.starts_with.ensures.value ∙ begins_is c.args.front.now c.args.s.now
