-- `is_above` meets its contract.
use Rattle.std.proofs.Common.{arith}
use Rattle.data_raw.proofs.RawLaws.{above_one}
use Rattle.data_raw.proofs.is_above.Goals as goal

pub returns : goal.returns
returns c = above_one c.args.x (omega arith)
