-- `State::last_file` meets its contract. Assumes nothing.
use Rattle.std.proofs.Common.{arith}
use Rattle.format.specs.Fields.{data_file}
use Rattle.read_fields.proofs.States.{number_at}
use Rattle.read_fields.proofs.Sharing.{last_file}
use Rattle.read_fields.proofs.state.State.last_file.Goals as goal

pub returns : goal.returns
returns c gs h n = rw (number_at c.args.self.now gs h data_file (omega arith)) (last_file gs h.kept n)
