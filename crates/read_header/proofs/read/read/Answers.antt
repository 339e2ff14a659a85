-- `read_header::read::read` meets its contract: the room that is enough is a law on the call.
use Rattle.theorem_room.proofs.Enough.{read_answered}
use Rattle.read_header.proofs.read.read.Goals as goal

pub returns-clause-enough : goal.returns-clause-enough
returns-clause-enough c = rw c.into.ensures (read_answered c.args.file.now c.args.table.now c.read_into.ensures)
