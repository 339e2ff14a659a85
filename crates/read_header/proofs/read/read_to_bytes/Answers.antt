-- `read_header::read::read_to_bytes` meets its contract: the room that is enough is a law on the call.
use Rattle.theorem_room.proofs.Enough.{read_in_bytes}
use Rattle.read_header.proofs.read.read_to_bytes.Goals as goal

pub returns-clause-enough : goal.returns-clause-enough
returns-clause-enough c = rw c.into.ensures (read_in_bytes c.args.file.now c.args.table.now c.read_into.ensures)
