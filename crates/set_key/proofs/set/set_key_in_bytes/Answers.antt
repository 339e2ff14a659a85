-- The room that is enough for any file.
use Rattle.theorem_room.proofs.Enough.{set_in_bytes}
use Rattle.set_key.proofs.set.set_key_in_bytes.Goals as goal

pub returns-clause-enough : goal.returns-clause-enough
returns-clause-enough c =
    let a = c.args in
    set_in_bytes a.buf.now a.used a.table.now a.count a.key.now a.value.now c.set_into.ensures
