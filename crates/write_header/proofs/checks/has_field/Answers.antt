-- `checks::has_field` meets its contract. Assumes nothing.
use Rattle.write_header.proofs.checks.has_field.Goals as goal

pub returns : goal.returns
returns c = rw c.since.ensures
