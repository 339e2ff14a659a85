-- `types::lowest` meets its contract: half of the values are below 0, or none.
use Rattle.format_values.proofs.types.lowest.Goals as goal

pub returns-then-signed : goal.returns-then-signed
returns-then-signed c = rw c.if-signed.true c.half.ensures

pub returns-else-signed : goal.returns-else-signed
returns-else-signed c = rw c.if-signed.false
