-- `bytes::has_percent` meets its contract.
use Rattle.format.specs.Bytes.{PERCENT}
use Rattle.read_files.proofs.WordLaws.{in_text}
use Rattle.read_files.proofs.bytes.has_percent.Goals as goal

pub returns : goal.returns
returns c = rw c.find_byte.ensures.0 (in_text PERCENT c.args.t.now)
