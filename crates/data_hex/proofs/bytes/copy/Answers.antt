-- `copy` meets its contract: digits with no blank between them are stored as they are.
use Rattle.data_hex.proofs.RunLaws.{run_copied}
use Rattle.data_hex.proofs.bytes.copy.Goals as goal

pub returns : goal.returns
returns c = let a = c.args in run_copied a.s.now a.at 32 c.requires.bytes_there c.requires.run a.d.now _ a.o c.requires.room c.copy_from_slice.ensures.after
