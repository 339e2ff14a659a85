-- `read_files::is_list` meets its contract.
use Rattle.read_files.proofs.is_list.Goals as goal

pub returns : goal.returns
returns c = rw (c.is_same.ensures, c.begins_with.ensures)
