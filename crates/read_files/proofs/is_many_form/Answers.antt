-- `read_files::is_many_form` meets its contract.
use Rattle.read_files.proofs.is_many_form.Goals as goal

pub returns : goal.returns
returns c = rw (c.is_list.ensures, c.has_percent.ensures)
