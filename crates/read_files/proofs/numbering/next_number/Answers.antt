-- `numbering::next_number` meets its contract.
use Rattle.read_files.proofs.NumberLaws.{number_read, number_none}
use Rattle.read_files.proofs.numbering.next_number.Goals as goal

pub returns-in-Some : goal.returns-in-Some
returns-in-Some c =
    number_read c.next_word-w.ensures c.in-Some.value c.in-Some.ensures

pub returns-in-None : goal.returns-in-None
returns-in-None c =
    number_none c.next_word-w.ensures c.in-None.ensures
