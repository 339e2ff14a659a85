-- `read_files::pattern_in` meets its contract.
use Rattle.read_files.proofs.FileLaws.{name_wrong, numbers_wrong, axes_wrong, all_right}
use Rattle.read_files.proofs.pattern_in.Goals as goal

pub returns-in_err-pattern : goal.returns-in_err-pattern
returns-in_err-pattern c = rw c.from_residual.ensures (name_wrong c.next_word-w.ensures c.in_err-pattern.ensures)

pub returns-in_err-numbers : goal.returns-in_err-numbers
returns-in_err-numbers c = rw c.from_residual-in_err-numbers.ensures (numbers_wrong c.next_word-w.ensures c.in_err-numbers.ensures)

pub returns-in_err-cover : goal.returns-in_err-cover
returns-in_err-cover c =
    rw c.from_residual-in_err-cover.ensures (axes_wrong c.next_word-w.ensures c.in_ok-pattern.ensures c.in_ok-numbers.ensures c.in_err-cover.ensures)

pub returns : goal.returns
returns c = all_right c.next_word-w.ensures c.in_ok-pattern.ensures c.in_ok-numbers.ensures c.in_ok-cover.ensures
