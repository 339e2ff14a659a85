-- `numbers::read_numbers` meets its contract: what the three words say, and how many numbers that makes.
use native.Mathlib.Omega.{arith}
use Rattle.read_files.proofs.FileLaws.{first_wrong, last_wrong, step_missing, few, none_counted, some_counted}
use Rattle.read_files.proofs.numbers.read_numbers.Goals as goal

pub returns-in_err-first : goal.returns-in_err-first
returns-in_err-first c =
    rw c.from_residual.ensures
    (first_wrong c.next_word-first_word.ensures c.next_word-last_word.ensures c.next_word-step_word.ensures c.in_err-first.ensures)

pub returns-in_err-last : goal.returns-in_err-last
returns-in_err-last c =
    rw c.from_residual-in_err-last.ensures
    (last_wrong c.next_word-first_word.ensures c.next_word-last_word.ensures c.next_word-step_word.ensures c.in_ok-first.ensures c.in_err-last.ensures)

pub returns-in_err-step : goal.returns-in_err-step
returns-in_err-step c =
    rw c.from_residual-in_err-step.ensures
    (step_missing c.next_word-first_word.ensures c.next_word-last_word.ensures c.next_word-step_word.ensures c.in_ok-first.ensures c.in_err-step.ensures)

pub returns-then-count-eq0 : goal.returns-then-count-eq0
returns-then-count-eq0 c =
    none_counted c.next_word-first_word.ensures c.next_word-last_word.ensures c.next_word-step_word.ensures
    c.in_ok-first.ensures c.in_ok-last.ensures c.in_ok-step.ensures c.count_numbers-count.ensures c.if-count-eq0.true

pub returns : goal.returns
returns c =
    some_counted c.next_word-first_word.ensures c.next_word-last_word.ensures c.next_word-step_word.ensures
    c.in_ok-first.ensures c.in_ok-last.ensures c.in_ok-step.ensures c.count_numbers-count.ensures c.if-count-eq0.false
