-- `numbering::read_numbering` meets its contract: what the three words say, and how many numbers that makes.
use native.Mathlib.Omega.{arith}
use Rattle.read_files.proofs.NumberLaws.{numbers_bad, step_bad, numbers_few, count_bad, numbers_read}
use Rattle.read_files.proofs.numbering.read_numbering.Goals as goal

pub returns-then-not-first-until : goal.returns-then-not-first-until
returns-then-not-first-until c =
    let l = c.next_number-until in
    let f = c.next_number-first in
    numbers_bad f.ensures l.ensures c.next_step-step.ensures c.if-not-first-until.true

pub returns-then-size-eq0 : goal.returns-then-size-eq0
returns-then-size-eq0 c =
    step_bad c.next_number-first.ensures c.next_number-until.ensures c.next_step-step.ensures c.if-size-eq0.true

pub returns-then-count-eq0 : goal.returns-then-count-eq0
returns-then-count-eq0 c =
    let f = c.next_number-first in
    let l = c.next_number-until in
    let fine = c.if-not-first-until.false in
    count_bad c.next_number-first.ensures c.next_number-until.ensures c.next_step-step.ensures fine c.if-size-eq0.false c.count_numbers-count.ensures c.if-count-eq0.true

pub overflow_cast-last : goal.overflow_cast-last
overflow_cast-last c =
    let l = c.next_number-until in
    let f = c.next_number-first in
    let x = c.next_step-step.result in
    omega (arith, numbers_few x.falls f.result.value l.result.value x.size f.ensures.bounded l.ensures.bounded, c.count_numbers-count.ensures)

pub returns : goal.returns
returns c =
    let f = c.next_number-first in
    let l = c.next_number-until in
    let fine = c.if-not-first-until.false in
    numbers_read c.next_number-first.ensures c.next_number-until.ensures c.next_step-step.ensures fine c.if-size-eq0.false c.count_numbers-count.ensures c.if-count-eq0.false
