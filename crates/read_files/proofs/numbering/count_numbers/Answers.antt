-- `numbering::count_numbers` meets its contract.
use Rattle.read_files.proofs.NumberLaws.{numbers_falling, numbers_rising}
use Rattle.read_files.proofs.numbering.count_numbers.Goals as goal

pub returns-then-falls : goal.returns-then-falls
returns-then-falls c =
    let a = c.args in
    numbers_falling a.falls a.first a.last a.size c.count_up.result c.count_up.ensures c.if-falls.true

pub returns : goal.returns
returns c =
    let a = c.args in
    numbers_rising a.falls a.first a.last a.size c.count_up-2.result c.count_up-2.ensures c.if-falls.false
