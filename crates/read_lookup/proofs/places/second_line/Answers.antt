-- `read_lookup::places::second_line` meets its contract: line 1 is the line that starts at 0.
use Rattle.read_lookup.proofs.Finding.{second_found, second_past}
use Rattle.read_lookup.proofs.places.second_line.Goals as goal

pub returns-in-Some : goal.returns-in-Some
returns-in-Some c =
    let file = c.args.file.now in
    second_found file _ _ c.in-Some.ensures

pub returns-in-None : goal.returns-in-None
returns-in-None c =
    let file = c.args.file.now in
    second_past file c.in-None.ensures
