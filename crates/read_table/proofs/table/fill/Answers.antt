-- The stores that are left give what all stores give.
use Rattle.read_lines.proofs.LineCuts.{found_at}
use Rattle.read_table.proofs.Lining.{one_left, lined_short, lined_within, lined_some}
use Rattle.read_table.proofs.Storing.{storing_put, storing_done}
use Rattle.read_table.proofs.Filling.{filling_next, filling_done}
use Rattle.read_table.proofs.table.fill.Goals as goal

pub line_at-requires : goal.line_at-requires
line_at-requires g c =
    let l = c.loop-k.invariant.1.lined in
    (lined_within l (one_left c.loop-k-test.true), lined_short l)

pub returns-in_default : goal.returns-in_default
returns-in_default g c =
    absurd (lined_some c.loop-k.invariant.1.lined (one_left c.loop-k-test.true) c.in_default.not-Some c.line_at.ensures)

pub loop-k-preserved : goal.loop-k-preserved
loop-k-preserved g c =
    let l = c.loop-k in
    let s = c.put.ensures in (
      storing_put g.E.Entry.holds l.invariant.0 l.k l.at s.entries s.cells,
      filling_next l.invariant.1 c.loop-k-test.true (found_at c.in-Some.is c.line_at.ensures) s.entries,
    )

pub returns : goal.returns
returns g c =
    let l = c.loop-k.invariant in
    storing_done g.E.Entry.holds l.0 (filling_done l.1 c.loop-k-test.false c.requires.room)
