-- `wrong_row` meets its contract. The loop's invariant: what the search finds from row i on, after the stamp before it, is what it finds from the start.
use Rattle.std.proofs.Common.{◌≡◌, ◌-◌, ◌≤◌}
use Rattle.roof_steps.specs.Steps.{stamps, first_wrong, wrong_left}
use Rattle.roof_steps.proofs.wrong_row.Given as goal

abbrev pub invariant-loop-i : goal.invariant-loop-i
invariant-loop-i g l =
    let zs = g.C.Lent.samples l.samples in (l.i ≤ l.rows) × (wrong_left l.largest l.rows l.m zs l.i l.before ≡ first_wrong l.largest (stamps l.rows l.m zs))

abbrev pub decreases-loop-i : goal.decreases-loop-i
decreases-loop-i g l = l.rows - l.i
