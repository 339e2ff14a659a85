-- `wrong_from` meets its contract. The loop's invariant: what the search finds from row i on, after the stamp before it, is what it finds from its first row on.
use Rattle.std.proofs.Common.{◌≡◌}
use Rattle.roof_steps.specs.Steps.{wrong_left}
use Rattle.roof_steps.proofs.wrong_from.Given as goal

abbrev pub invariant-loop-i : goal.invariant-loop-i
invariant-loop-i g l =
    let zs = g.C.Lent.samples l.samples in wrong_left l.largest l.rows l.m zs l.i l.before ≡ wrong_left l.largest l.rows l.m zs l.from l.stamp
