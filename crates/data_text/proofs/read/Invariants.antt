-- `read` meets its contract: after k samples the rest, from `at` on, makes of the list what all make of it at the start. The measure is the samples to come.
use Rattle.std.proofs.Common.{◌-◌}
use Rattle.lent_lists.proofs.Seen.{Seen}
use Rattle.data_text.proofs.WalkLaws.{Filling}
use Rattle.data_text.proofs.read.Given as goal

abbrev pub invariant-loop-k : goal.invariant-loop-k
invariant-loop-k g l =
    let view = g.C.Lent in
    Seen view.samples view.lent l.initial.dst (λ d. Filling l.bounds.low l.bounds.high l.step l.n l.s (view.samples l.initial.dst) d l.at l.k l.v) l.dst

abbrev pub decreases-loop-k : goal.decreases-loop-k
decreases-loop-k g l = l.n - l.k
