-- All bytes are settable.
use Rattle.std.proofs.Common.{sym, ◌∙◌}
use mathlib.Core.Bool.{and-true}
use Rattle.format.specs.Settings.{settable, value_fine}
use Rattle.read_text.proofs.Places.{every_step, every_end}
use Rattle.set_pair.proofs.value_fine.Goals as goal

pub loop-b-preserved : goal.loop-b-preserved
loop-b-preserved c =
    let l = c.loop-b in
    let p = c.is_settable-fine in
    every_step settable c.args.value.now l.b-index l.fine p.result c.loop-b-test.true p.ensures l.invariant

pub returns : goal.returns
unfolding value_fine
returns c =
    let l = c.loop-b in
    let s = c.args.value.now in
    sym (l.invariant ∙ rw (every_end settable s l.b-index c.loop-b-test.false) (and-true l.fine))
