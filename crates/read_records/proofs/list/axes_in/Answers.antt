-- `list::axes_in` meets its contract: the list that the call leaves.
use Rattle.std.proofs.Common.{List, ap}
use Rattle.format.specs.declared.Axis.{Axis}
use Rattle.format.specs.declared.CountAnswer.{CountAnswer}
use Rattle.read_records.proofs.list.axes_in.Goals as goal

pub returns : goal.returns
returns c = ap (λ (p : CountAnswer × List Axis). p.1) c.axes.ensures
