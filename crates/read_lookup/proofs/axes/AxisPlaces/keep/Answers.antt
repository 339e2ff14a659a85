-- `axes::AxisPlaces::keep` meets its contract. Assumes nothing.
use Rattle.std.proofs.Common.{sym}
use Rattle.read_lookup.proofs.AxisLaws.{kept_none}
use Rattle.read_lookup.proofs.axes.AxisPlaces.keep.Goals as goal

pub returns-in-None : goal.returns-in-None
returns-in-None c = rw c.in-None.is (sym (kept_none c.args.self))
