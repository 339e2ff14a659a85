-- `codes::read_codes` meets its contract.
use Rattle.read_axes.specs.Codes.{codes_said}
use Rattle.read_axes.proofs.CodeLaws.{codes_flagged, codes_flagged_none}
use Rattle.read_axes.proofs.codes.read_codes.Goals as goal

pub returns-in-Some : goal.returns-in-Some
returns-in-Some c = let a = c.args in codes_flagged (codes_said a.kinds a.axes a.t.now) c.in-Some.codes c.in-Some.ensures

pub returns-in-None : goal.returns-in-None
returns-in-None c = let a = c.args in codes_flagged_none (codes_said a.kinds a.axes a.t.now) c.in-None.ensures
