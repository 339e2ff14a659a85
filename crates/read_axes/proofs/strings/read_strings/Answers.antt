-- `strings::read_strings` meets its contract.
use mathlib.Core.Path.{◌∙◌}
use Rattle.format.specs.Strings.{strings_said}
use Rattle.read_axes.proofs.StringLaws.{spans_flagged, spans_flagged_none}
use Rattle.read_axes.proofs.strings.read_strings.Goals as goal

pub returns-in-Some : goal.returns-in-Some
returns-in-Some c = let a = c.args in spans_flagged a.base (strings_said a.axes a.t.now) c.in-Some.spans c.in-Some.ensures

pub returns-in-None : goal.returns-in-None
returns-in-None c = let a = c.args in c.no_strings.ensures ∙ spans_flagged_none a.base (strings_said a.axes a.t.now) c.in-None.ensures
