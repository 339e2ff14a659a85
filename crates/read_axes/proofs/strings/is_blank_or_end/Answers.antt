-- `strings::is_blank_or_end` meets its contract.
use mathlib.Core.Path.{sym}
use Rattle.read_axes.proofs.StringLaws.{blank_here, blank_end}
use Rattle.read_axes.proofs.strings.is_blank_or_end.Goals as goal

pub returns-then-at-t : goal.returns-then-at-t
returns-then-at-t c = let a = c.args in sym (blank_here a.t.now a.at c.if-at-t.true)

pub returns : goal.returns
returns c = let a = c.args in sym (blank_end a.t.now a.at c.if-at-t.false)
