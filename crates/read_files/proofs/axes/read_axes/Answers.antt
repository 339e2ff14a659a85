-- `axes::read_axes` meets its contract.
use mathlib.Core.Path.{◌∙◌}
use Rattle.read_files.proofs.NumberLaws.{axes_open, axes_more, axes_one}
use Rattle.read_files.proofs.axes.read_axes.Goals as goal

pub returns-then-from-to : goal.returns-then-from-to
returns-then-from-to c = axes_open c.next_word-w.ensures c.if-from-to.true

pub returns-then-more : goal.returns-then-more
returns-then-more c =
    axes_more c.next_word-w.ensures c.if-from-to.false c.next_word-more.ensures c.if-more.true

pub returns : goal.returns
returns c =
    c.read_count.ensures ∙ axes_one c.next_word-w.ensures c.if-from-to.false c.next_word-more.ensures c.if-more.false
