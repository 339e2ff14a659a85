-- `data_files::lines::text_of` meets its contract: the line at the place that is reached.
use native.Mathlib.Omega.{arith}
use mathlib.Core.Path.{refl}
use Rattle.data_files.proofs.LineLaws.{ahead_starts, ahead_short, ahead_not_past, ahead_text}
use Rattle.data_files.proofs.lines.text_of.Goals as goal

pub line_at-requires : goal.line_at-requires
line_at-requires c = let w = c.start_of-at.ensures in (ahead_starts w, ahead_short w)

pub slice_bounds-result-end : goal.slice_bounds-result-end
slice_bounds-result-end c = omega (arith, c.in-Some.ensures.from, c.in-Some.ensures.to, c.in-Some.ensures.within)

pub returns-in-Some : goal.returns-in-Some
returns-in-Some c = ahead_text c.start_of-at.ensures refl c.in-Some.ensures

pub returns-in-None : goal.returns-in-None
returns-in-None c = absurd (ahead_not_past c.start_of-at.ensures c.in-None.ensures)
