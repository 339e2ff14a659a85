-- `read_lookup::descriptors::descriptor_at` meets its contract, by those of the parts of a line.
use mathlib.Core.Path.{◌∙◌}
use Rattle.read_lookup.proofs.descriptors.descriptor_at.Goals as goal

pub returns : goal.returns
returns c = c.placed.ensures ∙ rw (c.text_start.ensures.0, c.descriptor_of-d.ensures)
