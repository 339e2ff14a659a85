-- `place::descriptor_of` meets its contract: the part from the descriptor's start on, without the spaces and tabs at its end.
use mathlib.Core.Path.{sym}
use lib.Seq.{length-take-le}
use Rattle.read_descriptors.proofs.Checking.{descriptor_part}
use Rattle.read_descriptors.proofs.place.descriptor_of.Goals as goal

pub slice_bounds-result-end : goal.slice_bounds-result-end
slice_bounds-result-end c = sym (length-take-le _ _ c.without_trailing-n.ensures.1)

pub returns : goal.returns
returns c =
    let a = c.args in
    descriptor_part a.f a.rest.now _ _ c.text_start-from.ensures.0 c.without_trailing-n.ensures.0
