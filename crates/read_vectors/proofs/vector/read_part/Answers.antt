-- `vector::read_part` meets its contract: the text that is left is trimmed at both ends.
use Rattle.read_vectors.proofs.VectorLaws.{part_text}
use Rattle.read_vectors.proofs.vector.read_part.Goals as goal

pub returns : goal.returns
returns c =
    let p = c.args.p.now in
    let from = c.leading-from in
    let to = c.without_trailing in
    rw (← part_text p from.result to.result from.ensures.0 to.ensures.0) c.read_component.ensures
