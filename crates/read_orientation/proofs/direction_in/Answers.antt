-- `direction_in` meets its contract: the direction and the components of the word.
use mathlib.Core.List.{[]}
use lib.ListN.{get_or}
use Rattle.format.specs.Vectors.{vector_words, direction_said}
use Rattle.read_orientation.proofs.SaidLaws.{parts_or}
use Rattle.read_orientation.proofs.direction_in.Goals as goal

pub returns : goal.returns
returns c =
    let w = get_or (vector_words c.args.t.now) c.args.i [] in
    rw (c.unwrap_or-parts.ensures, c.direction_of.ensures, c.blank_column.ensures, c.components.ensures, c.word_at-w.ensures.word, parts_or (direction_said c.args.n w))
