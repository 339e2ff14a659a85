-- `numbering::next_step` meets its contract.
use Rattle.format.specs.Bytes.{MINUS}
use Rattle.read_files.specs.Parts.{part}
use Rattle.read_files.proofs.WordLaws.{begins_within}
use Rattle.read_files.proofs.NumberLaws.{step_read}
use Rattle.read_files.proofs.numbering.next_step.Goals as goal

-- the sign is within the word
pub slice_bounds-read_size-count : goal.slice_bounds-read_size-count
slice_bounds-read_size-count c =
    let w = c.next_word-place.result in
    rw c.begins-minus.ensures (begins_within MINUS (part w.from w.to c.args.t.now))

pub slice_bounds-read_size-start : goal.slice_bounds-read_size-start
slice_bounds-read_size-start c =
    let w = c.next_word-place.result in
    rw c.begins-minus.ensures (begins_within MINUS (part w.from w.to c.args.t.now))

pub returns : goal.returns
returns c =
    let b = c.begins-minus in
    step_read c.next_word-place.ensures b.result c.read_size-size.result b.ensures c.read_size-size.ensures
