-- `list::are_vectors` meets its contract.
use mathlib.Core.Path.{◌≡◌, ◌∙◌}
use mathlib.Core.Bool.{false}
use Rattle.format.specs.Bytes.{is_some}
use Rattle.format.specs.Vectors.{said_by, vector_words}
use Rattle.read_vectors.specs.Answers.{word_said}
use Rattle.read_vectors.proofs.ListLaws.{vectors_said_lem}
use Rattle.read_vectors.proofs.list.are_vectors.Goals as goal

pub returns : goal.returns
returns c =
    let a = c.args in
    let ws = vector_words a.t.now in
    let e : c.words_fine.result ≡ is_some (said_by a.count (word_said false a.n) ws) = c.words_fine.ensures in
    e ∙ vectors_said_lem a.count a.n ws
