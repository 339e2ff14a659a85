-- `list::nth_vector` meets its contract.
use mathlib.Core.Path.{ap, ◌∙◌}
use mathlib.Core.List.{List}
use Prim.Native.Nat.{ℕ}
use Rattle.format.specs.Vectors.{vector_said}
use Rattle.read_vectors.specs.Answers.{vector_column}
use Rattle.read_vectors.proofs.list.nth_vector.Goals as goal

pub returns : goal.returns
returns c =
    let n = c.args.n in
    c.vector_of.ensures ∙ ap (λ (w : List ℕ). vector_column (vector_said n w)) c.word_at-w.ensures.word
