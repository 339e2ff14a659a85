-- `list::vector_at` meets its contract.
use mathlib.Core.Path.{ap, ◌∙◌}
use mathlib.Core.List.{List}
use Prim.Native.Nat.{ℕ}
use Rattle.format.specs.Vectors.{vector_said}
use Rattle.read_vectors.specs.Answers.{vector_answer}
use Rattle.read_vectors.proofs.list.vector_at.Goals as goal

pub returns : goal.returns
returns c =
    let n = c.args.n in
    c.read_vector.ensures ∙ ap (λ (w : List ℕ). vector_answer (vector_said n w)) c.word_at-w.ensures.word
