-- `list::direction_at` meets its contract.
use mathlib.Core.Path.{ap, ◌∙◌}
use mathlib.Core.List.{List}
use Prim.Native.Nat.{ℕ}
use Rattle.format.specs.Vectors.{direction_said}
use Rattle.read_vectors.specs.Answers.{direction_answer}
use Rattle.read_vectors.proofs.list.direction_at.Goals as goal

pub returns : goal.returns
returns c =
    let n = c.args.n in
    c.read_direction.ensures ∙ ap (λ (w : List ℕ). direction_answer (direction_said n w)) c.word_at-w.ensures.word
