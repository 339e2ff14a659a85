-- `list::nth_direction` meets its contract.
use mathlib.Core.Path.{ap, ◌∙◌}
use mathlib.Core.List.{List}
use Prim.Native.Nat.{ℕ}
use Rattle.format.specs.Vectors.{direction_said}
use Rattle.read_vectors.specs.Answers.{direction_column}
use Rattle.read_vectors.proofs.list.nth_direction.Goals as goal

pub returns : goal.returns
returns c =
    let n = c.args.n in
    c.direction_of.ensures ∙ ap (λ (w : List ℕ). direction_column (direction_said n w)) c.word_at-w.ensures.word
