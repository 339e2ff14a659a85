-- What is said of the words from here on is said of all.
use Rattle.std.proofs.Common.{◌≡◌, ◌≤◌, ◌-◌, length, drop}
use Rattle.format.specs.Bytes.{is_some}
use Rattle.format.specs.Vectors.{said_by, vector_words}
use Rattle.read_vectors.specs.Answers.{word_said}
use Rattle.read_vectors.proofs.list.words_fine.Given as goal

abbrev pub invariant-loop : goal.invariant-loop
invariant-loop l =
    (l.at ≤ length l.t)
    × (is_some (said_by l.count (word_said l.none l.n) (vector_words l.t)) ≡ is_some (said_by (l.count - l.counter) (word_said l.none l.n) (vector_words (drop l.at l.t))))
