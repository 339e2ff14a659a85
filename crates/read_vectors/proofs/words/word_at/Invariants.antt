-- The word number i is the word number i - counter from here on.
use Rattle.std.proofs.Common.{◌≡◌, ◌≤◌, ◌-◌, [], length, drop, slice_index_or}
use Rattle.format.specs.Vectors.{vector_words}
use Rattle.read_vectors.proofs.words.word_at.Given as goal

abbrev pub invariant-loop : goal.invariant-loop
invariant-loop l =
    (l.at ≤ length l.t) × (slice_index_or (vector_words l.t) l.i [] ≡ slice_index_or (vector_words (drop l.at l.t)) (l.i - l.counter) [])
