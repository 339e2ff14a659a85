-- `list::read_frame` meets its contract: the columns of the words from here on, stored from c on, make the matrix.
use Prim.Native.Nat.{◌≤◌, ◌-◌}
use mathlib.Core.Path.{◌≡◌}
use lib.ListN.{length, drop}
use lib.Seq.{sets}
use Rattle.format.specs.Vectors.{vector_words}
use Rattle.read_vectors.specs.Answers.{frame_said}
use Rattle.read_vectors.proofs.ListLaws.{columns_of}
use Rattle.read_vectors.proofs.list.read_frame.Given as goal

abbrev pub invariant-loop-c : goal.invariant-loop-c
invariant-loop-c l =
    (l.at ≤ length l.t) × (length l.m ≡ 8) × (frame_said l.n l.t ≡ sets l.m l.c (columns_of l.n (vector_words (drop l.at l.t))))
