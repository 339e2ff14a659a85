-- `words::word_length` meets its contract: nothing that ends the word was passed.
use Prim.Native.Nat.{◌+◌}
use mathlib.Core.Path.{◌≡◌}
use mathlib.Core.Bool.{false}
use lib.ListN.{length, drop}
use Rattle.read_vectors.specs.Outside.{first_outside}
use Rattle.read_vectors.proofs.words.word_length.Given as goal

abbrev pub invariant-loop-i : goal.invariant-loop-i
invariant-loop-i l =
    length (first_outside false l.s) ≡ l.i + length (first_outside l.inside (drop l.i l.s))
