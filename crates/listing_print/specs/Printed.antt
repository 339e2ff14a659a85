-- Internal to the library. What a function that prints does to a lent buffer: it stores what fits, and returns the place after all of it.
use Rattle.std.specs.Prelude.{ℕ, ◌+◌, ◌≤◌, ◌≡◌, List, length}
use Rattle.std.proofs.lemmas.List.Edits.{sets}

-- the text `run`, of at most `most` bytes, is printed to the buffer d from `at` on: the buffer is d' and the place after it r.
-- `sets` leaves out what is past the end of the buffer.
pub record Printed (most : ℕ) (d : List ℕ) (at : ℕ) (run d' : List ℕ) (r : ℕ) : Type 0 where
  pub place : r ≡ at + length run
  pub stored : d' ≡ sets d at run
  pub long : r ≤ at + most
