-- Internal to the library. Names with the rows that they stand in, as the tables of the code hold them, and the answers of the look-ups.
use Rattle.std.specs.Prelude.{ℕ, List, [], ◌∷◌, ◌++◌, length, if◌then◌else◌}
use Rattle.std.proofs.Math.Option.{Option, none, some}
use Rattle.format.specs.Bytes.{alike}
use Rattle.std.specs.Prelude.{Option as Maybe}
use Rattle.std.specs.Prelude.{Some, None}

-- the number of a row, and a name that stands in it
pub data Name : Type 0 where
  name : ℕ → List ℕ → Name

-- the bytes of a table: for each name its length, the number of its row, and its bytes
unfoldable pub packed : List Name → List ℕ
packed [] = []
packed (name i w ∷ ns) = length w ∷ i ∷ w ++ packed ns

-- the row of the first name that s is, ignoring case
unfoldable pub row_among : List ℕ → List Name → Option ℕ
row_among s [] = none
row_among s (name i w ∷ ns) = if alike s w then some i else row_among s ns

-- the row as the look-ups answer it
abbrev pub row_answer : Option ℕ → Maybe ℕ
row_answer none = None
row_answer (some n) = Some n
