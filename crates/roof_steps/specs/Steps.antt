-- Stamps of a counter, the steps between them, and the first row with a wrong step (W4).
use Rattle.std.specs.Prelude.{ℕ, zero, suc, ◌+◌, ◌-◌, ◌*◌, ◌%◌, Bool, true, false, List, [], ◌∷◌, drop, ℤ, pos, slice_index_or, if◌then◌else◌}
use Rattle.std.proofs.Math.Option.{Option, none, some}
use Rattle.std.specs.Prelude.{Option as Maybe}
use Rattle.std.specs.Prelude.{Some, None}
use Rattle.format.specs.Bytes.{between}
use Rattle.format.specs.Samples.{from_signed}

-- how many values the counter has: it runs through 4,294,967,295 back to 0
abbrev pub counter_values : ℕ
counter_values = 4_294_967_296

-- the stamp that a sample is: its low 32 bits, which in a file of uint32 are the sample itself
unfoldable pub stamp_of : ℤ → ℕ
stamp_of z = from_signed 8 z % counter_values

-- the step from one stamp to the next, both of which are below that, around the wrap
unfoldable pub step_of : ℕ → ℕ → ℕ
step_of before after = (after + counter_values - before) % counter_values

-- a step is right from 1 to the largest
abbrev pub is_right : ℕ → ℕ → Bool
is_right largest step = between 1 largest step

-- the stamps of this many rows of m samples: the first sample of each
unfoldable pub stamps : ℕ → ℕ → List ℤ → List ℕ
stamps zero m zs = []
stamps (suc rows) m zs = stamp_of (slice_index_or zs 0 (pos 0)) ∷ stamps rows m (drop m zs)

-- the first row whose step from the row before it is wrong, in rows from `row` on: these are their stamps, and `before` is that of the row before them
unfoldable pub wrong_from : ℕ → ℕ → ℕ → List ℕ → Option ℕ
wrong_from largest row before [] = none
wrong_from largest row before (t ∷ ts) = if is_right largest (step_of before t) then wrong_from largest (row + 1) t ts else some row

-- the first row, from 0, whose step from the row before it is wrong; row 0 has no row before it
abbrev pub first_wrong : ℕ → List ℕ → Option ℕ
first_wrong largest [] = none
first_wrong largest (t ∷ ts) = wrong_from largest 1 t ts

-- ---- as the code answers it

-- a number, if there is one
abbrev pub number_found : Option ℕ → Maybe ℕ
number_found none = None
number_found (some n) = Some n

-- what the search finds in these rows of m samples from `row` on, after a row with the stamp `before`
abbrev pub wrong_left : ℕ → ℕ → ℕ → List ℤ → ℕ → ℕ → Option ℕ
wrong_left largest rows m zs row before = wrong_from largest row before (stamps (rows - row) m (drop (row * m) zs))
