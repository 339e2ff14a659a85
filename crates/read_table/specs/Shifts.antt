-- Internal to the library. The starts of lines, moved by an edit of the header.
use Rattle.std.specs.Prelude.{ℕ, zero, suc, ◌+◌, ◌-◌, ◌≤◌, ◌<◌, List, [], ◌∷◌, map, nat_lt, length, slice_index, if◌then◌else◌}
use Rattle.format.specs.Limits.{max_file}
use Rattle.read_table.specs.declared.table.Edit.{Edit}

-- where a line that started at x starts, once what ended at `to` ends at `front`
unfoldable pub moved_by : ℕ → ℕ → ℕ → ℕ
moved_by to front x = if nat_lt x to then x else front + (x - to)

-- the starts of the lines after an edit; `more` is 1 for a new line 2, which starts at `from`
unfoldable pub shifted : ℕ → ℕ → ℕ → ℕ → List ℕ → List ℕ
shifted from to front zero ss = map (moved_by to front) ss
shifted from to front (suc more) [] = []
shifted from to front (suc more) (s ∷ ss) = s ∷ from ∷ map (moved_by to front) ss

-- a table whose first `count` entries can be moved
pub record Shiftable (table : List ℕ) (count more from to front : ℕ) : Type 0 where
  pub some : 0 < count
  pub few : more ≤ 1
  pub room : count + more ≤ length table
  pub second : from ≤ max_file
  pub small : (k : ℕ) → k < count → moved_by to front (slice_index table k) ≤ max_file

-- the same of the edit with these numbers
abbrev pub moved_entries : Edit → List ℕ → List ℕ
moved_entries edit = shifted edit.from edit.to edit.front edit.more
