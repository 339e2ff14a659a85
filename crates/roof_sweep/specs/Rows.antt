-- Internal to this crate. What has to be known of a reading before the stamps of its rows are looked at.
use Rattle.std.specs.Prelude.{ℕ, ◌*◌, ◌≤◌}
use Rattle.format.specs.declared.Reading.{Reading}
use Rattle.roof_sweep.specs.Sweeps.{row_length, row_count}

-- there is a row, each has a sample, and n samples are enough for all of them
pub record Rows (r : Reading) (n : ℕ) : Type 0 where
  pub long : 1 ≤ row_length r
  pub some : 1 ≤ row_count r
  pub fit : row_count r * row_length r ≤ n
