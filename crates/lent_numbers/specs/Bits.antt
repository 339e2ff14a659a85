-- Internal to the library. A number that is known to fit its bytes.
use Rattle.std.specs.Prelude.{ℕ, ◌^◌, ◌<◌, ◌≡◌}

-- the number n, which w bytes hold
pub record Bits (w n r : ℕ) : Type 0 where
  pub is : r ≡ n
  pub less : r < 256 ^ w
