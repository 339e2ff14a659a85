-- Internal to the library. The widths, kinds and endians of `format`, and whether there are as many samples as are asked for.
use Rattle.std.specs.Prelude.{ℕ, ◌*◌, Bool, ◌&&◌, nat_le}
pub use Rattle.format.specs.Widths.{Width, is_width, kind_by, endian_by}

-- so many bytes hold n samples of w bytes
abbrev pub enough : ℕ → ℕ → ℕ → Bool
enough w n bytes = is_width w && nat_le (n * w) bytes
