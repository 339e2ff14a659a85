-- Hex digits over all 256 bytes (W3): what the three ranges of `Samples.hex_digit` say of each byte, compared with the digits as text.
use Rattle.std.specs.Prelude.{ℕ, ◌+◌, ◌<◌, ◌≡◌, Bool, true, false, List, [], ◌∷◌, ◌==◌, if◌then◌else◌}
use Rattle.std.proofs.Math.Option.{Option, none, some}
use Rattle.format.specs.Bytes.{bytes, every_below, or_else}
use Rattle.format.specs.Samples.{hex_digit}

-- the place of a byte in a text, the first place counted as n
unfoldable pub place_from : ℕ → ℕ → List ℕ → Option ℕ
place_from n b [] = none
place_from n b (c ∷ s) = if b == c then some n else place_from (n + 1) b s

-- the value of a byte by its place among the digits, which count from 0, or among the letters of either case, which count from 10; no other byte has one
abbrev pub digit_named : ℕ → Option ℕ
digit_named b = or_else (place_from 0 b (bytes "0123456789")) (or_else (place_from 10 b (bytes "abcdef")) (place_from 10 b (bytes "ABCDEF")))

-- both have the same value, or neither has one
abbrev pub same_value : Option ℕ → Option ℕ → Bool
same_value none none = true
same_value none (some w) = false
same_value (some v) none = false
same_value (some v) (some w) = v == w

-- By the ranges exactly the digits have a value, each the one that the text gives it.
pub record HexDigits : Type 0 where
  -- a test that is computed over all 256 bytes
  pub over_all : every_below (λ b. same_value (hex_digit b) (digit_named b)) 256 ≡ true
  -- and what it says of each
  pub at_each : (b : ℕ) → b < 256 → hex_digit b ≡ digit_named b
