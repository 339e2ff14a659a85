-- Hex digits over all 256 bytes: one computed test, and the law that makes it the rule at each byte.
-- Assumes nothing.
use Prim.Native.Nat.{ℕ, ◌<◌}
use mathlib.Core.Path.{◌≡◌, refl}
use mathlib.Core.Bool.{Bool, true, false, false≢true}
use mathlib.Core.Option.{Option, none, some}
use lib.Dec.{eqb}
use borrow.Author.Tests.{eqb-true}
use Rattle.format.specs.Bytes.{every_below}
use Rattle.format.specs.Samples.{hex_digit}
use Rattle.format.specs.HexDigits.{place_from, digit_named, same_value, HexDigits}
use Rattle.format.proofs.Bytes.{every_below_lem}

-- computed
over_all : every_below (λ b. same_value (hex_digit b) (digit_named b)) 256 ≡ true
unfolding every_below hex_digit place_from
over_all = refl

pub same_value_lem : (o q : Option ℕ) → same_value o q ≡ true → o ≡ q
same_value_lem none none h = refl
same_value_lem none (some w) h = absurd (false≢true h)
same_value_lem (some v) none h = absurd (false≢true h)
same_value_lem (some v) (some w) h = rw (eqb-true v w h)

pub at_each : (b : ℕ) → b < 256 → hex_digit b ≡ digit_named b
at_each b h = same_value_lem (hex_digit b) (digit_named b) (every_below_lem (λ b. same_value (hex_digit b) (digit_named b)) 256 over_all b h)

pub hex_digits : HexDigits
hex_digits = record { over_all = over_all; at_each = at_each }
