-- Internal to the library. The answers of the functions on the parts of a component's text.
use Rattle.std.specs.Prelude.{ℕ, ◌+◌, ◌*◌, ◌-◌, ◌≤◌, min, ◌≡◌, Bool, true, false, List, [], ◌∷◌, ◌==◌, length, drop, if◌then◌else◌}
use Rattle.std.specs.Prelude.{Option as Maybe}
use Rattle.std.specs.Prelude.{Some, None}
use Rattle.std.proofs.Math.Option.{Option, none, some}
use Rattle.format.specs.Bytes.{POINT}
use Rattle.format.specs.Decimals.{past_number, is_minus, after_sign, digits_of, after_digits}
use Rattle.read_decimals.specs.declared.parts.Sign.{Sign}
use Rattle.read_decimals.specs.declared.parts.Digits.{Digits}
use Rattle.read_decimals.specs.declared.parts.Fraction.{Fraction}
use Rattle.read_decimals.specs.declared.parts.Exponent.{Exponent}

-- the sign at the front of t
pub record SignRead (t : List ℕ) (r : Sign) : Type 0 where
  pub minus : r.minus ≡ is_minus t
  pub rest : drop r.length t ≡ after_sign t
  pub within : r.length ≤ length t

-- the number that digits write after those of m
unfoldable pub number_from : ℕ → List ℕ → ℕ
number_from m [] = m
number_from m (b ∷ s) = number_from (m * 10 + (b - 48)) s

-- the digits at the front of s, after those of m
unfoldable pub digits_answer : ℕ → List ℕ → Digits
digits_answer m s = record { number = min (number_from m (digits_of s)) past_number; count = length (digits_of s) }

-- the digits after a point at the front, and what follows them
abbrev pub fraction_of : List ℕ → List ℕ
fraction_of [] = []
fraction_of (b ∷ s) = if b == POINT then digits_of s else []

abbrev pub after_fraction : List ℕ → List ℕ
after_fraction [] = []
after_fraction (b ∷ s) = if b == POINT then after_digits s else b ∷ s

-- the fraction at the front of s, its digits after those of m
pub record FractionRead (m : ℕ) (s : List ℕ) (r : Fraction) : Type 0 where
  pub number : r.number ≡ min (number_from m (fraction_of s)) past_number
  pub count : r.count ≡ length (fraction_of s)
  pub rest : drop r.length s ≡ after_fraction s
  pub within : r.length ≤ length s

-- an exponent, its size cut
abbrev pub exponent_answer : Option (Bool × ℕ) → Maybe Exponent
exponent_answer none = None
exponent_answer (some e) = Some record { minus = e.0; size = min e.1 past_number }
