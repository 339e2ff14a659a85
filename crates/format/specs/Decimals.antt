-- Exact decimals (W2): what the text of a component says.
-- A component is what strtod of C takes as a decimal: a sign or none; digits with or without a point, at least one digit; an exponent or none, which is `e` in
-- either case, a sign or none, and a digit or more. Or one of the words nan, inf, infinity after a sign or none, in any case. Hex is not taken, nor brackets after nan;
-- what is too large or too small for a double is. The text is the component alone: blanks beside it are dropped before (`component_in`, Vectors).
-- Numbers here are whole and unbounded: the tests for eighteen digits and for the power are exact for a text of any length.
use Rattle.std.specs.Prelude.{ℕ, ◌+◌, ◌-◌, Bool, true, false, ◌&&◌, ◌||◌, List, [], ◌∷◌, ◌++◌, ◌==◌, nat_lt, nat_le, ℤ, pos, neg_ℤ, length, if◌then◌else◌}
use Rattle.std.proofs.Math.Option.{Option, none, some}
use Rattle.format.specs.declared.Decimal.{Decimal}
use Rattle.format.specs.Bytes.{bytes, is_digit, is_empty, alike, PLUS, MINUS, POINT}
use Rattle.format.specs.Words.{number, value_of_number}

-- ---- a decimal

-- its kinds; the last is no decimal: it stands for the direction of an axis that has none
abbrev pub numeric : ℕ
numeric = 0

abbrev pub nan : ℕ
nan = 1

abbrev pub inf : ℕ
inf = 2

abbrev pub minus_inf : ℕ
minus_inf = 3

abbrev pub no_direction : ℕ
no_direction = 4

-- n times ten to the power p
abbrev pub num : ℤ → ℤ → Decimal
num n p = record { number = n; power = p; kind = numeric }

-- what is no number: its number and power are 0
abbrev pub marked : ℕ → Decimal
marked k = record { number = pos 0; power = pos 0; kind = k }

abbrev pub nought : Decimal
nought = num (pos 0) (pos 0)

-- ---- limits

-- the least number of nineteen digits, leading zeros not counted
abbrev pub past_number : ℕ
past_number = 1_000_000_000_000_000_000

-- the largest power, and with a minus the least
abbrev pub max_power : ℕ
max_power = 400

-- ---- a sign

abbrev pub is_minus : List ℕ → Bool
is_minus [] = false
is_minus (b ∷ s) = b == MINUS

-- what follows a sign, or all where there is none
abbrev pub after_sign : List ℕ → List ℕ
after_sign [] = []
after_sign (b ∷ s) = if b == MINUS || b == PLUS then s else b ∷ s

-- a number of the size n: minus zero is zero
abbrev pub signed_of : Bool → ℕ → ℤ
signed_of false n = pos n
signed_of true n = neg_ℤ (pos n)

-- ---- digits and a point

-- the digits at the front, and what follows them
unfoldable pub digits_of : List ℕ → List ℕ
digits_of [] = []
digits_of (b ∷ s) = if is_digit b then b ∷ digits_of s else []

unfoldable pub after_digits : List ℕ → List ℕ
after_digits [] = []
after_digits (b ∷ s) = if is_digit b then after_digits s else b ∷ s

-- a numeral: its digits before and after the point, and what follows them
pub data Numeral : Type 0 where
  numeral : List ℕ → List ℕ → List ℕ → Numeral

-- the digits w, then what follows them
abbrev pub pointed : List ℕ → List ℕ → Numeral
pointed w [] = numeral w [] []
pointed w (b ∷ s) = if b == POINT then numeral w (digits_of s) (after_digits s) else numeral w [] (b ∷ s)

abbrev pub numeral_of : List ℕ → Numeral
numeral_of t = pointed (digits_of t) (after_digits t)

-- ---- an exponent, and the power: a sign (true for minus) and a size

-- `e` in either case
abbrev pub is_e : ℕ → Bool
is_e b = b == 101 || b == 69

abbrev pub signed_size : Bool → Option ℕ → Option (Bool × ℕ)
signed_size minus none = none
signed_size minus (some n) = some (minus, n)

-- what ends a numeral: nothing, or `e`, a sign or none, and digits
abbrev pub exponent_of : List ℕ → Option (Bool × ℕ)
exponent_of [] = some (false, 0)
exponent_of (b ∷ s) = if is_e b then signed_size (is_minus s) (number (after_sign s)) else none

-- the power: the exponent minus the number of digits after the point, which is so folded into it
abbrev pub point_folded : Bool × ℕ → ℕ → Bool × ℕ
point_folded (true, n) f = (true, n + f)
point_folded (false, n) f = if nat_lt n f then (true, f - n) else (false, n - f)

-- ---- the value

-- the digits ds with a sign, times ten to a power: at least one digit, at most eighteen, leading zeros not counted, and the power in its range
abbrev pub valued : Bool → List ℕ → Bool × ℕ → Option Decimal
valued minus ds p =
    if is_empty ds then none
    else if nat_lt (value_of_number ds) past_number && nat_le p.1 max_power then some (num (signed_of minus (value_of_number ds)) (signed_of p.0 p.1))
    else none

abbrev pub with_exponent : Bool → List ℕ → ℕ → Option (Bool × ℕ) → Option Decimal
with_exponent minus ds f none = none
with_exponent minus ds f (some e) = valued minus ds (point_folded e f)

unfoldable pub numeral_value : Bool → Numeral → Option Decimal
numeral_value minus (numeral w f rest) = with_exponent minus (w ++ f) (length f) (exponent_of rest)

-- what the text t says, sign apart
abbrev pub unsigned_value : Bool → List ℕ → Option Decimal
unsigned_value minus t =
    if alike t (bytes "nan") then some (marked nan)
    else if alike t (bytes "inf") || alike t (bytes "infinity") then some (marked (if minus then minus_inf else inf))
    else numeral_value minus (numeral_of t)

-- THE DECIMAL of a component, or none
unfoldable pub component : List ℕ → Option Decimal
component t = unsigned_value (is_minus t) (after_sign t)
