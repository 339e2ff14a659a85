-- What the text of a decimal means, stated apart from the definition `component` (W2), as one statement: `DecimalsMean`.
-- A text is put together from the parts that strtod of C takes; its value is the sum of its digits, each times ten to the power of its place.
use Rattle.std.specs.Prelude.{ℕ, ◌+◌, ◌-◌, ◌*◌, ◌^◌, ◌≡◌, Bool, true, not, ◌&&◌, ◌||◌, List, [], ◌∷◌, ◌++◌, nat_lt, nat_le, ℤ, pos, negsuc, neg_ℤ, nat_abs, ◌+ℤ◌, ◌-ℤ◌, length, if◌then◌else◌}
use Rattle.std.proofs.Math.Option.{Option, none, some}
use Rattle.format.specs.declared.Decimal.{Decimal}
use Rattle.format.specs.Bytes.{bytes, is_digit, is_empty, alike, every, or_default, PLUS, MINUS, POINT}
use Rattle.format.specs.Decimals.{num, marked, nan, inf, minus_inf, component}

-- ---- the text

-- a sign: none, `+` or `-`
pub data Sign : Type 0 where
  bare : Sign
  plus : Sign
  minus : Sign

abbrev pub sign_text : Sign → List ℕ
sign_text bare = []
sign_text plus = PLUS ∷ []
sign_text minus = MINUS ∷ []

-- an exponent: `E` (true) or `e`, a sign, digits
pub data Exponent : Type 0 where
  exponent : Bool → Sign → List ℕ → Exponent

abbrev pub exponent_text : Option Exponent → List ℕ
exponent_text none = []
exponent_text (some (exponent capital s y)) = (if capital then 69 else 101) ∷ sign_text s ++ y

-- the parts: a sign, digits, a point with digits after it or no point, an exponent or none
pub record Parts : Type 0 where
  pub sign : Sign
  pub whole : List ℕ
  pub point : Option (List ℕ)
  pub scale : Option Exponent

abbrev pub point_text : Option (List ℕ) → List ℕ
point_text none = []
point_text (some f) = POINT ∷ f

abbrev pub parts_text : Parts → List ℕ
parts_text x = sign_text x.sign ++ (x.whole ++ (point_text x.point ++ exponent_text x.scale))

-- the digits after the point, and all digits without the point
abbrev pub fraction : Parts → List ℕ
fraction x = or_default [] x.point

abbrev pub digits : Parts → List ℕ
digits x = x.whole ++ fraction x

-- one digit or more
abbrev pub some_digits : List ℕ → Bool
some_digits ds = not (is_empty ds) && every is_digit ds

abbrev pub exponent_formed : Option Exponent → Bool
exponent_formed none = true
exponent_formed (some (exponent capital s y)) = some_digits y

-- digits where digits have to be, at least one before or after the point, at least one in an exponent
abbrev pub well_formed : Parts → Bool
well_formed x = some_digits (digits x) && exponent_formed x.scale

-- ---- the value

-- n with a sign; minus zero is zero
abbrev pub signed : Sign → ℕ → ℤ
signed bare n = pos n
signed plus n = pos n
signed minus n = neg_ℤ (pos n)

-- ten to a power that is not negative
abbrev pub ten_to : ℤ → ℕ
ten_to (pos n) = 10 ^ n
ten_to (negsuc n) = 0

-- the sum of digits before a point: the last one counts for ten to the power u, the one before it for ten to u + 1, ..
unfoldable pub before_point : ℤ → List ℕ → ℕ
before_point u [] = 0
before_point u (b ∷ w) = (b - 48) * ten_to (u +ℤ pos (length w)) + before_point u w

-- the sum of the j-th digit after a point and those that follow it: it counts for ten to u - j, the next for ten to u - (j + 1), ..
unfoldable pub after_point : ℤ → ℕ → List ℕ → ℕ
after_point u j [] = 0
after_point u j (b ∷ f) = (b - 48) * ten_to (u -ℤ pos j) + after_point u (j + 1) f

-- places after the point are counted from 1
abbrev pub first_place : ℕ
first_place = 1

-- the number that digits alone write
abbrev pub whole_number : List ℕ → ℕ
whole_number ds = before_point (pos 0) ds

abbrev pub exponent_value : Option Exponent → ℤ
exponent_value none = pos 0
exponent_value (some (exponent capital s y)) = signed s (whole_number y)

-- ten to the power k times the value of the text, sign apart: whole where k is large enough
abbrev pub value_times : ℕ → Parts → ℕ
value_times k x =
    let u : ℤ = pos k +ℤ exponent_value x.scale in
    before_point u x.whole + after_point u first_place (fraction x)

-- its number, point left out, and its power: the exponent less the digits after the point
abbrev pub number_of : Parts → ℕ
number_of x = whole_number (digits x)

abbrev pub power_of : Parts → ℤ
power_of x = exponent_value x.scale -ℤ pos (length (fraction x))

-- ---- the laws

-- at most eighteen digits, leading zeros not counted, and a power from -400 to 400
abbrev pub most_digits : ℕ
most_digits = 18

abbrev pub most_power : ℕ
most_power = 400

abbrev pub in_range : ℕ → ℤ → Bool
in_range n p = nat_lt n (10 ^ most_digits) && nat_le (nat_abs p) most_power

pub record NumberMeant (x : Parts) : Type 0 where
  -- the number times ten to the power is the value; k is large enough if k plus the power, the place of the last digit, is not negative
  pub value : (k m : ℕ) → pos k +ℤ power_of x ≡ pos m → value_times k x ≡ number_of x * 10 ^ m
  -- taken exactly where number and power are in their ranges
  pub said : component (parts_text x) ≡ (if in_range (number_of x) (power_of x) then some (num (signed x.sign (number_of x)) (power_of x)) else none)

abbrev pub infinite : Sign → ℕ
infinite bare = inf
infinite plus = inf
infinite minus = minus_inf

-- words in any case
abbrev pub is_nan : List ℕ → Bool
is_nan w = alike w (bytes "nan")

abbrev pub is_inf : List ℕ → Bool
is_inf w = alike w (bytes "inf") || alike w (bytes "infinity")

-- what a text t may be that says d
pub data Form (t : List ℕ) (d : Decimal) : Type 0 where
  a_number : (x : Parts) → well_formed x ≡ true → t ≡ parts_text x → Form t d
  a_nan : (s : Sign) (w : List ℕ) → is_nan w ≡ true → t ≡ sign_text s ++ w → d ≡ marked nan → Form t d
  an_inf : (s : Sign) (w : List ℕ) → is_inf w ≡ true → t ≡ sign_text s ++ w → d ≡ marked (infinite s) → Form t d

-- THE STATEMENT
pub record DecimalsMean : Type 0 where
  pub numbers : (x : Parts) → well_formed x ≡ true → NumberMeant x
  -- the sign of nan is left out
  pub nans : (s : Sign) (w : List ℕ) → is_nan w ≡ true → component (sign_text s ++ w) ≡ some (marked nan)
  pub infinities : (s : Sign) (w : List ℕ) → is_inf w ≡ true → component (sign_text s ++ w) ≡ some (marked (infinite s))
  -- nothing else is taken
  pub only : (t : List ℕ) (d : Decimal) → component t ≡ some d → Form t d
