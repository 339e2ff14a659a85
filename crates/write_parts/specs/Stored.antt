-- Internal to the library. What the functions store, in the words of their contracts. Each is tied to the definitions of `format` by a law of proofs/.
use Rattle.std.specs.Prelude.{ℕ, zero, suc, ◌-◌, ◌/◌, ◌%◌, List, [], ◌∷◌, ◌++◌, nat_lt, ℤ, if◌then◌else◌}
use Rattle.format.specs.Bytes.{LF}
use Rattle.format.specs.Writer.{digit, signed_decimal}

-- the last k digits of a number
unfoldable pub digits : ℕ → ℕ → List ℕ
digits zero n = []
digits (suc k) n = digits k (n / 10) ++ (digit (n % 10) ∷ [])

-- a sample of the bits x: the bytes of its sign as text, and its value without the sign
abbrev pub sign_length : ℕ → ℕ
sign_length x = if nat_lt x 9223372036854775808 then 0 else 1

abbrev pub absolute : ℕ → ℕ
absolute x = if nat_lt x 9223372036854775808 then x else 18446744073709551616 - x

-- a sample on a line
abbrev pub text_line : ℤ → List ℕ
text_line z = signed_decimal z ++ LF ∷ []
