-- Internal to this crate. Hex digits as the code reads them, for the contracts of the functions below the public ones.
use Rattle.std.specs.Prelude.{ℕ, zero, suc, ◌+◌, ◌*◌, ◌/◌, ◌%◌, ◌≤◌, ◌<◌, ◌≡◌, Bool, true, false, ◌||◌, List, [], ◌∷◌, ◌++◌, map, ◌==◌, nat_le, length, take, drop, slice_index, if◌then◌else◌}
use Rattle.format.specs.Bytes.{is_some, or_default}
use Rattle.format.specs.Descriptors.{NumberKind}
use Rattle.format.specs.Reasons.{refusal_number}
use Rattle.format.specs.Refusals.{bad_sample, data_ends_early}
use Rattle.format.specs.Samples.{Decoded, raw_samples, hex_digit, without_blanks}
use Rattle.data_hex.specs.declared.scan.Counted.{Counted}

-- the digits from a place on
abbrev pub digits_at : List ℕ → ℕ → List ℕ
digits_at s at = without_blanks (drop at s)

-- ---- whether they are digits

-- the refusal that m digits come to, or 0
unfoldable pub digits_refusal : ℕ → List ℕ → ℕ
digits_refusal zero s = 0
digits_refusal (suc m) [] = data_ends_early
digits_refusal (suc m) (b ∷ s) = if is_some (hex_digit b) then digits_refusal m s else bad_sample

-- the digits of j bytes are there from a place on
abbrev pub Enough : List ℕ → ℕ → ℕ → Type 0
Enough s at j = digits_refusal (2 * j) (digits_at s at) ≡ 0

-- a place after the digits of j bytes
abbrev pub Past : List ℕ → ℕ → ℕ → ℕ → Type 0
Past s at j next = digits_at s next ≡ drop (2 * j) (digits_at s at)

-- c digits stand between two places, and blanks
pub record Passed (s : List ℕ) (at c next : ℕ) : Type 0 where
  pub fine : digits_refusal c (digits_at s at) ≡ 0
  pub rest : drop c (digits_at s at) ≡ digits_at s next

-- c digits of so many stand before a place
pub record Reached (s : List ℕ) (need at c : ℕ) : Type 0 where
  pub few : c ≤ need
  pub within : at ≤ length s
  pub passed : Passed s 0 c at

-- r is what the scan for so many digits comes to: they are there, or the one after the digits of r is refused
pub record Scanned (s : List ℕ) (need : ℕ) (r : Counted) : Type 0 where
  pub fine : digits_refusal r.digits (without_blanks s) ≡ 0
  pub whole : refusal_number r.outcome ≡ 0 → r.digits ≡ need
  pub stops : (refusal_number r.outcome ≡ 0 → ⊥) → (r.digits < need) × (digits_refusal (r.digits + 1) (without_blanks s) ≡ refusal_number r.outcome)

-- ---- the bytes that they write

-- 1 where a test holds
abbrev pub one_if : Bool → ℕ
one_if true = 1
one_if false = 0

-- n bytes from a place on are above the blanks
abbrev pub Run : List ℕ → ℕ → ℕ → Type 0
Run s at n = (i : ℕ) → i < n → 32 < slice_index s (at + i)

-- of n bytes from a place on each third one is at most 32, and no other
abbrev pub Spaced : List ℕ → ℕ → ℕ → Type 0
Spaced s at n = (i : ℕ) → i < n → nat_le (slice_index s (at + i)) 32 ≡ (i % 3 == 2)

-- the list d up to e, after the list c up to o: what was added are the digits between two places
abbrev pub Moved : List ℕ → ℕ → ℕ → List ℕ → ℕ → List ℕ → ℕ → Type 0
Moved s at next c o d e = take e d ++ digits_at s next ≡ take o c ++ digits_at s at

-- the value of a digit, or 255
abbrev pub digit_value : ℕ → ℕ
digit_value b = or_default 255 (hex_digit b)

-- two values as one number
pub record Pair (h l x : ℕ) : Type 0 where
  pub first : x % 256 ≡ h
  pub second : x / 256 ≡ l

-- the bytes of values, two for each
unfoldable pub pairs_of : List ℕ → List ℕ
pairs_of [] = []
pairs_of (h ∷ []) = []
pairs_of (h ∷ l ∷ s) = (h * 16 + l) % 256 ∷ pairs_of s

abbrev pub bytes_of : List ℕ → List ℕ
bytes_of s = pairs_of (map digit_value s)

-- the list b has the next j bytes in front, and e is the place after their digits
pub record Taken (s : List ℕ) (at j : ℕ) (b : List ℕ) (e : ℕ) : Type 0 where
  pub bytes : take j b ≡ take j (bytes_of (digits_at s at))
  pub rest : Past s at j e

-- n samples of the bytes from a place on
abbrev pub samples_at : NumberKind → ℕ → ℕ → ℕ → List ℕ → ℕ → Decoded
samples_at k w e n s at = raw_samples k w e n (bytes_of (digits_at s at))

-- ---- samples past the largest one

-- the place of the highest byte of a sample of 8 bytes
abbrev pub top_place : Bool → ℕ
top_place true = 0
top_place false = 7

-- one of m samples of 8 bytes has a byte from 128 on at a place
unfoldable pub has_high : ℕ → ℕ → List ℕ → Bool
has_high zero top b = false
has_high (suc m) top b = has_high m top b || nat_le 128 (slice_index b (8 * m + top))
