-- Internal to this crate. Text samples as the code reads them: by position, and over the two bounds of a type.
use Rattle.std.specs.Prelude.{ℕ, zero, suc, ◌+◌, ◌*◌, ◌^◌, ◌≤◌, ◌<◌, min, ◌≡◌, Bool, true, false, ◌||◌, List, [], ◌∷◌, nat_le, nat_lt, ◌==◌, ℤ, pos, negsuc, neg_ℤ, length, drop, slice_index, if◌then◌else◌}
use Rattle.std.proofs.Math.Option.{Option, none, some}
use Rattle.std.specs.Int.{w64}
use mir.Val.{SFits, bool_byte}
use Rattle.format.specs.Bytes.{is_digit}
use Rattle.format.specs.Words.{number, digits_from}
use Rattle.format.specs.Refusals.{bad_sample, data_ends_early}
use Rattle.format.specs.Samples.{Decoded, stopped, with_sample, skip_blanks, token, after_token, token_value}
use Rattle.std.specs.Prelude.{Option as Maybe}
use Rattle.std.specs.Prelude.{Some, None}
use Rattle.data_text.specs.declared.reader.Ended.{Ended}
use Rattle.data_text.specs.declared.reader.Ended.TheVariants.{AllRead, NoSample, NoToken}
use Rattle.data_text.specs.declared.reader.Run.{Run}
use Rattle.data_text.specs.declared.reader.Sample.{Sample}

-- ---- samples from -low to high: `text_samples` of a type with these bounds

unfoldable pub in_range : ℕ → ℕ → ℤ → Bool
in_range low high (pos n) = nat_le n high
in_range low high (negsuc n) = nat_lt n low

unfoldable pub ranged : ℕ → ℕ → Option ℤ → Option ℤ
ranged low high none = none
ranged low high (some z) = if in_range low high z then some z else none

abbrev pub push : Option ℤ → Decoded → Decoded
push none rest = stopped bad_sample
push (some z) rest = with_sample z rest

unfoldable pub tokens_in : ℕ → ℕ → ℕ → List ℕ → Decoded
tokens_in low high zero s = stopped 0
tokens_in low high (suc n) [] = stopped data_ends_early
tokens_in low high (suc n) (b ∷ s) =
    push (ranged low high (token_value (token (b ∷ s)))) (tokens_in low high n (skip_blanks (after_token (b ∷ s))))

abbrev pub samples_in : ℕ → ℕ → ℕ → List ℕ → Decoded
samples_in low high n s = tokens_in low high n (skip_blanks s)

-- ---- what the functions answer

-- r is where the blanks from `at` on end
pub record Skipped (s : List ℕ) (at r : ℕ) : Type 0 where
  pub from : at ≤ r
  pub within : r ≤ length s
  pub past : skip_blanks (drop at s) ≡ drop r s

-- numbers from here on are not told apart: one more than any bound
abbrev pub cap : ℕ
cap = 2 ^ 63 + 1

-- a number of digits, and where they end; a value, and where its token ends
abbrev pub run : ℕ → ℕ → Maybe Run
run m e = Some (record { number = m; end = e })

abbrev pub sample : ℤ → ℕ → Maybe Sample
sample z e = Some (record { value = z; end = e })

abbrev pub run_of : Option ℕ → ℕ → Maybe Run
run_of none e = None
run_of (some m) e = run (min m cap) e

-- the digits from `at` to the end of the token
abbrev pub digits_at : List ℕ → ℕ → Maybe Run
digits_at s at = run_of (number (token (drop at s))) (at + length (token (drop at s)))

abbrev pub minus : ℕ → ℤ
minus m = neg_ℤ (pos m)

-- the value that f makes of digits whose number is at most top
abbrev pub bound_token : (ℕ → ℤ) → ℕ → Maybe Run → Maybe Sample
bound_token f top None = None
bound_token f top (Some r) = if nat_le r.number top then sample (f r.number) r.end else None

abbrev pub token_of : Option ℤ → ℕ → Maybe Sample
token_of none e = None
token_of (some z) e = sample z e

-- the token at `at`
abbrev pub token_at : ℕ → ℕ → List ℕ → ℕ → Maybe Sample
token_at low high s at = token_of (ranged low high (token_value (token (drop at s)))) (at + length (token (drop at s)))

-- the token from `at` on is read up to i: its number so far, of which the code keeps m
pub record Scan (s : List ℕ) (at i m : ℕ) : Type 0 where
  pub far : ℕ
  pub from : at ≤ i
  pub within : i ≤ length s
  pub kept : m ≡ min far cap
  pub rest : digits_from 0 (token (drop at s)) ≡ digits_from far (token (drop i s))
  pub long : at + length (token (drop at s)) ≡ i + length (token (drop i s))

-- ---- tokens of few digits

-- + and -
abbrev pub is_sign : ℕ → Bool
is_sign b = b == 43 || b == 45

-- the n bytes from `at` on are a sign or a digit, and then digits
pub record Front (s : List ℕ) (at n : ℕ) : Type 0 where
  pub few : n ≤ 5
  pub first : 0 < n → is_sign (slice_index s at) ≡ false → is_digit (slice_index s at) ≡ true
  pub digits : (k : ℕ) → 0 < k → k < n → is_digit (slice_index s (at + k)) ≡ true

-- m is the number of the digits among the n bytes from `at` on
pub record ShortNumber (s : List ℕ) (at n m : ℕ) : Type 0 where
  pub small : m < 10 ^ 5
  pub scan : Scan s (at + bool_byte (is_sign (slice_index s at))) (at + n) m

-- a number after a minus, or without one
abbrev pub by_sign : Bool → ℕ → ℤ
by_sign true m = minus m
by_sign false m = pos m

-- ---- several tokens

-- what n tokens leave of a text, from the next token on
unfoldable pub left : ℕ → List ℕ → List ℕ
left zero s = s
left (suc n) [] = []
left (suc n) (b ∷ s) = left n (skip_blanks (after_token (b ∷ s)))

-- the last value, or z where there is none
abbrev pub last_of : ℤ → List ℤ → ℤ
last_of z [] = z
last_of z (y ∷ l) = last_of y l

-- the number of the refusal that the reading of tokens ends with
abbrev pub ended_number : Ended → ℕ
ended_number AllRead = 0
ended_number NoSample = bad_sample
ended_number NoToken = data_ends_early

-- n tokens of t, a part of s, were read from the value z on: r is what they come to, e the place after them, y the last value
pub record Walked (low high n : ℕ) (t : List ℕ) (z : ℤ) (s : List ℕ) (r e : ℕ) (y : ℤ) : Type 0 where
  pub code : r ≡ (tokens_in low high n t).number
  pub within : e ≤ length s
  pub place : r ≡ 0 → drop e s ≡ left n t
  pub last : y ≡ last_of z (tokens_in low high n t).seen
  pub fits : SFits w64 z → SFits w64 y

-- n is so many times step
abbrev pub Divides : ℕ → ℕ → Type 0
Divides step n = (turns : ℕ) × (n ≡ turns * step)
