-- Integer samples in raw, hex and text (rules, "Data and samples", the second paragraph).
-- Of 20 and 21 the one that comes first in the data is told: samples are judged one after the other, each when it is whole.
use Rattle.std.specs.Prelude.{ℕ, zero, suc, ◌+◌, ◌*◌, ◌-◌, ◌^◌, ◌/◌, ◌%◌, min, Bool, ◌||◌, List, [], ◌∷◌, reverse, ◌==◌, nat_le, nat_lt, ℤ, pos, negsuc, neg_ℤ, length, take, drop, if◌then◌else◌}
use Rattle.std.proofs.Math.Option.{Option, none, some}
use Rattle.format.specs.Bytes.{between, is_digit, SPACE, PLUS, MINUS}
use Rattle.format.specs.Limits.{max_sample}
use Rattle.format.specs.Refusals.{bad_sample, data_ends_early}
use Rattle.format.specs.Words.{number}
use Rattle.format.specs.Descriptors.{NumberKind, signed, unsigned, floating, raw, as_text, big}

-- ---- the range of a type, over the bytes w of a sample

-- the least value is minus this; samples of a floating type are never decoded (refusal 19)
abbrev pub lowest : NumberKind → ℕ → ℕ
lowest signed w = 256 ^ w / 2
lowest unsigned w = 0
lowest floating w = 0

-- the greatest value; none is above `max_sample`
abbrev pub highest : NumberKind → ℕ → ℕ
highest signed w = 256 ^ w / 2 - 1
highest unsigned w = min (256 ^ w - 1) max_sample
highest floating w = 0

-- the type has the value (refusal 20)
unfoldable pub in_type : NumberKind → ℕ → ℤ → Bool
in_type k w (pos n) = nat_le n (highest k w)
in_type k w (negsuc n) = nat_lt n (lowest k w)

-- ---- what samples come to: the number of the refusal, or 0 for none, and the samples before it

pub record Decoded : Type 0 where
  pub number : ℕ
  pub seen : List ℤ

abbrev pub stopped : ℕ → Decoded
stopped n = record { number = n; seen = [] }

abbrev pub with_sample : ℤ → Decoded → Decoded
with_sample z d = record { number = d.number; seen = z ∷ d.seen }

-- the sample z of a type, and the ones after it
abbrev pub then_samples : NumberKind → ℕ → ℤ → Decoded → Decoded
then_samples k w z rest = if in_type k w z then with_sample z rest else stopped bad_sample

-- ---- bytes to a value and back, over the width

-- the number whose digits to the base 256 are the bytes, least first
unfoldable pub from_bytes : List ℕ → ℕ
from_bytes [] = 0
from_bytes (b ∷ s) = b + 256 * from_bytes s

-- w such bytes of a number
unfoldable pub to_bytes : ℕ → ℕ → List ℕ
to_bytes zero n = []
to_bytes (suc w) n = n % 256 ∷ to_bytes w (n / 256)

-- bytes least first to bytes in the order of the endian, and back: big turns them round
abbrev pub ordered : ℕ → List ℕ → List ℕ
ordered endian s = if endian == big then reverse s else s

-- two's complement: from half the range up a signed value is negative
abbrev pub to_signed : ℕ → ℕ → ℤ
to_signed w n = if nat_lt n (256 ^ w / 2) then pos n else negsuc (256 ^ w - 1 - n)

abbrev pub from_signed : ℕ → ℤ → ℕ
from_signed w (pos n) = n
from_signed w (negsuc n) = 256 ^ w - 1 - n

abbrev pub value_of_bits : NumberKind → ℕ → ℕ → ℤ
value_of_bits signed w n = to_signed w n
value_of_bits unsigned w n = pos n
value_of_bits floating w n = pos n

-- the value of a sample's bytes, and the w bytes of a value
unfoldable pub sample_value : NumberKind → ℕ → List ℕ → ℤ
sample_value k endian s = value_of_bits k (length s) (from_bytes (ordered endian s))

unfoldable pub value_bytes : ℕ → ℕ → ℤ → List ℕ
value_bytes w endian z = ordered endian (to_bytes w (from_signed w z))

-- ---- raw: the next n samples of w bytes

unfoldable pub raw_samples : NumberKind → ℕ → ℕ → ℕ → List ℕ → Decoded
raw_samples k w endian zero s = stopped 0
raw_samples k w endian (suc n) s = then_samples k w (sample_value k endian (take w s)) (raw_samples k w endian n (drop w s))

-- ---- blanks: bytes 9 to 13 and 32

abbrev pub blank : ℕ → Bool
blank b = between 9 13 b || b == SPACE

-- ---- hex: two digits a byte, either case; blanks are ignored anywhere

-- a text without its blanks
unfoldable pub without_blanks : List ℕ → List ℕ
without_blanks [] = []
without_blanks (b ∷ s) = if blank b then without_blanks s else b ∷ without_blanks s

-- the value of a hex digit in either case
unfoldable pub hex_digit : ℕ → Option ℕ
hex_digit b =
    if is_digit b then some (b - 48)
    else if between 97 102 b then some (b - 97 + 10)
    else if between 65 70 b then some (b - 65 + 10)
    else none

-- bytes that digits write, and the digits after them; or the number of the refusal
pub data HexRun : Type 0 where
  no_hex : ℕ → HexRun
  hex_run : List ℕ → List ℕ → HexRun

abbrev pub with_hex_byte : ℕ → HexRun → HexRun
with_hex_byte b (no_hex n) = no_hex n
with_hex_byte b (hex_run s r) = hex_run (b ∷ s) r

-- a byte by its two digits
abbrev pub hex_pair : Option ℕ → Option ℕ → HexRun → HexRun
hex_pair none low rest = no_hex bad_sample
hex_pair (some h) none rest = no_hex bad_sample
hex_pair (some h) (some l) rest = with_hex_byte (16 * h + l) rest

-- the only digit left
abbrev pub hex_alone : Option ℕ → HexRun
hex_alone none = no_hex bad_sample
hex_alone (some h) = no_hex data_ends_early

-- w bytes of a text without blanks
unfoldable pub hex_bytes : ℕ → List ℕ → HexRun
hex_bytes zero s = hex_run [] s
hex_bytes (suc w) [] = no_hex data_ends_early
hex_bytes (suc w) (b ∷ []) = hex_alone (hex_digit b)
hex_bytes (suc w) (b ∷ c ∷ s) = hex_pair (hex_digit b) (hex_digit c) (hex_bytes w s)

abbrev pub hex_sample : NumberKind → ℕ → ℕ → HexRun → (List ℕ → Decoded) → Decoded
hex_sample k w endian (no_hex n) next = stopped n
hex_sample k w endian (hex_run s r) next = then_samples k w (sample_value k endian s) (next r)

unfoldable pub hex_samples : NumberKind → ℕ → ℕ → ℕ → List ℕ → Decoded
hex_samples k w endian zero s = stopped 0
hex_samples k w endian (suc n) s = hex_sample k w endian (hex_bytes w s) (λ r. hex_samples k w endian n r)

-- ---- text: tokens with blanks between them; blanks before the first one are optional

-- what follows the blanks at the front
unfoldable pub skip_blanks : List ℕ → List ℕ
skip_blanks [] = []
skip_blanks (b ∷ s) = if blank b then skip_blanks s else b ∷ s

-- the token at the front: the bytes up to the next blank; and what follows it
unfoldable pub token : List ℕ → List ℕ
token [] = []
token (b ∷ s) = if blank b then [] else b ∷ token s

unfoldable pub after_token : List ℕ → List ℕ
after_token [] = []
after_token (b ∷ s) = if blank b then b ∷ s else after_token s

abbrev pub signed_by : (ℕ → ℤ) → Option ℕ → Option ℤ
signed_by f none = none
signed_by f (some n) = some (f n)

-- the value of a token: digits, after one `+` or `-` if it has one
unfoldable pub token_value : List ℕ → Option ℤ
token_value [] = none
token_value (b ∷ s) =
    if b == PLUS then signed_by pos (number s)
    else if b == MINUS then signed_by (λ n. neg_ℤ (pos n)) (number s)
    else signed_by pos (number (b ∷ s))

abbrev pub text_sample : NumberKind → ℕ → Option ℤ → Decoded → Decoded
text_sample k w none rest = stopped bad_sample
text_sample k w (some z) rest = then_samples k w z rest

-- n samples of a text that is at its end or starts with a token
unfoldable pub tokens : NumberKind → ℕ → ℕ → List ℕ → Decoded
tokens k w zero s = stopped 0
tokens k w (suc n) [] = stopped data_ends_early
tokens k w (suc n) (b ∷ s) = text_sample k w (token_value (token (b ∷ s))) (tokens k w n (skip_blanks (after_token (b ∷ s))))

abbrev pub text_samples : NumberKind → ℕ → ℕ → List ℕ → Decoded
text_samples k w n s = tokens k w n (skip_blanks s)

-- ---- n samples of the data, by its encoding

unfoldable pub samples_of : ℕ → NumberKind → ℕ → ℕ → ℕ → List ℕ → Decoded
samples_of encoding k w endian n s =
    if encoding == raw then raw_samples k w endian n s
    else if encoding == as_text then text_samples k w n s
    else hex_samples k w endian n (without_blanks s)
