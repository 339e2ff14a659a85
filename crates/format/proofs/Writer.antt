-- Laws of the writer: decimal and hex text are read back, and the samples of written data are the samples given.
-- Assumes nothing.
use Rattle.std.specs.Prelude.{if◌then◌else◌}
use Prim.Native.Nat.{ℕ, zero, suc, ◌+◌, ◌*◌, ◌/◌, ◌%◌, ◌^◌, ◌≤◌, ◌<◌, ◌-◌}
use native.Mathlib.Nat.{pow-suc}
use native.Mathlib.Omega.{arith}
use mathlib.Core.Path.{◌≡◌, refl, sym, ap, ◌∙◌}
use mathlib.Core.Bool.{Bool, true, false, ◌&&◌, and_assoc, and-false, and-eq-true_iff}
use mathlib.Core.List.{List, [], ◌∷◌, ◌++◌, append_assoc, append-nil}
use mathlib.Core.Option.{some}
use lib.Dec.{leb, ltb, eqb}
use lib.IntN.{ℤ, pos, negsuc}
use lib.ListN.{length, length-append}
use lib.Seq.{take_at, drop_at}
use borrow.Author.Tests.{ltb-true, ltb-false, leb-true, le-leb, lt-leb, ne_eqb}
use Rattle.format.specs.Bytes.{between, is_digit, every, every_below, LF}
use Rattle.format.specs.Words.{digits_from, number}
use Rattle.format.specs.Descriptors.{NumberKind, raw, as_text}
use Rattle.format.specs.Samples.{in_type, value_bytes, raw_samples, blank, without_blanks, hex_digit, hex_run, hex_bytes, hex_samples, skip_blanks, token, after_token, signed_by, token_value, text_sample, tokens, text_samples, samples_of}
use Rattle.format.specs.HexDigits.{same_value}
use Rattle.format.specs.Writer.{digit, by_digits, decimal_from, decimal, signed_decimal, hex_letter, hex_text, raw_data, text_data, data_bytes, all_in_type}
use Rattle.format.proofs.Bytes.{every_below_lem}
use Rattle.format.proofs.HexDigits.{same_value_lem}
use Rattle.format.proofs.Samples.{AllBytes, length_value_bytes, value_bytes_bytes, value_of_bytes}

-- ---- tests on a byte

between_true : (a z b : ℕ) → a ≤ b → b ≤ z → between a z b ≡ true
between_true a z b h l = rw (le-leb a b h, le-leb b z l)

between_above : (a z b : ℕ) → z < b → between a z b ≡ false
between_above a z b h = rw (lt-leb b z h) (and-false (leb a b))

-- a byte above the space is no blank
not_blank : (b : ℕ) → 32 < b → blank b ≡ false
not_blank b h = rw (between_above 9 13 b (omega arith), ne_eqb b 32 (omega arith))

-- ---- decimal numbers

is_digit_lem : (d : ℕ) → d < 10 → is_digit (digit d) ≡ true
is_digit_lem d h = between_true 48 57 (48 + d) (omega arith) (omega arith)

-- induction on the digits of a number: one digit, and one digit more; the bound n of `decimal_from` is enough for n
module _ (P : ℕ → List ℕ → Type 0)
    (one : (d : ℕ) → d < 10 → P d (digit d ∷ []))
    (more : (n : ℕ) (s : List ℕ) → 10 ≤ n → P (n / 10) s → P n (s ++ (digit (n % 10) ∷ []))) where
  of_bounded : (m n : ℕ) → n ≤ m → P n (decimal_from m n)
  unfolding decimal_from
  of_bounded zero n h = one n (omega arith)
  of_bounded (suc m) n h = go (ltb n 10) refl (of_bounded m (n / 10) (omega arith))
    where
      go : (t : Bool) → ltb n 10 ≡ t → P (n / 10) (decimal_from m (n / 10)) → P n (by_digits t n (λ k. decimal_from m k))
      go true q p = one n (ltb-true n 10 q)
      go false q p = more n (decimal_from m (n / 10)) (ltb-false n 10 q) p

  of_decimal : (n : ℕ) → P n (decimal n)
  of_decimal n = of_bounded n n (omega arith)

-- the number that one digit more writes
digits_more : (a d : ℕ) (r : List ℕ) → d < 10 → digits_from a (digit d ∷ r) ≡ digits_from (a * 10 + d) r
unfolding digits_from
digits_more a d r h =
    let q : 48 + d - 48 ≡ d = omega arith in
    rw (is_digit_lem d h, q)

-- the number that the digits of n write, and r after them
digits_past : (n : ℕ) (r : List ℕ) → digits_from 0 (decimal n ++ r) ≡ digits_from n r
digits_past = of_decimal (λ n s. (r : List ℕ) → digits_from 0 (s ++ r) ≡ digits_from n r) one more
  where
    one : (d : ℕ) → d < 10 → (r : List ℕ) → digits_from 0 (digit d ∷ r) ≡ digits_from d r
    one d h r =
        let q : 0 * 10 + d ≡ d = omega arith in
        digits_more 0 d r h ∙ rw q

    more : (n : ℕ) (s : List ℕ) → 10 ≤ n → ((r : List ℕ) → digits_from 0 (s ++ r) ≡ digits_from (n / 10) r) → (r : List ℕ) → digits_from 0 ((s ++ (digit (n % 10) ∷ [])) ++ r) ≡ digits_from n r
    more n s h p r =
        let q : n / 10 * 10 + n % 10 ≡ n = omega arith in
        rw append_assoc (p (digit (n % 10) ∷ r) ∙ digits_more (n / 10) (n % 10) r (omega arith) ∙ rw q)

every_append : (p : ℕ → Bool) (s t : List ℕ) → every p (s ++ t) ≡ every p s && every p t
unfolding every
every_append p [] t = refl
every_append p (b ∷ s) t = rw (every_append p s t, and_assoc)

-- every byte of a decimal number is a digit
pub decimal_digits : (n : ℕ) → every is_digit (decimal n) ≡ true
unfolding every
decimal_digits = of_decimal (λ n s. every is_digit s ≡ true) (λ d h. rw (is_digit_lem d h)) (λ n s h p. rw (every_append is_digit s, p, is_digit_lem (n % 10) (omega arith)))

-- a decimal number has one digit or more
pub decimal_not_empty : (n : ℕ) → 1 ≤ length (decimal n)
decimal_not_empty = of_decimal (λ n s. 1 ≤ length s) (λ d h. omega arith) (λ n s h p. simp length-append (omega arith))

-- a number below 10 to the k + 1 has at most k + 1 digits
pub digits_few : (n k : ℕ) → n < 10 ^ suc k → length (decimal n) ≤ suc k
digits_few = of_decimal (λ n s. (k : ℕ) → n < 10 ^ suc k → length s ≤ suc k) (λ d h k l. omega arith) more
  where
    more : (n : ℕ) (s : List ℕ) → 10 ≤ n → ((k : ℕ) → n / 10 < 10 ^ suc k → length s ≤ suc k) → (k : ℕ) → n < 10 ^ suc k → length (s ++ (digit (n % 10) ∷ [])) ≤ suc k
    more n s h p zero l = absurd (omega (arith, pow-suc 10 0))
    more n s h p (suc k) l = simp length-append (omega (arith, p k (omega (arith, pow-suc 10 (suc k)))))

-- of a text that is not empty, `number` is `digits_from 0`
pub number_from : (s : List ℕ) → 1 ≤ length s → number s ≡ digits_from 0 s
unfolding number
number_from [] h = absurd (omega arith)
number_from (b ∷ s) h = refl

-- a number is read back
pub number_of_decimal : (n : ℕ) → number (decimal n) ≡ some n
unfolding digits_from
number_of_decimal n = number_from (decimal n) (decimal_not_empty n) ∙ ap (digits_from 0) (sym (append-nil (decimal n))) ∙ digits_past n []

-- ---- decimal samples

digit_low : (b : ℕ) → is_digit b ≡ true → 48 ≤ b
digit_low b e = leb-true 48 b ((and-eq-true_iff (leb 48 b) (leb b 57)).0 e).0

-- a text of digits has no sign
value_of_digits : (s : List ℕ) → every is_digit s ≡ true → token_value s ≡ signed_by pos (number s)
unfolding every number token_value
value_of_digits [] e = refl
value_of_digits (b ∷ s) e =
    let l : 48 ≤ b = digit_low b ((and-eq-true_iff (is_digit b) (every is_digit s)).0 e).0 in
    rw (ne_eqb b 43 (omega arith), ne_eqb b 45 (omega arith))

-- a sample is read back
pub value_of_decimal : (z : ℤ) → token_value (signed_decimal z) ≡ some z
unfolding token_value
value_of_decimal (pos n) = value_of_digits (decimal n) (decimal_digits n) ∙ rw (number_of_decimal n)
value_of_decimal (negsuc n) = rw (number_of_decimal (suc n))

-- ---- hex

-- a hex digit is no blank
pub hex_letter_not_blank : (n : ℕ) → blank (hex_letter n) ≡ false
hex_letter_not_blank n = go (ltb n 10)
  where
    go : (t : Bool) → blank (if t then 48 + n else 97 + (n - 10)) ≡ false
    go true = not_blank (48 + n) (omega arith)
    go false = not_blank (97 + (n - 10)) (omega arith)

-- a hex digit is read back
pub hex_digit_of_letter : (n : ℕ) → n < 16 → hex_digit (hex_letter n) ≡ some n
unfolding every_below hex_digit
hex_digit_of_letter n h = same_value_lem (hex_digit (hex_letter n)) (some n) (every_below_lem (λ n. same_value (hex_digit (hex_letter n)) (some n)) 16 refl n h)

-- bytes are read back from their hex text, and r is left
pub hex_of_text : (s r : List ℕ) → AllBytes s → hex_bytes (length s) (hex_text s ++ r) ≡ hex_run s r
unfolding hex_bytes hex_text
hex_of_text [] r p = refl
hex_of_text (b ∷ s) r p =
    let e : 16 * (b / 16) + b % 16 ≡ b = omega arith in
    rw (hex_digit_of_letter (b / 16) (omega arith), hex_digit_of_letter (b % 16) (omega arith), hex_of_text s r p.1) (ap (λ (c : ℕ). hex_run (c ∷ s) r) e)

-- two digits a byte
pub hex_length : (s : List ℕ) → length (hex_text s) ≡ 2 * length s
unfolding hex_text
hex_length [] = omega arith
hex_length (b ∷ s) = omega (arith, hex_length s)

-- hex text of bytes after bytes
hex_append : (s t : List ℕ) → hex_text (s ++ t) ≡ hex_text s ++ hex_text t
unfolding hex_text
hex_append [] t = refl
hex_append (b ∷ s) t = rw (hex_append s t)

-- nothing of hex text is a blank
pub hex_without_blanks : (s r : List ℕ) → without_blanks (hex_text s ++ r) ≡ hex_text s ++ without_blanks r
unfolding hex_text without_blanks
hex_without_blanks [] r = refl
hex_without_blanks (b ∷ s) r = rw (hex_letter_not_blank (b / 16), hex_letter_not_blank (b % 16), hex_without_blanks s r)

-- ---- samples as lines of text

-- no byte of the text is a blank
abbrev NoBlanks : List ℕ → Type 0
NoBlanks [] = Unit {0}
NoBlanks (b ∷ s) = (blank b ≡ false) × NoBlanks s

digits_no_blanks : (s : List ℕ) → every is_digit s ≡ true → NoBlanks s
unfolding every
digits_no_blanks [] e = tt
digits_no_blanks (b ∷ s) e =
    let p = (and-eq-true_iff (is_digit b) (every is_digit s)).0 e in
    (not_blank b (omega (arith, digit_low b p.0)), digits_no_blanks s p.1)

sample_no_blanks : (z : ℤ) → NoBlanks (signed_decimal z)
sample_no_blanks (pos n) = digits_no_blanks (decimal n) (decimal_digits n)
sample_no_blanks (negsuc n) = (refl, digits_no_blanks (decimal (suc n)) (decimal_digits (suc n)))

sample_not_empty : (z : ℤ) → 1 ≤ length (signed_decimal z)
sample_not_empty (pos n) = decimal_not_empty n
sample_not_empty (negsuc n) = omega arith

-- a token reaches to the end of its line
token_of_line : (s r : List ℕ) → NoBlanks s → token (s ++ LF ∷ r) ≡ s
unfolding token
token_of_line [] r p = refl
token_of_line (b ∷ s) r p = rw (p.0, token_of_line s r p.1)

after_line : (s r : List ℕ) → NoBlanks s → after_token (s ++ LF ∷ r) ≡ LF ∷ r
unfolding after_token
after_line [] r p = refl
after_line (b ∷ s) r p = rw (p.0, after_line s r p.1)

-- a line that is one token, and what is read after it
tokens_of_line : (k : NumberKind) (w n : ℕ) (s r : List ℕ) → 1 ≤ length s → NoBlanks s → text_samples k w (suc n) (s ++ LF ∷ r) ≡ text_sample k w (token_value s) (text_samples k w n r)
unfolding tokens skip_blanks
tokens_of_line k w n [] r h p = absurd (omega arith)
tokens_of_line k w n (b ∷ s) r h p = rw (p.0, token_of_line (b ∷ s) r p, after_line (b ∷ s) r p)

-- ---- the data of samples is read back

-- raw data, and r after it
pub raw_read_back : (k : NumberKind) (w endian : ℕ) (zs : List ℤ) (r : List ℕ) → 1 ≤ w → all_in_type k w zs ≡ true
    → raw_samples k w endian (length zs) (raw_data w endian zs ++ r) ≡ record { number = 0; seen = zs }
unfolding all_in_type raw_samples raw_data
raw_read_back k w endian [] r h e = refl
raw_read_back k w endian (z ∷ zs) r h e =
    let p = (and-eq-true_iff (in_type k w z) (all_in_type k w zs)).0 e in
    let s = value_bytes w endian z in
    let l : length s ≡ w = length_value_bytes w endian z in
    rw (append_assoc, take_at s (raw_data w endian zs ++ r) w l, drop_at s (raw_data w endian zs ++ r) w l, value_of_bytes k w endian z h p.0, p.0, raw_read_back k w endian zs r h p.1)

-- hex text without blanks, and r after it
hex_samples_back : (k : NumberKind) (w endian : ℕ) (zs : List ℤ) (r : List ℕ) → 1 ≤ w → all_in_type k w zs ≡ true
    → hex_samples k w endian (length zs) (hex_text (raw_data w endian zs) ++ r) ≡ record { number = 0; seen = zs }
unfolding all_in_type hex_samples raw_data
hex_samples_back k w endian [] r h e = refl
hex_samples_back k w endian (z ∷ zs) r h e =
    let p = (and-eq-true_iff (in_type k w z) (all_in_type k w zs)).0 e in
    let s = value_bytes w endian z in
    let t = hex_text (raw_data w endian zs) ++ r in
    let q : hex_bytes w (hex_text s ++ t) ≡ hex_run s t = rw (length_value_bytes w endian z) at (hex_of_text s t (value_bytes_bytes w endian z)) in
    rw (hex_append, append_assoc, q, value_of_bytes k w endian z h p.0, p.0, hex_samples_back k w endian zs r h p.1)

-- hex data: blanks are taken out, also the LF that closes it
pub hex_read_back : (k : NumberKind) (w endian : ℕ) (zs : List ℤ) → 1 ≤ w → all_in_type k w zs ≡ true
    → hex_samples k w endian (length zs) (without_blanks (hex_text (raw_data w endian zs) ++ LF ∷ [])) ≡ record { number = 0; seen = zs }
unfolding without_blanks
hex_read_back k w endian zs h e = rw (hex_without_blanks (raw_data w endian zs) (LF ∷ [])) (hex_samples_back k w endian zs [] h e)

-- text data
pub text_read_back : (k : NumberKind) (w : ℕ) (zs : List ℤ) → all_in_type k w zs ≡ true → text_samples k w (length zs) (text_data zs) ≡ record { number = 0; seen = zs }
unfolding all_in_type tokens text_data
text_read_back k w [] e = refl
text_read_back k w (z ∷ zs) e =
    let p = (and-eq-true_iff (in_type k w z) (all_in_type k w zs)).0 e in
    tokens_of_line k w (length zs) (signed_decimal z) (text_data zs) (sample_not_empty z) (sample_no_blanks z) ∙ rw (value_of_decimal z, p.0, text_read_back k w zs p.1)

-- the data that is written reads back as the samples given, in every encoding
pub data_read_back : (encoding : ℕ) (k : NumberKind) (w endian : ℕ) (zs : List ℤ) → 1 ≤ w → all_in_type k w zs ≡ true
    → samples_of encoding k w endian (length zs) (data_bytes encoding w endian zs) ≡ record { number = 0; seen = zs }
unfolding samples_of data_bytes
data_read_back encoding k w endian zs h e = go (eqb encoding raw) (eqb encoding as_text) refl refl
  where
    go : (a b : Bool) → eqb encoding raw ≡ a → eqb encoding as_text ≡ b
        → samples_of encoding k w endian (length zs) (data_bytes encoding w endian zs) ≡ record { number = 0; seen = zs }
    go true b p q = rw p (rw append-nil at (raw_read_back k w endian zs [] h e))
    go false true p q = rw (p, q) (text_read_back k w zs e)
    go false false p q = rw (p, q) (hex_read_back k w endian zs h e)
