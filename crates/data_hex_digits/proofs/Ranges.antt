-- What the ranges of the code come to, at every byte: each law is one test, computed over all 256 bytes, and `every_below_lem`.
-- Assumes nothing.
use Prim.Native.Nat.{ℕ, ◌+◌, ◌-◌, ◌%◌, ◌≤◌, ◌<◌}
use mathlib.Core.Path.{◌≡◌, refl, sym, ap, ◌∙◌}
use mathlib.Core.Bool.{Bool, true, false, not, ◌||◌, beq, false≢true}
use mathlib.Core.List.{List}
use mathlib.Core.Option.{Option}
use lib.Dec.{eqb, leb}
use borrow.Author.Tests.{eqb-true, leb-true}
use Rattle.format.specs.Bytes.{bytes, between, every_below, is_in, is_some, or_default}
use Rattle.format.specs.HexDigits.{place_from, digit_named}
use Rattle.format.specs.Samples.{hex_digit}
use Rattle.format.proofs.Bytes.{every_below_lem}
use Rattle.format.proofs.HexDigits.{at_each}

abbrev pub decimals : List ℕ
decimals = bytes "0123456789"

abbrev pub letters : List ℕ
letters = bytes "abcdefABCDEF"

same_test : (a b : Bool) → beq a b ≡ true → a ≡ b
same_test true true e = refl
same_test true false e = absurd (false≢true e)
same_test false true e = absurd (false≢true e)
same_test false false e = refl

-- two tests that agree on all bytes
tests_agree : (p q : ℕ → Bool) → every_below (λ b. beq (p b) (q b)) 256 ≡ true → (b : ℕ) → b < 256 → p b ≡ q b
tests_agree p q h b l = same_test (p b) (q b) (every_below_lem (λ b. beq (p b) (q b)) 256 h b l)

-- where a test holds a second one does, on all bytes
follows : (p q : ℕ → Bool) → every_below (λ b. not (p b) || q b) 256 ≡ true → (b : ℕ) → b < 256 → p b ≡ true → q b ≡ true
follows p q h b l = go (p b) (every_below_lem (λ b. not (p b) || q b) 256 h b l)
  where
    go : (t : Bool) → (not t || q b) ≡ true → t ≡ true → q b ≡ true
    go true e f = e
    go false e f = absurd (false≢true f)

-- ---- told

pub decimal_told : (b : ℕ) → b < 256 → between 48 57 b ≡ is_in b decimals
unfolding every_below is_in
decimal_told = tests_agree (λ b. between 48 57 b) (λ b. is_in b decimals) refl

pub letter_told : (b : ℕ) → b < 256 → (between 97 102 b || between 65 70 b) ≡ is_in b letters
unfolding every_below is_in
letter_told = tests_agree (λ b. between 97 102 b || between 65 70 b) (λ b. is_in b letters) refl

digit_told : (b : ℕ) → b < 256 → (is_in b decimals || is_in b letters) ≡ is_some (digit_named b)
unfolding every_below is_in place_from
digit_told = tests_agree (λ b. is_in b decimals || is_in b letters) (λ b. is_some (digit_named b)) refl

-- a test on the value of a byte, where it is the one by the digits as text, is the one by the ranges too
module _ (b : ℕ) (h : b < 256) where
  both {ℓ} : {A : Type ℓ} (f : Option ℕ → A) (r : A) → r ≡ f (digit_named b) → (r ≡ f (hex_digit b)) × (r ≡ f (digit_named b))
  both f r e = (e ∙ sym (ap f (at_each b h)), e)

  pub told : (d l : Bool) → d ≡ is_in b decimals → l ≡ is_in b letters → ((d || l) ≡ is_some (hex_digit b)) × ((d || l) ≡ is_some (digit_named b))
  told d l p q = both is_some (d || l) (rw (p, q) (digit_told b h))

-- ---- valued

pub decimal_least : (b : ℕ) → b < 256 → is_in b decimals ≡ true → 48 ≤ b
unfolding every_below is_in
decimal_least b l h = leb-true 48 b (follows (λ b. is_in b decimals) (λ b. leb 48 b) refl b l h)

-- the value v of the bytes of which the test holds
valued : (p : ℕ → Bool) (v : ℕ → ℕ) → every_below (λ b. not (p b) || eqb (v b) (or_default 255 (digit_named b))) 256 ≡ true → (b : ℕ) → b < 256 → p b ≡ true → v b ≡ or_default 255 (digit_named b)
valued p v h b l e = eqb-true (v b) (or_default 255 (digit_named b)) (follows p (λ b. eqb (v b) (or_default 255 (digit_named b))) h b l e)

decimal_valued : (b : ℕ) → b < 256 → is_in b decimals ≡ true → b - 48 ≡ or_default 255 (digit_named b)
unfolding every_below is_in place_from
decimal_valued = valued (λ b. is_in b decimals) (λ b. b - 48) refl

letter_valued : (b : ℕ) → b < 256 → is_in b letters ≡ true → b % 32 + 9 ≡ or_default 255 (digit_named b)
unfolding every_below is_in place_from
letter_valued = valued (λ b. is_in b letters) (λ b. b % 32 + 9) refl

other_valued : (b : ℕ) → b < 256 → not (is_in b decimals || is_in b letters) ≡ true → 255 ≡ or_default 255 (digit_named b)
unfolding every_below is_in place_from
other_valued = valued (λ b. not (is_in b decimals || is_in b letters)) (λ b. 255) refl

module _ (b : ℕ) (h : b < 256) where
  -- v is the value that a byte has
  abbrev pub Valued : ℕ → Type 0
  Valued v = (v ≡ or_default 255 (hex_digit b)) × (v ≡ or_default 255 (digit_named b))

  pub of_decimal : is_in b decimals ≡ true → Valued (b - 48)
  of_decimal e = both b h (or_default 255) (b - 48) (decimal_valued b h e)

  pub of_letter : is_in b letters ≡ true → Valued (b % 32 + 9)
  of_letter e = both b h (or_default 255) (b % 32 + 9) (letter_valued b h e)

  pub of_other : is_in b decimals ≡ false → is_in b letters ≡ false → Valued 255
  of_other e f = both b h (or_default 255) 255 (other_valued b h (rw (e, f)))
