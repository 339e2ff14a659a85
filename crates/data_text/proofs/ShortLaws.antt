-- Laws of tokens of few digits.
-- Assumes nothing.
use Rattle.std.specs.Prelude.{if◌then◌else◌}
use Prim.Native.Nat.{ℕ, zero, suc, ◌+◌, ◌*◌, ◌-◌, ◌^◌, ◌≤◌, ◌<◌, min}
use native.Mathlib.Nat.{pow-suc, pow-le-pow_right}
use native.Mathlib.Numerals.{add-one}
use native.Mathlib.Omega.{arith}
use mathlib.Core.Path.{◌≡◌, refl, sym, ap, ◌∙◌}
use mathlib.Core.Bool.{Bool, true, false, ◌&&◌, ◌||◌, false≢true}
use mathlib.Core.List.{List}
use lib.Dec.{ltb, eqb}
use lib.IntN.{ℤ, pos, negsuc}
use lib.ListN.{length, get_or}
use mir.Syntax.{w64}
use mir.Val.{SFits, bool_byte, to_z, of_z}
use mir.Facts.{to_z-of_z}
use borrow.Author.Tests.{ltb-true, ltb-false, eqb-true, eqb-false, ne_eqb}
use Rattle.format.specs.Bytes.{is_digit}
use Rattle.format.specs.Samples.{blank}
use Rattle.std.specs.Prelude.{Option as Maybe}
use Rattle.data_text.specs.declared.reader.Run.{Run}
use Rattle.data_text.specs.Tokens.{Scan, is_sign, Front, ShortNumber, by_sign, minus, run, digits_at, bound_token, token_at}
use Rattle.data_text.proofs.TokenLaws.{digit_high, scan_none, scan_more, scan_done, token_stop, token_plus, token_minus, token_plain}

pub bit_le : (d : Bool) → bool_byte d ≤ 1
bit_le true = omega arith
bit_le false = omega arith

-- ---- the bytes of a number

-- of the j bytes from `at` on the first n are counted; `more` says that all are
pub record Counting (s : List ℕ) (at : ℕ) (more : Bool) (n j : ℕ) : Type 0 where
  pub some : 0 < j
  pub most : j ≤ 5
  pub few : n ≤ j
  pub first : 0 < n → is_sign (get_or s at 0) ≡ false → is_digit (get_or s at 0) ≡ true
  pub digits : (k : ℕ) → 0 < k → k < n → is_digit (get_or s (at + k) 0) ≡ true
  pub on : more ≡ true → n ≡ j

module _ (s : List ℕ) (at : ℕ) where
  pub counting_one : (x d : Bool) → x ≡ is_sign (get_or s at 0) → d ≡ is_digit (get_or s at 0) → Counting s at (x || d) (bool_byte (x || d)) 1
  counting_one true d p q = record {
    some = omega arith;
    most = omega arith;
    few = omega arith;
    first = λ h e. absurd (false≢true (sym e ∙ sym p));
    digits = λ k l h. absurd (omega arith);
    on = λ e. refl;
  }
  counting_one false true p q = record {
    some = omega arith;
    most = omega arith;
    few = omega arith;
    first = λ h e. sym q;
    digits = λ k l h. absurd (omega arith);
    on = λ e. refl;
  }
  counting_one false false p q = record {
    some = omega arith;
    most = omega arith;
    few = omega arith;
    first = λ h e. absurd (omega arith);
    digits = λ k l h. absurd (omega arith);
    on = λ e. absurd (false≢true e);
  }

  module _ {n j : ℕ} (l : j < 5) where
    stays : {more : Bool} → Counting s at more n j → Counting s at false (n + 0) (j + 1)
    stays c = record {
      some = omega arith;
      most = omega arith;
      few = omega (arith, c.few);
      first = λ h e. c.first (omega arith) e;
      digits = λ k f h. c.digits k f (omega arith);
      on = λ e. absurd (false≢true e);
    }

    goes : Counting s at true n j → is_digit (get_or s (at + j) 0) ≡ true → Counting s at true (n + 1) (j + 1)
    goes c d =
        let q : n ≡ j = c.on refl in
        record {
          some = omega arith;
          most = omega arith;
          few = omega arith;
          first = λ h e. c.first (omega (arith, c.some)) e;
          digits = λ k f h. one k f h (ltb k n) refl;
          on = λ e. omega arith;
        }
      where
        one : (k : ℕ) → 0 < k → k < n + 1 → (t : Bool) → ltb k n ≡ t → is_digit (get_or s (at + k) 0) ≡ true
        one k f h true e = c.digits k f (ltb-true k n e)
        one k f h false e =
            let r : k ≡ j = omega (arith, ltb-false k n e, c.on refl) in
            rw r d

    pub counting_more : (more d : Bool) → Counting s at more n j → d ≡ is_digit (get_or s (at + j) 0)
        → Counting s at (more && d) (n + bool_byte (more && d)) (j + 1)
    counting_more true true c q = goes c (sym q)
    counting_more true false c q = stays c
    counting_more false d c q = stays c

pub counted : {s : List ℕ} {at : ℕ} {more : Bool} {n j : ℕ} → Counting s at more n j → Front s at n
counted c = record { few = omega (arith, c.few, c.most); first = c.first; digits = c.digits }

-- ---- their number

-- the number of a byte that is no digit is not taken
pub sign_no_digit : (b : ℕ) → is_sign b ≡ true → is_digit b ≡ false
sign_no_digit b e = go (eqb b 43) refl
  where
    go : (t : Bool) → eqb b 43 ≡ t → is_digit b ≡ false
    go true q = rw (eqb-true b 43 q) refl
    go false q =
        let k : eqb b 45 ≡ true = rw q at e in
        rw (eqb-true b 45 k) refl

scan_at : {s : List ℕ} {a i m : ℕ} (a' i' m' : ℕ) → Scan s a i m → a' ≡ a → i' ≡ i → m' ≡ m → Scan s a' i' m'
scan_at a' i' m' c p q r = rw (p, q, r) c

ten_more : (j m d : ℕ) → m < 10 ^ j → d ≤ 9 → m * 10 + d < 10 ^ (j + 1)
ten_more j m d h l = rw (add-one, pow-suc) (omega arith)

ten_most : (j : ℕ) → j ≤ 5 → 10 ^ j ≤ 10 ^ 5
ten_most j h = pow-le-pow_right (omega arith) h

abbrev start : List ℕ → ℕ → ℕ
start s at = at + bool_byte (is_sign (get_or s at 0))

-- the digits among the first j of the n bytes from `at` on write m
pub record Numbering (s : List ℕ) (at n j m : ℕ) : Type 0 where
  pub some : 0 < j
  pub most : j ≤ 5
  pub small : m < 10 ^ j
  pub scan : Scan s (start s at) (at + min j n) m

module _ {s : List ℕ} {at n : ℕ} (room : at + 5 ≤ length s) (f : Front s at n) where
  pub numbering_one : bool_byte (is_sign (get_or s at 0)) < n → (d : Bool) → d ≡ is_digit (get_or s at 0) → (m : ℕ)
      → m ≡ (if d then 0 * 10 + (get_or s at 0 - 48) else 0) → Numbering s at n 1 m
  numbering_one h d q m e = go (is_sign (get_or s at 0)) refl
    where
      go : (x : Bool) → is_sign (get_or s at 0) ≡ x → Numbering s at n 1 m
      go true p =
          let b = ap bool_byte p in
          let z : m ≡ 0 = e ∙ ap (λ (y : Bool). if y then 0 * 10 + (get_or s at 0 - 48) else 0) (q ∙ sign_no_digit (get_or s at 0) p) in
          record {
            some = omega arith;
            most = omega arith;
            small = omega arith;
            scan = scan_at (start s at) (at + min 1 n) m (scan_none s (at + 1) (omega arith)) (omega (arith, b)) (omega (arith, b)) z;
          }
      go false p =
          let b = ap bool_byte p in
          let t = f.first (omega arith) p in
          let z : m ≡ 0 * 10 + (get_or s at 0 - 48) = e ∙ ap (λ (y : Bool). if y then 0 * 10 + (get_or s at 0 - 48) else 0) (q ∙ t) in
          record {
            some = omega arith;
            most = omega arith;
            small = omega (arith, digit_high (get_or s at 0) t);
            scan =
                scan_at (start s at) (at + min 1 n) m (scan_more (scan_none s at (omega arith)) (omega arith) t) (omega (arith, b)) (omega (arith, b))
                (omega (arith, digit_high (get_or s at 0) t));
          }

  pub numbering_more : {j m : ℕ} → j < 5 → Numbering s at n j m → (r : ℕ)
      → r ≡ (if ltb j n then m * 10 + (get_or s (at + j) 0 - 48) else m) → Numbering s at n (j + 1) r
  numbering_more {j} {m} l c r e = go (ltb j n) refl
    where
      go : (t : Bool) → ltb j n ≡ t → Numbering s at n (j + 1) r
      go true q =
          let k : j < n = ltb-true j n q in
          let d = f.digits j c.some k in
          let z : r ≡ m * 10 + (get_or s (at + j) 0 - 48) = e ∙ ap (λ (y : Bool). if y then m * 10 + (get_or s (at + j) 0 - 48) else m) q in
          let h = digit_high (get_or s (at + j) 0) d in
          let w = ten_more j m (get_or s (at + j) 0 - 48) c.small (omega arith) in
          record {
            some = omega arith;
            most = omega arith;
            small = rw z w;
            scan =
                scan_at (start s at) (at + min (j + 1) n) r
                (scan_more (scan_at (start s at) (at + j) m c.scan refl (omega arith) refl) (omega arith) d) refl (omega arith)
                (omega (arith, ten_most (j + 1) (omega arith)));
          }
      go false q =
          let k : n ≤ j = ltb-false j n q in
          let z : r ≡ m = e ∙ ap (λ (y : Bool). if y then m * 10 + (get_or s (at + j) 0 - 48) else m) q in
          record {
            some = omega arith;
            most = omega arith;
            small = omega (arith, ten_more j m 0 c.small (omega arith));
            scan = scan_at (start s at) (at + min (j + 1) n) r c.scan refl (omega arith) z;
          }

  pub numbered : {j m : ℕ} → 5 ≤ j → Numbering s at n j m → ShortNumber s at n m
  numbered {j} {m} h c = record {
    small = omega (arith, c.small, ten_most j c.most);
    scan = scan_at (start s at) (at + n) m c.scan refl (omega (arith, c.most, f.few)) refl;
  }

pub numbering_small : {s : List ℕ} {at n j m : ℕ} → Numbering s at n j m → m < 10 ^ 5
numbering_small {s} {at} {n} {j} {m} c = omega (arith, c.small, ten_most j c.most)

-- ---- a token by its sign

module _ (low high : ℕ) (s : List ℕ) (at : ℕ) (low_fits : low ≤ 2 ^ 63) (high_fits : high < 2 ^ 63) (h : at < length s) where
  -- a token is the number from its digits on, bounded by its sign
  pub sign_token : (x : Bool) → x ≡ eqb (get_or s at 0) 45
      → bound_token (by_sign x) (if x then low else high) (digits_at s (start s at)) ≡ token_at low high s at
  sign_token true q =
      let e : get_or s at 0 ≡ 45 = eqb-true (get_or s at 0) 45 (sym q) in
      let b : start s at ≡ at + 1 = ap (λ (y : ℕ). at + bool_byte (is_sign y)) e in
      ap (λ (k : ℕ). bound_token minus low (digits_at s k)) b ∙ token_minus low high s at h low_fits e
  sign_token false q = go (eqb (get_or s at 0) 43) refl (eqb-false (get_or s at 0) 45 (sym q))
    where
      go : (t : Bool) → eqb (get_or s at 0) 43 ≡ t → (get_or s at 0 ≡ 45 → ⊥)
          → bound_token pos high (digits_at s (start s at)) ≡ token_at low high s at
      go true p f =
          let e : get_or s at 0 ≡ 43 = eqb-true (get_or s at 0) 43 p in
          let b : start s at ≡ at + 1 = ap (λ (y : ℕ). at + bool_byte (is_sign y)) e in
          ap (λ (k : ℕ). bound_token pos high (digits_at s k)) b ∙ token_plus low high s at h high_fits e
      go false p f =
          let e : is_sign (get_or s at 0) ≡ false = rw (p, ne_eqb (get_or s at 0) 45 f) refl in
          let b : start s at ≡ at = omega (arith, ap bool_byte e) in
          ap (λ (k : ℕ). bound_token pos high (digits_at s k)) b ∙ token_plain low high s at h high_fits (eqb-false (get_or s at 0) 43 p) f

  -- the same of the digits that are read after a sign, or without one
  pub digits_bound : {x : Bool} {d : Maybe Run} → x ≡ is_sign (get_or s at 0) → d ≡ digits_at s (at + bool_byte x)
      → let m = eqb (get_or s at 0) 45 in bound_token (by_sign m) (if m then low else high) d ≡ token_at low high s at
  digits_bound {x} {d} p e =
      let m = eqb (get_or s at 0) 45 in
      ap (bound_token (by_sign m) (if m then low else high)) (e ∙ ap (λ (y : Bool). digits_at s (at + bool_byte y)) p) ∙ sign_token m refl

  pub short_token : (n m : ℕ) → at + n < length s → bool_byte (is_sign (get_or s at 0)) < n → blank (get_or s (at + n) 0) ≡ true → ShortNumber s at n m
      → (x : Bool) → x ≡ eqb (get_or s at 0) 45 → bound_token (by_sign x) (if x then low else high) (run m (at + n)) ≡ token_at low high s at
  short_token n m room some ends r x q =
      ap (bound_token (by_sign x) (if x then low else high))
      (scan_done r.scan (token_stop s (at + n) room ends) (λ (e : at + n ≡ start s at). omega arith))
      ∙ sign_token x q

-- a number in its bounds has its sample
pub sign_fits : {m low high : ℕ} (x : Bool) → low ≤ 2 ^ 63 → high < 2 ^ 63 → m ≤ (if x then low else high)
    → (x ≡ true → m ≤ 2 ^ 63) × (x ≡ false → m < 2 ^ 63)
sign_fits true l h k = (λ e. omega arith, λ e. absurd (false≢true (sym e)))
sign_fits false l h k = (λ e. absurd (false≢true e), λ e. omega arith)

-- the sample, as it is stored
pub stored : (x : Bool) (m : ℕ) → (x ≡ true → m ≤ 2 ^ 63) × (x ≡ false → m < 2 ^ 63) → (z : ℤ) → z ≡ by_sign x m
    → to_z w64 (of_z w64 z) ≡ by_sign x m
stored true zero h z e = ap (λ (y : ℤ). to_z w64 (of_z w64 y)) e
stored true (suc k) h z e =
    let f : SFits w64 (negsuc k) = record { sfits = omega (arith, h.0 refl) } in
    ap (λ (y : ℤ). to_z w64 (of_z w64 y)) e ∙ to_z-of_z f
stored false m h z e =
    let f : SFits w64 (pos m) = record { sfits = omega (arith, h.1 refl) } in
    ap (λ (y : ℤ). to_z w64 (of_z w64 y)) e ∙ to_z-of_z f
