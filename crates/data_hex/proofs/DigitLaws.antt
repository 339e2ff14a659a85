-- Laws of hex digits and of the bytes that they write, each stated once, over the width.
-- Assumes nothing.
use Rattle.std.specs.Prelude.{if◌then◌else◌}
use Prim.Native.Nat.{ℕ, zero, suc, ◌+◌, ◌-◌, ◌≤◌, ◌<◌}
use native.Mathlib.Numerals.{add-one}
use native.Mathlib.Omega.{arith}
use mathlib.Core.Path.{◌≡◌, refl, sym, ap, ◌∙◌}
use mathlib.Core.Bool.{Bool, true, false, ◌&&◌, ◌||◌, beq, false≢true}
use mathlib.Core.List.{List, [], ◌∷◌}
use mathlib.Core.Option.{none, some}
use lib.Dec.{leb}
use lib.ListN.{length, drop, get_or, drop_of_length-le}
use lib.Seq.{drop-cons, drop-drop}
use borrow.Author.Tests.{leb-true, leb-false, lt-leb, ne_eqb}
use Rattle.format.specs.Bytes.{between, is_some, or_default}
use Rattle.std.specs.Prelude.{Ok, Err}
use Rattle.format.specs.declared.reason.Reason.TheVariants.{BadSample, DataEndsEarly}
use Rattle.format.specs.Refusals.{bad_sample, data_ends_early}
use Rattle.format.specs.Samples.{hex_digit, blank, without_blanks}
use Rattle.format.proofs.Bytes.{and_left, and_right}
use Rattle.data_hex.specs.Forms.{digits_at, digits_refusal, Passed, Reached, Scanned, digit_value, one_if}

-- ---- digits

upper : (a z b : ℕ) → between a z b ≡ true → b ≤ z
upper a z b e = leb-true b z (and_right (leb a b) (leb b z) e)

low_none : (b : ℕ) → b < 48 → hex_digit b ≡ none
unfolding hex_digit
low_none b h = rw (lt-leb 48 b h, lt-leb 97 b (omega arith), lt-leb 65 b (omega arith))

module _ (b : ℕ) where
  -- the value of a digit is at most 15
  pub digit_value_lem : is_some (hex_digit b) ≡ true → digit_value b ≤ 15
  unfolding hex_digit
  digit_value_lem = go (between 48 57 b) (between 97 102 b) (between 65 70 b) refl refl refl
    where
      go : (p q r : Bool) → between 48 57 b ≡ p → between 97 102 b ≡ q → between 65 70 b ≡ r
          → is_some (if p then some (b - 48) else if q then some (b - 97 + 10) else if r then some (b - 65 + 10) else none) ≡ true
          → or_default 255 (if p then some (b - 48) else if q then some (b - 97 + 10) else if r then some (b - 65 + 10) else none) ≤ 15
      go true q r e f g h = omega (arith, upper 48 57 b e)
      go false true r e f g h = omega (arith, upper 97 102 b f)
      go false false true e f g h = omega (arith, upper 65 70 b g)
      go false false false e f g h = absurd (false≢true h)

  pub digit_high : is_some (hex_digit b) ≡ true → 47 < b
  digit_high h = go (leb 48 b) refl
    where
      go : (t : Bool) → leb 48 b ≡ t → 47 < b
      go true e = omega (arith, leb-true 48 b e)
      go false e = absurd (false≢true (sym (ap is_some (low_none b (omega (arith, leb-false 48 b e)))) ∙ h))

  -- a byte above the blanks is none, and a digit is above them
  pub high_solid : 32 < b → blank b ≡ false
  high_solid h = rw (lt-leb b 13 (omega arith), ne_eqb b 32 (λ e. omega arith)) (go (leb 9 b))
    where
      go : (t : Bool) → ((t && false) || false) ≡ false
      go true = refl
      go false = refl

  digit_solid : is_some (hex_digit b) ≡ true → blank b ≡ false
  digit_solid h = high_solid (omega (arith, digit_high h))

-- ---- m digits

-- where no refusal is told the test held
pub not_refused : (t : Bool) (n : ℕ) → (if t then n else bad_sample) ≡ 0 → (t ≡ true) × (n ≡ 0)
not_refused true n e = (refl, e)
not_refused false n e = absurd (omega arith)

pub refusal_add : (a r : ℕ) (s : List ℕ) → digits_refusal a s ≡ 0 → digits_refusal (a + r) s ≡ digits_refusal r (drop a s)
unfolding digits_refusal
refusal_add zero r s e =
    let z : zero + r ≡ r = omega arith in
    rw z
refusal_add (suc a) r [] e = absurd (omega arith)
refusal_add (suc a) r (b ∷ s) e =
    let z : suc a + r ≡ suc (a + r) = omega arith in
    let p = not_refused (is_some (hex_digit b)) (digits_refusal a s) e in
    rw (z, p.0) (refusal_add a r s p.1)

refusal_stays : (a r : ℕ) (s : List ℕ) → (digits_refusal a s ≡ 0 → ⊥) → digits_refusal (a + r) s ≡ digits_refusal a s
unfolding digits_refusal
refusal_stays zero r s n = absurd (n refl)
refusal_stays (suc a) r [] n =
    let z : suc a + r ≡ suc (a + r) = omega arith in
    rw z
refusal_stays (suc a) r (b ∷ s) n =
    let z : suc a + r ≡ suc (a + r) = omega arith in
    rw z (go (is_some (hex_digit b)) n (λ q. refusal_stays a r s q))
  where
    go : (t : Bool) → ((if t then digits_refusal a s else bad_sample) ≡ 0 → ⊥) → ((digits_refusal a s ≡ 0 → ⊥) → digits_refusal (a + r) s ≡ digits_refusal a s) → (if t then digits_refusal (a + r) s else bad_sample) ≡ (if t then digits_refusal a s else bad_sample)
    go true q f = f q
    go false q f = refl

pub refusal_length : (m : ℕ) (s : List ℕ) → digits_refusal m s ≡ 0 → m ≤ length s
unfolding digits_refusal
refusal_length zero s e = omega arith
refusal_length (suc m) [] e = absurd (omega arith)
refusal_length (suc m) (b ∷ s) e = omega (arith, refusal_length m s (not_refused (is_some (hex_digit b)) (digits_refusal m s) e).1)

module _ (s : List ℕ) {a m : ℕ} (h : a ≤ m) where
  split : m ≡ a + (m - a)
  split = omega arith

  pub refusal_first : digits_refusal m s ≡ 0 → digits_refusal a s ≡ 0
  refusal_first e = go (digits_refusal a s) refl
    where
      go : (c : ℕ) → digits_refusal a s ≡ c → digits_refusal a s ≡ 0
      go zero q = q
      go (suc c) q =
          let z : digits_refusal (a + (m - a)) s ≡ digits_refusal a s = refusal_stays a (m - a) s (λ n. omega arith) in
          let y : digits_refusal m s ≡ digits_refusal (a + (m - a)) s = ap (λ (k : ℕ). digits_refusal k s) split in
          omega arith

  pub refusal_after : digits_refusal a s ≡ 0 → digits_refusal m s ≡ digits_refusal (m - a) (drop a s)
  refusal_after e = ap (λ (k : ℕ). digits_refusal k s) split ∙ refusal_add a (m - a) s e

  pub refusal_last : (digits_refusal a s ≡ 0 → ⊥) → digits_refusal m s ≡ digits_refusal a s
  refusal_last n = ap (λ (k : ℕ). digits_refusal k s) split ∙ refusal_stays a (m - a) s n

-- ---- from place to place

-- the byte at a place, and the digits after it
pub digits_here : (s : List ℕ) (i : ℕ) → i < length s → digits_at s i ≡ (if blank (get_or s i 0) then digits_at s (i + 1) else get_or s i 0 ∷ digits_at s (i + 1))
unfolding without_blanks
digits_here s i h = ap without_blanks (drop-cons s i 0 h) ∙ rw (add-one i)

pub digits_end : (s : List ℕ) (i : ℕ) → length s ≤ i → digits_at s i ≡ []
unfolding without_blanks
digits_end s i h = ap without_blanks (drop_of_length-le s {i = i} h)

module _ (s : List ℕ) (at : ℕ) where
  passed_none : Passed s at 0 at
  unfolding digits_refusal
  passed_none = record { fine = refl; rest = refl }

  module _ (c i : ℕ) (p : Passed s at c i) where
    -- the digit after the c digits, as the digit at i
    next_refusal : digits_refusal (c + 1) (digits_at s at) ≡ digits_refusal 1 (digits_at s i)
    next_refusal = refusal_add c 1 (digits_at s at) p.fine ∙ ap (digits_refusal 1) p.rest

    passed_end : length s ≤ i → digits_refusal (c + 1) (digits_at s at) ≡ data_ends_early
    unfolding digits_refusal
    passed_end h = next_refusal ∙ rw (digits_end s i h)

    passed_chain : (e j : ℕ) → Passed s i e j → Passed s at (c + e) j
    passed_chain e j q = record {
      fine = refusal_add c e (digits_at s at) p.fine ∙ ap (digits_refusal e) p.rest ∙ q.fine;
      rest = sym (drop-drop e c (digits_at s at)) ∙ ap (drop e) p.rest ∙ q.rest;
    }

    module _ (h : i < length s) where
      passed_bad : (is_some (hex_digit (get_or s i 0)) || blank (get_or s i 0)) ≡ false → digits_refusal (c + 1) (digits_at s at) ≡ bad_sample
      unfolding digits_refusal
      passed_bad f = next_refusal ∙ ap (digits_refusal 1) (digits_here s i h) ∙ go (is_some (hex_digit (get_or s i 0))) (blank (get_or s i 0)) refl f
        where
          go : (d b : Bool) → is_some (hex_digit (get_or s i 0)) ≡ d → (d || b) ≡ false → digits_refusal 1 (if b then digits_at s (i + 1) else get_or s i 0 ∷ digits_at s (i + 1)) ≡ bad_sample
          go true b e f = absurd (false≢true (sym f))
          go false true e f = absurd (false≢true (sym f))
          go false false e f = rw e

      -- over a digit or a blank
      passed_more : (is_some (hex_digit (get_or s i 0)) || blank (get_or s i 0)) ≡ true → Passed s at (c + one_if (is_some (hex_digit (get_or s i 0)))) (i + 1)
      unfolding digits_refusal
      passed_more f = passed_chain (one_if (is_some (hex_digit (get_or s i 0)))) (i + 1) (go (is_some (hex_digit (get_or s i 0))) (blank (get_or s i 0)) refl refl f)
        where
          over_digit : is_some (hex_digit (get_or s i 0)) ≡ true → Passed s i 1 (i + 1)
          over_digit e =
              let q : digits_at s i ≡ get_or s i 0 ∷ digits_at s (i + 1) = digits_here s i h ∙ rw (digit_solid (get_or s i 0) e) in
              record { fine = rw (q, e); rest = rw q }

          go : (d b : Bool) → is_some (hex_digit (get_or s i 0)) ≡ d → blank (get_or s i 0) ≡ b → (d || b) ≡ true → Passed s i (one_if d) (i + 1)
          go true b e g f = over_digit e
          go false true e g f = record { fine = refl; rest = digits_here s i h ∙ rw g }
          go false false e g f = absurd (false≢true f)

-- ---- 64 bytes

module _ (s : List ℕ) (at : ℕ) where
  -- j bytes are counted, with c digits among them; t: nothing else than digits and blanks was there
  pub record Counting (c : ℕ) (t : Bool) (j : ℕ) : Type 0 where
    pub few : c ≤ j
    pub good : t ≡ true → Passed s at c (at + j)

  pub counting_none : Counting 0 true 0
  counting_none =
      let z : at + 0 ≡ at = omega arith in
      record { few = omega arith; good = λ e. rw z (passed_none s at) }

  pub counting_more :
      {c : ℕ} {t : Bool} {j : ℕ} → Counting c t j → at + j < length s → (d b : Bool) → d ≡ is_some (hex_digit (get_or s (at + j) 0)) →
      b ≡ blank (get_or s (at + j) 0) → (o : ℕ) → (o ≡ one_if d) × (o ≤ 1) → Counting (c + o) (t && (d || b)) (j + 1)
  counting_more {c} {t} {j} p h d b e f o q =
      let z : at + (j + 1) ≡ at + j + 1 = omega arith in
      record {
        few = omega (arith, p.few, q.1);
        good = λ g. rw (z, q.0, e) (passed_more s at c (at + j) (p.good (and_left t (d || b) g)) h (rw (e, f) at (and_right t (d || b) g)));
      }

-- ---- the scan

pub same_test : (a b : Bool) → beq a b ≡ true → a ≡ b
same_test true true e = refl
same_test true false e = absurd (false≢true e)
same_test false true e = absurd (false≢true e)
same_test false false e = refl

pub two_true : (m a n b : ℕ) → (leb m a && leb n b) ≡ true → (m ≤ a) × (n ≤ b)
two_true m a n b e = (leb-true m a (and_left (leb m a) (leb n b) e), leb-true n b (and_right (leb m a) (leb n b) e))

pub both_true : (m a b : ℕ) → (leb m a && leb m b) ≡ true → (m ≤ a) × (m ≤ b)
both_true m a b e = two_true m a m b e

module _ (s : List ℕ) (need : ℕ) where
  pub reached_none : Reached s need 0 0
  reached_none = record { few = omega arith; within = omega arith; passed = passed_none s 0 }

  module _ (at c : ℕ) (r : Reached s need at c) where
    module _ (e : (leb 64 (length s - at) && leb 64 (need - c)) ≡ true) where
      -- a block more
      pub reached_room : (at + 64 ≤ length s) × (c + 64 ≤ need)
      reached_room = let p = both_true 64 (length s - at) (need - c) e in (omega arith, omega arith)

      pub reached_block : (d : ℕ) → (d ≤ 64) × Passed s at d (at + 64) → Reached s need (at + 64) (c + d)
      reached_block d p = record { few = omega (arith, reached_room); within = reached_room.0; passed = passed_chain s 0 c at r.passed d (at + 64) p.1 }

    -- a byte more
    module _ (h : c < need) where
      pub reached_end : length s ≤ at → Scanned s need (record { digits = c; outcome = Err DataEndsEarly })
      reached_end l = record { fine = r.passed.fine; whole = λ z. absurd (omega arith); stops = λ z. (h, passed_end s 0 c at r.passed l) }

      module _ (l : at < length s) (d b : Bool) (e : d ≡ is_some (hex_digit (get_or s at 0))) (f : b ≡ blank (get_or s at 0)) where
        pub reached_bad : (d || b) ≡ false → Scanned s need (record { digits = c; outcome = Err BadSample })
        reached_bad g = record { fine = r.passed.fine; whole = λ z. absurd (omega arith); stops = λ z. (h, passed_bad s 0 c at r.passed l (rw (e, f) at g)) }

        pub reached_more : (d || b) ≡ true → (o : ℕ) → (o ≡ one_if d) × (o ≤ 1) → Reached s need (at + 1) (c + o)
        reached_more g o q = record { few = omega (arith, q.1); within = omega arith; passed = rw (q.0, e) (passed_more s 0 c at r.passed l (rw (e, f) at g)) }

    pub reached_whole : need ≤ c → Scanned s need (record { digits = c; outcome = Ok tt })
    reached_whole h = record { fine = r.passed.fine; whole = λ z. omega (arith, r.few); stops = λ z. absurd (z refl) }
