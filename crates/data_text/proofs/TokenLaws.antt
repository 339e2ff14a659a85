-- Laws of blanks, digits and tokens at a position: what one byte more does to each.
-- Assumes nothing.
use Prim.Native.Nat.{ℕ, zero, suc, ◌+◌, ◌*◌, ◌-◌, ◌^◌, ◌≤◌, ◌<◌, min}
use native.Mathlib.Nat.{zero-add}
use native.Mathlib.Numerals.{add-one}
use native.Mathlib.Omega.{arith}
use mathlib.Core.Path.{◌≡◌, refl, sym, ap, ◌∙◌}
use mathlib.Core.Bool.{Bool, true, false, ◌&&◌, false≢true}
use mathlib.Core.List.{List, [], ◌∷◌}
use mathlib.Core.Option.{Option, none, some}
use lib.Dec.{leb, ltb}
use lib.IntN.{ℤ, pos, negsuc, ◌-ℤ◌}
use lib.ListN.{length, drop, get_or, drop_of_length-le}
use lib.Seq.{drop-cons}
use mir.Syntax.{w64}
use mir.Val.{SFits, to_z, of_z}
use mir.Facts.{to_z_pos, to_z-of_z}
use borrow.Author.Tests.{ne_eqb, le-leb, lt-leb, leb-true, leb-false, ltb-true, ltb-false}
use Rattle.format.specs.Bytes.{is_digit}
use Rattle.format.specs.Words.{digits_from, number}
use Rattle.format.specs.Samples.{blank, skip_blanks, token, token_value, signed_by}
use Rattle.std.specs.Prelude.{Option as Maybe}
use Rattle.std.specs.Prelude.{None}
use Rattle.data_text.specs.declared.reader.Run.{Run}
use Rattle.data_text.specs.Tokens.{Scan, in_range, ranged, cap, run, sample, run_of, digits_at, minus, bound_token, token_of, token_at}

module _ (s : List ℕ) (i : ℕ) where
  -- a text from i on: a byte and the text from i + 1 on, or nothing
  pub front : i < length s → drop i s ≡ get_or s i 0 ∷ drop (i + 1) s
  front h = rw (add-one, drop-cons s i 0)

  pub back : length s ≤ i → drop i s ≡ []
  back h = drop_of_length-le s h

  pub skip_end : length s ≤ i → skip_blanks (drop i s) ≡ drop i s
  unfolding skip_blanks
  skip_end h = rw (back h) refl

  pub skip_more : i < length s → blank (get_or s i 0) ≡ true → skip_blanks (drop i s) ≡ skip_blanks (drop (i + 1) s)
  unfolding skip_blanks
  skip_more h e = rw (front h, e) refl

  pub skip_stop : i < length s → blank (get_or s i 0) ≡ false → skip_blanks (drop i s) ≡ drop i s
  unfolding skip_blanks
  skip_stop h e = rw (front h, e) refl

  pub token_end : length s ≤ i → token (drop i s) ≡ []
  unfolding token
  token_end h = rw (back h) refl

  pub token_stop : i < length s → blank (get_or s i 0) ≡ true → token (drop i s) ≡ []
  unfolding token
  token_stop h e = rw (front h, e) refl

  pub token_more : i < length s → blank (get_or s i 0) ≡ false → token (drop i s) ≡ get_or s i 0 ∷ token (drop (i + 1) s)
  unfolding token
  token_more h e = rw (front h, e) refl

-- the blanks from `at` on are passed up to i
pub record Skipping (s : List ℕ) (at i : ℕ) : Type 0 where
  pub from : at ≤ i
  pub within : i ≤ length s
  pub past : skip_blanks (drop at s) ≡ skip_blanks (drop i s)

-- ---- digits

and_left : (a b : Bool) → a && b ≡ true → a ≡ true
and_left true b e = refl
and_left false b e = e

and_right : (a b : Bool) → a && b ≡ true → b ≡ true
and_right true b e = e
and_right false b e = absurd (false≢true e)

pub digit_low : (b : ℕ) → is_digit b ≡ true → 48 ≤ b
digit_low b e = leb-true 48 b (and_left (leb 48 b) (leb b 57) e)

pub digit_high : (b : ℕ) → is_digit b ≡ true → b ≤ 57
digit_high b e = leb-true b 57 (and_right (leb 48 b) (leb b 57) e)

pub digit_not_blank : (b : ℕ) → is_digit b ≡ true → blank b ≡ false
digit_not_blank b e =
    let l : 48 ≤ b = digit_low b e in
    rw (le-leb 9 b (omega arith), lt-leb b 13 (omega arith), ne_eqb b 32 (λ q. omega arith)) refl

digits_more : (a b : ℕ) (t : List ℕ) → is_digit b ≡ true → digits_from a (b ∷ t) ≡ digits_from (a * 10 + (b - 48)) t
unfolding digits_from
digits_more a b t e = rw e refl

digits_stop : (a b : ℕ) (t : List ℕ) → is_digit b ≡ false → digits_from a (b ∷ t) ≡ none
unfolding digits_from
digits_stop a b t e = rw e refl

number_none : (t : List ℕ) → digits_from 0 t ≡ none → number t ≡ none
unfolding number
number_none [] e = refl
number_none (b ∷ t) e = e

number_some : (t : List ℕ) → 0 < length t → number t ≡ digits_from 0 t
unfolding number
number_some [] h = absurd (omega arith)
number_some (b ∷ t) h = refl

pub scan_none : (s : List ℕ) (at : ℕ) → at ≤ length s → Scan s at at 0
scan_none s at h = record { far = 0; from = omega arith; within = h; kept = refl; rest = refl; long = refl }

module _ {s : List ℕ} {at i m : ℕ} (c : Scan s at i m) where
  pub scan_more : i < length s → is_digit (get_or s i 0) ≡ true → Scan s at (i + 1) (min (m * 10 + (get_or s i 0 - 48)) cap)
  scan_more h d =
      let t = token_more s i h (digit_not_blank (get_or s i 0) d) in
      record {
        far = c.far * 10 + (get_or s i 0 - 48);
        from = omega arith;
        within = omega arith;
        kept = omega arith;
        rest = c.rest ∙ ap (digits_from c.far) t ∙ digits_more c.far (get_or s i 0) (token (drop (i + 1) s)) d;
        long = omega (arith, ap length t);
      }

  no_digits : number (token (drop at s)) ≡ none → None ≡ digits_at s at
  no_digits e = sym (ap (λ (o : Option ℕ). run_of o (at + length (token (drop at s)))) e)

  pub scan_bad : i < length s → blank (get_or s i 0) ≡ false → is_digit (get_or s i 0) ≡ false → None ≡ digits_at s at
  scan_bad h nb d =
      no_digits
      (number_none (token (drop at s))
      (c.rest ∙ ap (digits_from c.far) (token_more s i h nb) ∙ digits_stop c.far (get_or s i 0) (token (drop (i + 1) s)) d))

  -- at the end of the token
  pub scan_empty : token (drop i s) ≡ [] → i ≡ at → None ≡ digits_at s at
  unfolding number
  scan_empty e q = no_digits (ap (λ (k : ℕ). number (token (drop k s))) (sym q) ∙ ap number e)

  pub scan_done : token (drop i s) ≡ [] → (i ≡ at → ⊥) → run m i ≡ digits_at s at
  unfolding digits_from
  scan_done e q =
      let l : length (token (drop i s)) ≡ 0 = ap length e in
      let n : number (token (drop at s)) ≡ some c.far =
      number_some (token (drop at s)) (omega (arith, c.long, c.from)) ∙ c.rest ∙ ap (digits_from c.far) e in
      let k : at + length (token (drop at s)) ≡ i = omega (arith, c.long) in
      rw (n, k, c.kept) refl

-- ---- a number within a bound

module _ (f : ℕ → ℤ) (top m e : ℕ) (d : Maybe Run) (q : d ≡ run m e) where
  pub bound_yes : (z : ℤ) → m ≤ top → z ≡ f m → sample z e ≡ bound_token f top d
  bound_yes z h r = rw (q, le-leb m top h, r) refl

  pub bound_no : top < m → None ≡ bound_token f top d
  bound_no h = rw (q, lt-leb m top h) refl

-- what the code keeps of a number is told from the bound as the number is
module _ (low high e : ℕ) where
  kept_plus : (o : Option ℕ) → high < cap → bound_token pos high (run_of o e) ≡ token_of (ranged low high (signed_by pos o)) e
  unfolding ranged in_range
  kept_plus none h = refl
  kept_plus (some m) h = go (leb m high) refl
    where
      go : (t : Bool) → leb m high ≡ t → bound_token pos high (run_of (some m) e) ≡ token_of (ranged low high (some (pos m))) e
      go true q =
          let l : m ≤ high = leb-true m high q in
          let k : min m cap ≡ m = omega arith in
          rw (k, q) refl
      go false q =
          let l : high < m = leb-false m high q in
          rw (q, lt-leb (min m cap) high (omega arith)) refl

  kept_minus : (o : Option ℕ) → low < cap → bound_token minus low (run_of o e) ≡ token_of (ranged low high (signed_by minus o)) e
  unfolding ranged in_range
  kept_minus none h = refl
  kept_minus (some zero) h = rw (le-leb 0 low (omega arith), le-leb 0 high (omega arith)) refl
  kept_minus (some (suc m)) h = go (ltb m low) refl
    where
      go : (t : Bool) → ltb m low ≡ t → bound_token minus low (run_of (some (suc m)) e) ≡ token_of (ranged low high (some (negsuc m))) e
      go true q =
          let l : m < low = ltb-true m low q in
          let k : min (suc m) cap ≡ suc m = omega arith in
          rw (k, q) refl
      go false q =
          let l : low ≤ m = ltb-false m low q in
          rw (q, lt-leb (min (suc m) cap) low (omega arith)) refl

minus_one_less : (k : ℕ) → negsuc 0 -ℤ pos k ≡ negsuc k
minus_one_less zero = refl
minus_one_less (suc j) = ap (λ (n : ℕ). negsuc (suc n)) (zero-add j)

minus_value : (m : ℕ) → (m ≡ 0 → ⊥) → m ≤ 2 ^ 63 → negsuc 0 -ℤ to_z w64 (m - 1) ≡ minus m
minus_value zero z h = absurd (z refl)
minus_value (suc k) z h =
    let q : suc k - 1 ≡ k = omega arith in
    let r : k < 2 ^ 63 = omega arith in
    ap (λ (j : ℕ). negsuc 0 -ℤ to_z w64 j) q ∙ ap (λ (y : ℤ). negsuc 0 -ℤ y) (to_z_pos w64 r) ∙ minus_one_less k

minus_fits : (m : ℕ) → (m ≡ 0 → ⊥) → m ≤ 2 ^ 63 → SFits w64 (minus m)
minus_fits zero z h = absurd (z refl)
minus_fits (suc k) z h = record { sfits = h }

-- the number m after a minus, as the code computes it
module _ (m : ℕ) (z : m ≡ 0 → ⊥) (h : m ≤ 2 ^ 63) where
  pub minus_sfits : SFits w64 (negsuc 0 -ℤ to_z w64 (m - 1))
  minus_sfits = rw (minus_value m z h) (minus_fits m z h)

  pub minus_kept : to_z w64 (of_z w64 (negsuc 0 -ℤ to_z w64 (m - 1))) ≡ minus m
  minus_kept = to_z-of_z minus_sfits ∙ minus_value m z h

-- ---- a token by its first byte

module _ (low high : ℕ) (s : List ℕ) (at : ℕ) (h : at < length s) where
  after_sign_lem : (b : ℕ) (f : ℕ → ℤ) (top : ℕ) → get_or s at 0 ≡ b → blank b ≡ false
      → ((t : List ℕ) → token_value (b ∷ t) ≡ signed_by f (number t))
      → ((o : Option ℕ) (e : ℕ) → bound_token f top (run_of o e) ≡ token_of (ranged low high (signed_by f o)) e)
      → bound_token f top (digits_at s (at + 1)) ≡ token_at low high s at
  after_sign_lem b f top q nb is kept =
      let t = token (drop (at + 1) s) in
      let m : token (drop at s) ≡ b ∷ t = token_more s at h (ap blank q ∙ nb) ∙ ap (λ (x : ℕ). x ∷ t) q in
      let e : at + 1 + length t ≡ at + suc (length t) = omega arith in
      kept (number t) (at + 1 + length t)
      ∙ ap (token_of (ranged low high (signed_by f (number t)))) e
      ∙ ap (λ (o : Option ℤ). token_of (ranged low high o) (at + suc (length t))) (sym (is t))
      ∙ sym (ap (λ (v : List ℕ). token_of (ranged low high (token_value v)) (at + length v)) m)

  pub token_plus : high < 2 ^ 63 → get_or s at 0 ≡ 43 → bound_token pos high (digits_at s (at + 1)) ≡ token_at low high s at
  unfolding token_value
  token_plus l q = after_sign_lem 43 pos high q refl (λ t. refl) (λ o e. kept_plus low high e o (omega arith))

  pub token_minus : low ≤ 2 ^ 63 → get_or s at 0 ≡ 45 → bound_token minus low (digits_at s (at + 1)) ≡ token_at low high s at
  unfolding token_value
  token_minus l q = after_sign_lem 45 minus low q refl (λ t. refl) (λ o e. kept_minus low high e o (omega arith))

  plain : (get_or s at 0 ≡ 43 → ⊥) → (get_or s at 0 ≡ 45 → ⊥) → token_value (token (drop at s)) ≡ signed_by pos (number (token (drop at s)))
  unfolding token_value number
  plain p m = go (blank (get_or s at 0)) refl
    where
      go : (t : Bool) → blank (get_or s at 0) ≡ t → token_value (token (drop at s)) ≡ signed_by pos (number (token (drop at s)))
      go true q = rw (token_stop s at h q) refl
      go false q = rw (token_more s at h q, ne_eqb (get_or s at 0) 43 p, ne_eqb (get_or s at 0) 45 m) refl

  pub token_plain : high < 2 ^ 63 → (get_or s at 0 ≡ 43 → ⊥) → (get_or s at 0 ≡ 45 → ⊥) → bound_token pos high (digits_at s at) ≡ token_at low high s at
  token_plain l p m =
      let t = token (drop at s) in
      kept_plus low high (at + length t) (number t) (omega arith)
      ∙ ap (λ (o : Option ℤ). token_of (ranged low high o) (at + length t)) (sym (plain p m))
