-- Hex samples are the raw samples of the bytes that their digits write. Each law is stated once, over the width.
-- Assumes nothing.
use Rattle.std.specs.Prelude.{if◌then◌else◌}
use Prim.Native.Nat.{ℕ, zero, suc, ◌+◌, ◌*◌, ◌-◌, ◌/◌, ◌%◌, ◌≤◌, ◌<◌}
use native.Mathlib.Nat.{suc-mul, mul_left_comm, mul-div_cancel, div-add-mod', div-lt_iff_lt-mul, mod-lt}
use native.Mathlib.Omega.{arith}
use mathlib.Core.Path.{◌≡◌, refl, sym, ap, ◌∙◌}
use mathlib.Core.Bool.{Bool, true, false, false≢true}
use mathlib.Core.List.{List, [], ◌∷◌, ◌++◌, map, append-nil}
use mathlib.Core.Option.{Option, none, some}
use lib.Dec.{eqb, ltb, lit<}
use borrow.Author.Tests.{eqb-true, eqb-false, ne_eqb, ltb-true, ltb-false}
use lib.IntN.{ℤ}
use lib.ListN.{length, take, drop, length-map}
use lib.Seq.{drop-drop}
use Rattle.format.specs.Bytes.{is_some, or_default}
use Rattle.format.specs.Reasons.{refusal_number}
use Rattle.format.specs.Refusals.{bad_sample, data_ends_early}
use Rattle.format.specs.Descriptors.{NumberKind, signed, unsigned}
use Rattle.format.specs.Samples.{no_hex, hex_run, with_hex_byte, hex_alone, hex_pair, hex_bytes, hex_digit, blank, without_blanks, in_type, sample_value, hex_sample, hex_samples, raw_samples, with_sample, stopped, Decoded}
use Rattle.data_hex.specs.Forms.{digits_refusal, digit_value, pairs_of, bytes_of, Scanned, samples_at}
use Rattle.lent_numbers.specs.Widths.{Width}
use Rattle.data_hex.specs.declared.scan.Counted.{Counted}
use Rattle.data_hex.proofs.DigitLaws.{not_refused, digit_value_lem, refusal_add, refusal_first, refusal_after, refusal_last, refusal_length}
use Rattle.data_hex.proofs.BlockLaws.{two_more, pairs_drop, pairs_length, pairs_bytes}
use Rattle.lent_numbers.proofs.WidthLaws.{width_pos}
use Rattle.data_raw.proofs.RawLaws.{signed_fine, narrow_fine}
use Rattle.data_hex.proofs.JoinLaws.{joined, then_joined}

-- ---- the bytes of one sample

digit_some : (o : Option ℕ) → is_some o ≡ true → o ≡ some (or_default 255 o)
digit_some none e = absurd (false≢true e)
digit_some (some v) e = refl

-- where there are digits they write w bytes
run_bytes : (w : ℕ) (s : List ℕ) → digits_refusal (2 * w) s ≡ 0 → hex_bytes w s ≡ hex_run (take w (bytes_of s)) (drop (2 * w) s)
unfolding hex_bytes digits_refusal pairs_of
run_bytes zero s e = refl
run_bytes (suc w) [] e =
    let p : digits_refusal (suc (suc (2 * w))) [] ≡ 0 = rw (two_more w) at e in
    absurd (omega arith)
run_bytes (suc w) (b ∷ []) e =
    let p = not_refused (is_some (hex_digit b)) data_ends_early (rw (two_more w) at e) in
    absurd (omega arith)
run_bytes (suc w) (b ∷ c ∷ s) e =
    let p = not_refused (is_some (hex_digit b)) (if is_some (hex_digit c) then digits_refusal (2 * w) s else bad_sample) (rw (two_more w) at e) in
    let q = not_refused (is_some (hex_digit c)) (digits_refusal (2 * w) s) p.1 in
    let h = digit_value_lem b p.0 in
    let l = digit_value_lem c q.0 in
    let v : (digit_value b * 16 + digit_value c) % 256 ≡ 16 * digit_value b + digit_value c = omega arith in
    rw (two_more w, run_bytes w s q.1, v, digit_some (hex_digit b) p.0, digit_some (hex_digit c) q.0)

-- and where not, none
no_bytes : (w : ℕ) (s : List ℕ) (c : ℕ) → digits_refusal (2 * w) s ≡ c → (c ≡ 0 → ⊥) → hex_bytes w s ≡ no_hex c
unfolding hex_bytes digits_refusal
no_bytes zero s c e n = absurd (n (sym e))
no_bytes (suc w) [] c e n = ap no_hex (rw (two_more w) at e)
no_bytes (suc w) (b ∷ []) c e n = go (hex_digit b) (rw (two_more w) at e)
  where
    go : (o : Option ℕ) → (if is_some o then data_ends_early else bad_sample) ≡ c → hex_alone o ≡ no_hex c
    go none p = ap no_hex p
    go (some v) p = ap no_hex p
no_bytes (suc w) (b ∷ x ∷ s) c e n = go (hex_digit b) (hex_digit x) (rw (two_more w) at e) (λ p. no_bytes w s c p n)
  where
    go : (o p : Option ℕ) → (if is_some o then (if is_some p then digits_refusal (2 * w) s else bad_sample) else bad_sample) ≡ c
        → (digits_refusal (2 * w) s ≡ c → hex_bytes w s ≡ no_hex c) → hex_pair o p (hex_bytes w s) ≡ no_hex c
    go none p q f = ap no_hex q
    go (some h) none q f = ap no_hex q
    go (some h) (some l) q f = ap (with_hex_byte (16 * h + l)) (f q)

-- ---- n samples

map_drop : (f : ℕ → ℕ) (j : ℕ) (l : List ℕ) → drop j (map f l) ≡ map f (drop j l)
map_drop f zero l = refl
map_drop f (suc j) [] = refl
map_drop f (suc j) (b ∷ l) = map_drop f j l

-- the bytes after those of the first digits
pub bytes_drop : (j : ℕ) (s : List ℕ) → drop j (bytes_of s) ≡ bytes_of (drop (2 * j) s)
bytes_drop j s = pairs_drop j (map digit_value s) ∙ ap pairs_of (map_drop digit_value (2 * j) s)

-- the digits of one sample more
more_digits : (n w : ℕ) → 2 * (suc n * w) ≡ 2 * w + 2 * (n * w)
more_digits n w = omega (arith, suc-mul n w)

module _ (k : NumberKind) (w e : ℕ) where
  -- the first sample, of w bytes
  hex_first : (n : ℕ) (s : List ℕ) → digits_refusal (2 * w) s ≡ 0
      → hex_samples k w e (suc n) s ≡ hex_sample k w e (hex_run (take w (bytes_of s)) (drop (2 * w) s)) (λ r. hex_samples k w e n r)
  unfolding hex_samples
  hex_first n s f = rw (run_bytes w s f)

  -- none, for want of digits
  hex_none : (n : ℕ) (s : List ℕ) (c : ℕ) → digits_refusal (2 * w) s ≡ c → (c ≡ 0 → ⊥) → hex_samples k w e (suc n) s ≡ stopped c
  unfolding hex_samples
  hex_none n s c f m = rw (no_bytes w s c f m)

  module _ (n : ℕ) (s : List ℕ) (f : digits_refusal (2 * (suc n * w)) s ≡ 0) where
    one_fine : digits_refusal (2 * w) s ≡ 0
    one_fine = refusal_first s {a = 2 * w} {m = 2 * (suc n * w)} (omega (arith, more_digits n w)) f

    others_fine : digits_refusal (2 * (n * w)) (drop (2 * w) s) ≡ 0
    others_fine = sym (refusal_add (2 * w) (2 * (n * w)) s one_fine) ∙ ap (λ (j : ℕ). digits_refusal j s) (sym (more_digits n w)) ∙ f

  -- the first n samples, where their digits are there, as raw samples of their bytes
  hex_then : (n m : ℕ) (s : List ℕ) → digits_refusal (2 * (n * w)) s ≡ 0 → hex_samples k w e (n + m) s ≡ joined (raw_samples k w e n (bytes_of s)) (hex_samples k w e m (drop (2 * (n * w)) s))
  unfolding raw_samples
  hex_then zero m s f =
      let z : zero + m ≡ m = omega arith in
      let y : 2 * (zero * w) ≡ 0 = omega arith in
      rw (z, y)
  hex_then (suc n) m s f =
      let z : suc n + m ≡ suc (n + m) = omega arith in
      let v = sample_value k e (take w (bytes_of s)) in
      rw (z, hex_first (n + m) s (one_fine n s f), hex_then n m (drop (2 * w) s) (others_fine n s f), drop-drop (2 * (n * w)) (2 * w) s, sym (more_digits n w), bytes_drop w s)
      (then_joined v (in_type k w v) (raw_samples k w e n (bytes_of (drop (2 * w) s))) (hex_samples k w e m (drop (2 * (suc n * w)) s)))

  -- all samples
  pub hex_raw : (n : ℕ) (s : List ℕ) → digits_refusal (2 * (n * w)) s ≡ 0 → hex_samples k w e n s ≡ raw_samples k w e n (bytes_of s)
  unfolding hex_samples
  hex_raw n s f =
      let z : n + 0 ≡ n = omega arith in
      rw z at (hex_then n 0 s f) ∙ go (raw_samples k w e n (bytes_of s)) (eqb (raw_samples k w e n (bytes_of s)).number 0) refl
    where
      go : (a : Decoded) (t : Bool) → eqb a.number 0 ≡ t → (if t then record { number = 0; seen = a.seen ++ [] } else a) ≡ a
      go a true q = λ i. record { number = sym (eqb-true a.number 0 q) i; seen = append-nil a.seen i }
      go a false q = refl

  -- samples that are not refused have their digits
  pub hex_fine : (n : ℕ) (s : List ℕ) → (hex_samples k w e n s).number ≡ 0 → digits_refusal (2 * (n * w)) s ≡ 0
  unfolding digits_refusal
  hex_fine zero s z =
      let y : 2 * (zero * w) ≡ 0 = omega arith in
      rw y
  hex_fine (suc n) s z = go (digits_refusal (2 * w) s) refl (λ q. hex_fine n (drop (2 * w) s) q)
    where
      v : ℤ
      v = sample_value k e (take w (bytes_of s))

      next : (t : Bool) → (if t then with_sample v (hex_samples k w e n (drop (2 * w) s)) else stopped bad_sample).number ≡ 0 → (hex_samples k w e n (drop (2 * w) s)).number ≡ 0
      next true p = p
      next false p = absurd (omega arith)

      go : (c : ℕ) → digits_refusal (2 * w) s ≡ c → ((hex_samples k w e n (drop (2 * w) s)).number ≡ 0 → digits_refusal (2 * (n * w)) (drop (2 * w) s) ≡ 0) → digits_refusal (2 * (suc n * w)) s ≡ 0
      go zero q f = rw (more_digits n w) (refusal_add (2 * w) (2 * (n * w)) s q ∙ f (next (in_type k w v) (rw (hex_first n s q) at z)))
      go (suc c) q f =
          let p : suc c ≡ 0 = sym (ap (λ (d : Decoded). d.number) (hex_none n s (suc c) q (λ x. omega arith))) ∙ z in
          absurd (omega arith)

without_length : (s : List ℕ) → length (without_blanks s) ≤ length s
unfolding without_blanks
without_length [] = omega arith
without_length (b ∷ s) = go (blank b) (without_length s)
  where
    go : (t : Bool) → length (without_blanks s) ≤ length s → length (if t then without_blanks s else b ∷ without_blanks s) ≤ suc (length s)
    go true h = omega arith
    go false h = omega arith

-- the digits of j bytes write j bytes
pub bytes_length : (j : ℕ) (s : List ℕ) → digits_refusal (2 * j) s ≡ 0 → j ≤ length (bytes_of s)
bytes_length j s f = omega (arith, refusal_length (2 * j) s f, pairs_length (map digit_value s), length-map s digit_value)

-- ---- what a scan comes to

module _ (k : NumberKind) (w e n : ℕ) (s : List ℕ) (need : ℕ) (r : Counted) (p : Scanned s need r) (pos : 0 < 2 * w) (few : need ≤ 2 * (n * w)) (long : need < 2 * (n * w) → length s < need) where
  -- the samples whose digits are all there
  abbrev pub whole : ℕ
  whole = r.digits / (2 * w)

  digits_split : (2 * (whole * w) ≤ r.digits) × (r.digits < 2 * (whole * w) + 2 * w)
  digits_split =
      let q = mul_left_comm 2 whole w in
      let d = div-add-mod' r.digits (2 * w) in
      let m = mod-lt r.digits pos in
      (omega arith, omega arith)

  whole_fine : digits_refusal (2 * (whole * w)) (without_blanks s) ≡ 0
  whole_fine = refusal_first (without_blanks s) digits_split.0 p.fine

  rest_number : (whole ≤ n) × ((hex_samples k w e (n - whole) (drop (2 * (whole * w)) (without_blanks s))).number ≡ (refusal_number r.outcome))
  unfolding hex_samples
  rest_number = go (eqb (refusal_number r.outcome) 0) refl
    where
      rest : List ℕ
      rest = drop (2 * (whole * w)) (without_blanks s)

      enough : (refusal_number r.outcome) ≡ 0 → r.digits ≡ n * (2 * w)
      enough z = test (ltb need (2 * (n * w))) refl
        where
          test : (t : Bool) → ltb need (2 * (n * w)) ≡ t → r.digits ≡ n * (2 * w)
          test true q = absurd (omega (arith, long (ltb-true need (2 * (n * w)) q), p.whole z, refusal_length r.digits (without_blanks s) p.fine, without_length s))
          test false q = omega (arith, few, p.whole z, ltb-false need (2 * (n * w)) q, mul_left_comm 2 n w)

      go : (t : Bool) → eqb (refusal_number r.outcome) 0 ≡ t → (whole ≤ n) × ((hex_samples k w e (n - whole) rest).number ≡ (refusal_number r.outcome))
      go true q =
          let z : (refusal_number r.outcome) ≡ 0 = eqb-true (refusal_number r.outcome) 0 q in
          let l : whole ≡ n = ap (λ (d : ℕ). d / (2 * w)) (enough z) ∙ mul-div_cancel n pos in
          let y : n - whole ≡ 0 = omega arith in
          (omega arith, rw y (sym z))
      go false q =
          let x = p.stops (eqb-false (refusal_number r.outcome) 0 q) in
          let l : whole < n = (div-lt_iff_lt-mul pos).1 (omega (arith, x.0, few, mul_left_comm 2 n w)) in
          let y : n - whole ≡ suc (n - whole - 1) = omega arith in
          let j : 2 * (whole * w) ≤ r.digits + 1 = omega (arith, digits_split.0) in
          let a : digits_refusal (r.digits + 1 - 2 * (whole * w)) rest ≡ (refusal_number r.outcome) = sym (refusal_after (without_blanks s) j whole_fine) ∙ x.1 in
          let i : r.digits + 1 - 2 * (whole * w) ≤ 2 * w = omega (arith, digits_split) in
          let b : digits_refusal (2 * w) rest ≡ (refusal_number r.outcome) = refusal_last rest i (λ v. eqb-false (refusal_number r.outcome) 0 q (sym a ∙ v)) ∙ a in
          (omega arith, rw y (ap (λ (d : Decoded). d.number) (hex_none k w e (n - whole - 1) rest (refusal_number r.outcome) b (eqb-false (refusal_number r.outcome) 0 q))))

  told : hex_samples k w e n (without_blanks s) ≡ joined (raw_samples k w e whole (bytes_of (without_blanks s))) (hex_samples k w e (n - whole) (drop (2 * (whole * w)) (without_blanks s)))
  told =
      let q : n ≡ whole + (n - whole) = omega (arith, rest_number.0) in
      ap (λ (m : ℕ). hex_samples k w e m (without_blanks s)) q ∙ hex_then k w e whole (n - whole) (without_blanks s) whole_fine

  told_scan : (raw_samples k w e whole (bytes_of (without_blanks s))).number ≡ 0 → (refusal_number r.outcome) ≡ (hex_samples k w e n (without_blanks s)).number
  told_scan z = sym (rw (told, z) rest_number.1)

  told_value : ((raw_samples k w e whole (bytes_of (without_blanks s))).number ≡ 0 → ⊥) → (raw_samples k w e whole (bytes_of (without_blanks s))).number ≡ (hex_samples k w e n (without_blanks s)).number
  told_value z = rw (told, ne_eqb (raw_samples k w e whole (bytes_of (without_blanks s))).number 0 z)

-- ---- the types of which no value is refused

module _ (w e n : ℕ) (s : List ℕ) (need : ℕ) (r : Counted) (p : Scanned s need r) (d : Width w) (few : need ≤ 2 * (n * w)) (long : need < 2 * (n * w) → length s < need) where
  pos : 0 < 2 * w
  pos = omega (arith, width_pos w d)

  room : r.digits / (2 * w) * w ≤ length (bytes_of (without_blanks s))
  room = bytes_length (r.digits / (2 * w) * w) (without_blanks s) (whole_fine signed w e n s need r p pos few long)

  pub signed_told : (refusal_number r.outcome) ≡ (hex_samples signed w e n (without_blanks s)).number
  signed_told = told_scan signed w e n s need r p pos few long (signed_fine w e (r.digits / (2 * w)) (bytes_of (without_blanks s)) d (pairs_bytes (map digit_value (without_blanks s))) room)

  pub narrow_told : (w ≡ 8 → ⊥) → (refusal_number r.outcome) ≡ (hex_samples unsigned w e n (without_blanks s)).number
  narrow_told f = told_scan unsigned w e n s need r p pos few long (narrow_fine w e (r.digits / (2 * w)) (bytes_of (without_blanks s)) d (pairs_bytes (map digit_value (without_blanks s))) room f)

-- and the one of which some are
module _ (e n : ℕ) (s : List ℕ) (need : ℕ) (r : Counted) (p : Scanned s need r) (few : need ≤ 2 * (n * 8)) (long : need < 2 * (n * 8) → length s < need)
    (v : ℕ) (q : digits_refusal (2 * (r.digits / 16 * 8)) (without_blanks s) ≡ 0 → v ≡ (samples_at unsigned 8 e (r.digits / 16) s 0).number) where
  value_is : v ≡ (samples_at unsigned 8 e (r.digits / 16) s 0).number
  value_is = q (whole_fine unsigned 8 e n s need r p (lit< tt) few long)

  pub wide_bad : (v ≡ 0 → ⊥) → v ≡ (hex_samples unsigned 8 e n (without_blanks s)).number
  wide_bad f = value_is ∙ told_value unsigned 8 e n s need r p (lit< tt) few long (λ z. f (value_is ∙ z))

  pub wide_good : v ≡ 0 → (refusal_number r.outcome) ≡ (hex_samples unsigned 8 e n (without_blanks s)).number
  wide_good z = told_scan unsigned 8 e n s need r p (lit< tt) few long (sym value_is ∙ z)
