-- Laws of unsigned samples of 8 bytes: the highest byte tells whether one is past the largest sample.
-- Assumes nothing.
use Rattle.std.specs.Prelude.{if◌then◌else◌}
use Prim.Native.Nat.{ℕ, zero, suc, ◌+◌, ◌*◌, ◌^◌, ◌≤◌, ◌<◌}
use native.Mathlib.Numerals.{add-one}
use native.Mathlib.Omega.{arith}
use mathlib.Core.Path.{◌≡◌, refl, sym, ap, ◌∙◌}
use mathlib.Core.Bool.{Bool, true, false, not, ◌||◌}
use mathlib.Core.List.{List, [], ◌∷◌, ◌++◌, reverse, reverse-append}
use lib.Dec.{leb}
use borrow.Author.Tests.{le-leb, lt-leb, leb-true, leb-false}
use lib.IntN.{ℤ}
use lib.ListN.{length, take, drop, get_or, length-drop, length-reverse}
use lib.Seq.{drop-cons, get_or-drop, take-suc}
use Rattle.format.specs.Descriptors.{unsigned, big}
use Rattle.format.specs.Limits.{max_sample}
use Rattle.format.specs.Refusals.{bad_sample}
use Rattle.format.specs.Samples.{Decoded, from_bytes, ordered, sample_value, in_type, with_sample, stopped, raw_samples}
use Rattle.format.proofs.Samples.{AllBytes, all_bytes, from_bytes_below, ordered_bytes}
use Rattle.format.proofs.Boundary.{bytes_take, bytes_drop}
use Rattle.lent_numbers.specs.Widths.{endian_by}
use Rattle.lent_numbers.proofs.Halves.{from_append, length_part, sample_is}
use Rattle.data_raw.proofs.RawLaws.{word_in}
use Rattle.data_hex.specs.Forms.{top_place, has_high}
use Rattle.data_hex.proofs.JoinLaws.{joined, raw_then}

-- ---- a test of each highest byte

module _ (top : ℕ) (s : List ℕ) where
  pub high_none : false ≡ has_high 0 top s
  unfolding has_high
  high_none = refl

  pub high_more : (i : ℕ) {t : Bool} → t ≡ has_high i top s → (t || leb 128 (get_or s (8 * i + top) 0)) ≡ has_high (i + 1) top s
  unfolding has_high
  high_more i e = rw (e, add-one i)

  pub high_done : (i m : ℕ) {t : Bool} → i ≤ m → m ≤ i → t ≡ has_high i top s → t ≡ has_high m top s
  high_done i m h l e =
      let q : i ≡ m = omega arith in
      rw q at e

-- ---- what the test tells

-- a number of 8 bytes, the highest one last
word_high : (t : List ℕ) (h : ℕ) → AllBytes t → length t ≡ 7 → leb (from_bytes (t ++ (h ∷ []))) max_sample ≡ not (leb 128 h)
unfolding from_bytes
word_high t h p l = go (leb 128 h) refl
  where
    n : ℕ
    n = from_bytes (t ++ (h ∷ []))

    low : from_bytes t < 256 ^ 7
    low = rw l at (from_bytes_below t p)

    sum : n ≡ from_bytes t + 256 ^ 7 * (h + 256 * 0)
    sum = rw l at (from_append t (h ∷ []))

    go : (u : Bool) → leb 128 h ≡ u → leb n max_sample ≡ not u
    go true e = lt-leb n max_sample (omega (arith, low, sum, leb-true 128 h e))
    go false e = le-leb n max_sample (omega (arith, low, sum, leb-false 128 h e))

module _ (s : List ℕ) (at : ℕ) (h : at + 8 ≤ length s) (b : (i : ℕ) → get_or s i 0 < 256) where
  part_bytes : (j i : ℕ) → AllBytes (take j (drop i s))
  part_bytes j i = bytes_take j (drop i s) (bytes_drop i s (all_bytes s b))

  -- the sample at a place
  sample_high : (e : Bool) → leb (from_bytes (ordered (endian_by e) (take 8 (drop at s)))) max_sample ≡ not (leb 128 (get_or s (at + top_place e) 0))
  sample_high true =
      let t = take 7 (drop (suc at) s) in
      let z : at + 0 ≡ at = omega arith in
      let q : take 8 (drop at s) ≡ get_or s at 0 ∷ t = ap (take 8) (drop-cons s at 0 (omega arith)) in
      let l : length (reverse t) ≡ 7 = length-reverse t ∙ length_part s (suc at) 7 (omega arith) in
      rw (z, q, reverse-append (get_or s at 0 ∷ []) t) (word_high (reverse t) (get_or s at 0) (ordered_bytes big t (part_bytes 7 (suc at))) l)
  sample_high false =
      let t = take 7 (drop at s) in
      let q : take 8 (drop at s) ≡ t ++ (get_or s (at + 7) 0 ∷ []) = take-suc (drop at s) 7 0 (omega (arith, length-drop at s)) ∙ ap (λ (x : ℕ). t ++ (x ∷ [])) (get_or-drop at s 7 0) in
      rw q (word_high t (get_or s (at + 7) 0) (part_bytes 7 at) (length_part s at 7 (omega arith)))

  one_code : (e : Bool) → (raw_samples unsigned 8 (endian_by e) 1 (drop at s)).number ≡ (if leb 128 (get_or s (at + top_place e) 0) then bad_sample else 0)
  unfolding raw_samples
  one_code e = rw fine (go (leb 128 (get_or s (at + top_place e) 0)))
    where
      v : ℤ
      v = sample_value unsigned (endian_by e) (take 8 (drop at s))

      fine : in_type unsigned 8 v ≡ not (leb 128 (get_or s (at + top_place e) 0))
      fine = ap (in_type unsigned 8) (sample_is s at 8 h unsigned (endian_by e)) ∙ word_in _ ∙ sample_high e

      go : (t : Bool) → (if not t then with_sample v (stopped 0) else stopped bad_sample).number ≡ (if t then bad_sample else 0)
      go true = refl
      go false = refl

-- m samples
pub high_code : (e : Bool) (m : ℕ) (s : List ℕ) → 8 * m ≤ length s → ((i : ℕ) → get_or s i 0 < 256) → (raw_samples unsigned 8 (endian_by e) m s).number ≡ (if has_high m (top_place e) s then bad_sample else 0)
unfolding raw_samples has_high
high_code e zero s h b = refl
high_code e (suc m) s h b =
    let z : m + 1 ≡ suc m = add-one m in
    let y : m * 8 ≡ 8 * m = omega arith in
    let all : raw_samples unsigned 8 (endian_by e) (suc m) s ≡ joined (raw_samples unsigned 8 (endian_by e) m s) (raw_samples unsigned 8 (endian_by e) 1 (drop (8 * m) s)) =
    rw (z, y) at (raw_then unsigned 8 (endian_by e) m 1 s) in
    ap (λ (d : Decoded). d.number) all
    ∙ go (raw_samples unsigned 8 (endian_by e) m s) (raw_samples unsigned 8 (endian_by e) 1 (drop (8 * m) s)) (has_high m (top_place e) s) (leb 128 (get_or s (8 * m + top_place e) 0))
    (high_code e m s (omega arith) b) (one_code s (8 * m) (omega arith) b e)
  where
    go : (x y : Decoded) (t u : Bool) → x.number ≡ (if t then bad_sample else 0) → y.number ≡ (if u then bad_sample else 0) → (joined x y).number ≡ (if t || u then bad_sample else 0)
    go x y true u p q = rw p
    go x y false u p q = rw p q

-- and by what the test answers
pub high_told : (e : Bool) (m : ℕ) (s : List ℕ) → 8 * m ≤ length s → ((i : ℕ) → get_or s i 0 < 256) → {top : ℕ} → top ≡ top_place e → {t u : Bool} → t ≡ has_high m top s → t ≡ u
    → (if u then bad_sample else 0) ≡ (raw_samples unsigned 8 (endian_by e) m s).number
high_told e m s h b p q r = sym (high_code e m s h b ∙ ap (λ (x : Bool). if x then bad_sample else 0) (ap (λ (i : ℕ). has_high m i s) (sym p) ∙ sym q ∙ r))
