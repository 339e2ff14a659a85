-- Laws of loops over blocks of samples: one that checks each, and one that stores each, in a list or in lent bytes.
-- Assumes nothing.
use Prim.Native.Nat.{ℕ, ◌+◌, ◌*◌, ◌-◌, ◌/◌, ◌≤◌, ◌<◌}
use native.Mathlib.Nat.{add-mul, mul-le-mul_right, div-mul-le_self, le-div_iff_mul-le}
use native.Mathlib.Omega.{arith}
use mathlib.Core.Path.{◌≡◌, refl, sym, ap, ◌∙◌}
use mathlib.Core.List.{List, ◌++◌, append-nil, append_assoc}
use lib.IntN.{ℤ}
use lib.ListN.{length, take, drop, length-append, length-drop, drop_of_length-le}
use lib.Seq.{drop-drop, take_all, take_at, drop_at}
use Rattle.format.specs.Bytes.{over}
use Rattle.format.specs.Descriptors.{NumberKind}
use Rattle.format.specs.declared.reason.Reason.{Reason}
use Rattle.format.specs.Reasons.{reason_number}
use Rattle.format.specs.Samples.{Decoded, hex_samples, raw_samples, without_blanks}
use Rattle.lent_numbers.specs.Widths.{Width}
use Rattle.lent_numbers.proofs.WidthLaws.{width_le, width_pos}
pub use Rattle.data_raw.proofs.BlockLaws.{Storing, storing, place_more}
use Rattle.data_hex.specs.Forms.{digits_at, digits_refusal, bytes_of, Enough, Past, Taken, samples_at}
use Rattle.data_hex.proofs.DigitLaws.{refusal_first, refusal_after}
use Rattle.data_hex.proofs.JoinLaws.{joined, joined_bad, joined_good, joined_first, raw_then, raw_front, raw_all}
use Rattle.data_hex.proofs.SampleLaws.{bytes_drop, bytes_length, hex_raw, hex_fine}

-- ---- blocks of samples

-- m of n samples, after j
part_less : (w n j m : ℕ) → j + m ≤ n → j * w + m * w ≤ n * w
part_less w n j m h = omega (arith, mul-le-mul_right w h, add-mul j m w)

module _ (k : NumberKind) (w e : ℕ) (s : List ℕ) where
  -- the samples of bytes that were taken
  pub taken_samples : (m at : ℕ) (b : List ℕ) (next : ℕ) → m * w ≤ length b → Enough s at (m * w) → Taken s at (m * w) b next → raw_samples k w e m b ≡ samples_at k w e m s at
  taken_samples m at b next h f t = raw_front k w e m b (bytes_of (digits_at s at)) h (bytes_length (m * w) (digits_at s at) f) t.bytes

  -- a place after the digits of j samples
  abbrev After : ℕ → ℕ → Type 0
  After j at = Past s 0 (j * w) at

  after_none : After 0 0
  after_none =
      let z : 2 * (0 * w) ≡ 0 = omega arith in
      rw z

  module _ (j m at : ℕ) (place : After j at) where
    after_more : (next : ℕ) → Past s at (m * w) next → After (j + m) next
    after_more next q =
        let z : 2 * (j * w) + 2 * (m * w) ≡ 2 * ((j + m) * w) = omega (arith, add-mul j m w) in
        q ∙ ap (drop (2 * (m * w))) place ∙ drop-drop (2 * (m * w)) (2 * (j * w)) (without_blanks s) ∙ ap (λ (i : ℕ). drop i (without_blanks s)) z

    -- the samples of the block after those before it
    block_join : samples_at k w e (j + m) s 0 ≡ joined (samples_at k w e j s 0) (samples_at k w e m s at)
    block_join =
        let q : bytes_of (digits_at s at) ≡ drop (j * w) (bytes_of (without_blanks s)) = ap bytes_of place ∙ sym (bytes_drop (j * w) (without_blanks s)) in
        raw_then k w e j m (bytes_of (without_blanks s)) ∙ ap (λ (b : List ℕ). joined (samples_at k w e j s 0) (raw_samples k w e m b)) (sym q)

    -- its digits are there
    block_fine : (n : ℕ) → j + m ≤ n → Enough s 0 (n * w) → Enough s at (m * w)
    block_fine n h f =
        let l : 2 * (j * w) ≤ 2 * (n * w) = omega (arith, part_less w n j m h) in
        let i : 2 * (m * w) ≤ 2 * (n * w) - 2 * (j * w) = omega (arith, part_less w n j m h) in
        let g : digits_refusal (2 * (n * w) - 2 * (j * w)) (drop (2 * (j * w)) (without_blanks s)) ≡ 0 =
        sym (refusal_after (without_blanks s) l (refusal_first (without_blanks s) l f)) ∙ f in
        rw place (refusal_first (drop (2 * (j * w)) (without_blanks s)) i g)

  -- the first j of n samples, and the others
  first_join : (n j : ℕ) → j ≤ n → samples_at k w e n s 0 ≡ joined (samples_at k w e j s 0) (raw_samples k w e (n - j) (drop (j * w) (bytes_of (without_blanks s))))
  first_join n j h =
      let q : n ≡ j + (n - j) = omega arith in
      ap (λ (m : ℕ). samples_at k w e m s 0) q ∙ raw_then k w e j (n - j) (bytes_of (without_blanks s))

-- ---- a test of each block

-- a reason has a number
pub some_number : (reason : Reason) → reason_number reason ≡ 0 → ⊥
some_number reason e = grind arith

module _ (k : NumberKind) (w e n : ℕ) (s : List ℕ) where
  -- nothing of the j samples before a place is refused
  pub record Checking (at j : ℕ) : Type 0 where
    pub few : j ≤ n
    pub within : at ≤ length s
    pub goes : Enough s 0 (n * w) → After k w e s j at × ((samples_at k w e j s 0).number ≡ 0)

  pub checking_none : Checking 0 0
  unfolding raw_samples
  checking_none = record { few = omega arith; within = omega arith; goes = λ f. (after_none k w e s, refl) }

  module _ {at j : ℕ} (c : Checking at j) where
    module _ (m : ℕ) (h : j + m ≤ n) where
      module _ (f : Enough s 0 (n * w)) where
        place : After k w e s j at
        place = (c.goes f).0

        block : Enough s at (m * w)
        block = block_fine k w e s j m at place n h f

        block_number : (samples_at k w e (j + m) s 0).number ≡ (samples_at k w e m s at).number
        block_number = ap (λ (d : Decoded). d.number) (block_join k w e s j m at place ∙ joined_good (samples_at k w e j s 0) (samples_at k w e m s at) (c.goes f).1)

      pub checking_bad : (code : ℕ) → (Enough s at (m * w) → code ≡ (samples_at k w e m s at).number) → (code ≡ 0 → ⊥) → Enough s 0 (n * w) → code ≡ (samples_at k w e n s 0).number
      checking_bad code p b f =
          let q = block_number f ∙ sym (p (block f)) in
          sym (ap (λ (d : Decoded). d.number) (first_join k w e s n (j + m) h) ∙ joined_bad (samples_at k w e (j + m) s 0) _ (λ z. b (sym q ∙ z)) ∙ q)

      pub checking_more : (next : ℕ) → next ≤ length s → (Enough s at (m * w) → Past s at (m * w) next × ((samples_at k w e m s at).number ≡ 0)) → Checking next (j + m)
      checking_more next l p = record { few = h; within = l; goes = λ f. (after_more k w e s j m at (place f) next (p (block f)).0, block_number f ∙ (p (block f)).1) }

    pub checking_done : n ≤ j → Enough s 0 (n * w) → 0 ≡ (samples_at k w e n s 0).number
    checking_done h f =
        let q : j ≡ n = omega (arith, c.few) in
        sym (rw q at (c.goes f).1)

-- ---- what is lent, filled by blocks

-- the part from i on, where a run is put to its front
put_part : {A : Type 0} (i : ℕ) (p x d₀ d y : List A) → d ≡ over p d₀ → length p ≡ i → y ≡ over x (take (length d - i) (drop i d))
    → take i d ++ (y ++ drop (length d - i) (drop i d)) ≡ over (p ++ x) d₀
put_part i p x d₀ d y e l q =
    let n : length (drop i d) ≤ length d - i = omega (arith, length-drop i d) in
    let f : take i d ≡ p = ap (take i) e ∙ take_at p (drop (length p) d₀) i l in
    let b : drop i d ≡ drop (length p) d₀ = ap (drop i) e ∙ drop_at p (drop (length p) d₀) i l in
    let r : y ≡ x ++ drop (length p + length x) d₀ = q ∙ rw (take_all (length d - i) (drop i d) n, b, drop-drop (length x) (length p) d₀) in
    rw (f, r, drop_of_length-le (drop i d) {i = length d - i} n, append-nil, append_assoc, length-append p x)

-- a block of 128 bytes
pub block_size : (w : ℕ) → Width w → (0 < 128 / w) × (128 / w * w ≤ 128)
block_size w d = ((le-div_iff_mul-le (width_pos w d)).1 (omega (arith, width_le w d)), div-mul-le_self 128 w)

module _ {A : Type 0} (f : Storing ℤ A) (k : NumberKind) (w e n : ℕ) (s : List ℕ) (d₀ : List A) where
  -- the samples before a place stand in front
  pub record Filling (d : List A) (at j : ℕ) : Type 0 where
    pub few : j ≤ n
    pub within : at ≤ length s
    pub long : length d ≡ length d₀
    pub goes : (hex_samples k w e n (without_blanks s)).number ≡ 0 → After k w e s j at × (d ≡ over (f.store (samples_at k w e j s 0).seen) d₀)

  pub filling_none : Filling d₀ 0 0
  unfolding raw_samples
  filling_none = record { few = omega arith; within = omega arith; long = refl; goes = λ z. (after_none k w e s, rw f.none) }

  module _ (z : (hex_samples k w e n (without_blanks s)).number ≡ 0) where
    all_fine : Enough s 0 (n * w)
    all_fine = hex_fine k w e n (without_blanks s) z

    all_raw : hex_samples k w e n (without_blanks s) ≡ samples_at k w e n s 0
    all_raw = hex_raw k w e n (without_blanks s) all_fine

    -- nothing of the first samples is refused
    first_number : (i : ℕ) → i ≤ n → (samples_at k w e i s 0).number ≡ 0
    first_number i l =
        joined_first (samples_at k w e i s 0) (raw_samples k w e (n - i) (drop (i * w) (bytes_of (without_blanks s))))
        (sym (ap (λ (x : Decoded). x.number) (all_raw ∙ first_join k w e s n i l)) ∙ z)

    first_length : (i : ℕ) → i ≤ n → length (samples_at k w e i s 0).seen ≡ i
    first_length i l = raw_all k w e i (bytes_of (without_blanks s)) (first_number i l)

  module _ {d : List A} {at j : ℕ} (c : Filling d at j) where
    -- m samples more, stored from element i on
    pub filling_more :
        (m : ℕ) → j + m ≤ n → (next : ℕ) → next ≤ length s → (i : ℕ) → i ≡ f.place j → (y : List A) →
        (Enough s at (m * w) → Past s at (m * w) next × ((samples_at k w e m s at).number ≡ 0 → y ≡ over (f.store (samples_at k w e m s at).seen) (take (length d - i) (drop i d)))) →
        length (take i d ++ (y ++ drop (length d - i) (drop i d))) ≡ length d → Filling (take i d ++ (y ++ drop (length d - i) (drop i d))) next (j + m)
    filling_more m h next l i x y p r = record { few = h; within = l; long = r ∙ c.long; goes = goes }
      where
        goes : (hex_samples k w e n (without_blanks s)).number ≡ 0 → After k w e s (j + m) next × (take i d ++ (y ++ drop (length d - i) (drop i d)) ≡ over (f.store (samples_at k w e (j + m) s 0).seen) d₀)
        goes z =
            let place : After k w e s j at = (c.goes z).0 in
            let q = p (block_fine k w e s j m at place n h (all_fine z)) in
            let a : List ℤ = (samples_at k w e j s 0).seen in
            let b : List ℤ = (samples_at k w e m s at).seen in
            let t : samples_at k w e (j + m) s 0 ≡ record { number = (samples_at k w e m s at).number; seen = a ++ b } =
            block_join k w e s j m at place ∙ joined_good (samples_at k w e j s 0) (samples_at k w e m s at) (first_number z j c.few) in
            let v : (samples_at k w e m s at).number ≡ 0 = sym (ap (λ (x : Decoded). x.number) t) ∙ first_number z (j + m) h in
            let u : length (f.store a) ≡ i = f.long a ∙ ap f.place (first_length z j c.few) ∙ sym x in
            (after_more k w e s j m at place next q.0, rw (t, f.join a b) (put_part i (f.store a) (f.store b) d₀ d y (c.goes z).1 u (q.1 v)))

    pub filling_done : n ≤ j → (hex_samples k w e n (without_blanks s)).number ≡ 0 → d ≡ over (f.store (hex_samples k w e n (without_blanks s)).seen) d₀
    filling_done h z =
        let q : j ≡ n = omega (arith, c.few) in
        rw (all_raw z) (rw q at (c.goes z).1)
