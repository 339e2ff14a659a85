-- Laws of samples of 1 or 2 bytes, which go by way of numbers of 16 bits.
-- Assumes nothing.
use Rattle.std.specs.Prelude.{if◌then◌else◌}
use Rattle.std.proofs.Common.{◌≡◌, ℕ, zero, suc, ◌+◌, ◌*◌, ◌%◌, ◌^◌, ◌<◌, ◌≤◌, min, Bool, true, false, ltb, List, [], ◌∷◌, length, get_or, take, drop, set, ℤ, pos, ◌-ℤ◌, sym, refl, ap, ◌∙◌, append-nil, mul_comm, mul-le-mul_right, suc-mul, add-mul, arith, lit<, length-drop, drop_of_length-le, get_or-drop, drop-drop, to_z-of_z, w64, SFits, to_z, of_z, eq-eqb, ne_eqb}
use lib.IntN.{sub_ℕ}
use lib.ListN.{length-map}
use lib.Seq.{sets}
use mir.Facts.{to_z_pos}
use Rattle.format.specs.Bytes.{over}
use Rattle.format.specs.Refusals.{bad_sample}
use Rattle.format.specs.Samples.{Decoded, raw_samples, sample_value, in_type, with_sample, stopped}
use Rattle.lent_numbers.proofs.WidthLaws.{by_width}
use Rattle.lent_numbers.specs.Widths.{Width, kind_by, endian_by}
use Rattle.data_raw.specs.Bits.{bits_at, range, lifts, low, lows, Shifts}
use Rattle.data_raw.proofs.BlockLaws.{Storing, in_list, Run, run_none, run_more, run_done, Blocks, blocks_none, blocks_long, blocks_more, blocks_done}
use Rattle.data_raw.proofs.RawLaws.{minus, shifted, sample_is, bits_below, sets_over}

-- the range by the width
pub range_2 : (w : ℕ) → w ≡ 2 → range w ≡ 65536
range_2 w e = rw (eq-eqb w 2 e)

pub range_1 : (w : ℕ) → (w ≡ 2 → ⊥) → range w ≡ 256
range_1 w n = rw (ne_eqb w 2 n)

-- a number of 1 or 2 bytes is below the range
pub narrow_below : (w x : ℕ) → Width w → w ≤ 2 → x < 256 ^ w → x < range w
narrow_below w x d l h = by_width w d (λ e. rw e (rw e at h)) (λ e. rw e (rw e at h)) (λ e. absurd (omega (arith, e))) (λ e. absurd (omega (arith, e)))

-- ---- the shifts of the types

pub int8 : Shifts 1 true 128
int8 = record { within = lit< tt; back = λ x h. shifted x 128 h }

pub int16 : Shifts 2 true 32768
int16 = record { within = lit< tt; back = λ x h. shifted x 32768 h }

pub uint8 : Shifts 1 false 0
uint8 = record { within = lit< tt; back = λ x h. ap pos (omega arith) }

pub uint16 : Shifts 2 false 0
uint16 = record { within = lit< tt; back = λ x h. ap pos (omega arith) }

pub uint16_biased : Shifts 2 false 32768
uint16_biased = record { within = lit< tt; back = λ x h. ap pos (omega arith) }

-- ---- the difference of two numbers of 16 bits

module _ (x q : ℕ) (b : x < 65536) (l : q < 65536) where
  sub_fits : SFits w64 (sub_ℕ x q)
  sub_fits = go (ltb x q) refl
    where
      go : (t : Bool) → ltb x q ≡ t → SFits w64 (sub_ℕ x q)
      go true e = rw e (record { sfits = omega arith })
      go false e = rw e (record { sfits = omega arith })

  lowered_value : to_z w64 x -ℤ to_z w64 q ≡ sub_ℕ x q
  lowered_value = rw (to_z_pos w64 {n = x} (omega arith), to_z_pos w64 {n = q} (omega arith)) (minus x q)

  pub lowered_fits : SFits w64 (to_z w64 x -ℤ to_z w64 q)
  lowered_fits = rw lowered_value sub_fits

  pub lowered_kept : to_z w64 (of_z w64 (to_z w64 x -ℤ to_z w64 q)) ≡ sub_ℕ x q
  lowered_kept = to_z-of_z lowered_fits ∙ lowered_value

-- ---- the numbers of samples, lifted

module _ (big : Bool) (w up : ℕ) where
  pub length_lifts : (n : ℕ) (s : List ℕ) → length (lifts big w up n s) ≡ n
  unfolding lifts
  length_lifts zero s = refl
  length_lifts (suc n) s = ap suc (length_lifts n (drop w s))

  -- number i
  pub lifts_at : (n : ℕ) (s : List ℕ) (i z : ℕ) → i < n → get_or (lifts big w up n s) i z ≡ (bits_at big w s (i * w) + up) % range w
  unfolding lifts
  lifts_at zero s i z h = absurd (omega arith)
  lifts_at (suc n) s zero z h =
      let q : 0 * w ≡ 0 = omega arith in
      rw q
  lifts_at (suc n) s (suc i) z h =
      let q : w + i * w ≡ suc i * w = omega (arith, suc-mul i w) in
      lifts_at n (drop w s) i z (omega arith) ∙ rw (drop-drop (i * w) w s, q)

  module _ (sign : Bool) where
    first_part : (m n : ℕ) (s : List ℕ) → m ≤ n → take m (lows sign up (lifts big w up n s)) ≡ lows sign up (lifts big w up m s)
    unfolding lifts
    first_part zero n s h = refl
    first_part (suc m) zero s h = absurd (omega arith)
    first_part (suc m) (suc n) s h = ap (λ (l : List ℤ). low sign up ((bits_at big w s 0 + up) % range w) ∷ l) (first_part m n (drop w s) (omega arith))

    -- those of m samples from k on
    pub block_part : (k m n : ℕ) (s : List ℕ) → k + m ≤ n → lows sign up (lifts big w up m (drop (k * w) s)) ≡ take m (drop k (lows sign up (lifts big w up n s)))
    unfolding lifts
    block_part zero m n s h =
        let e : 0 * w ≡ 0 = omega arith in
        rw e (sym (first_part m n s (omega arith)))
    block_part (suc k) m zero s h = absurd (omega arith)
    block_part (suc k) m (suc n) s h =
        let e : w + k * w ≡ suc k * w = omega (arith, suc-mul k w) in
        ap (λ (l : List ℕ). lows sign up (lifts big w up m l)) (ap (λ (i : ℕ). drop i s) (sym e) ∙ sym (drop-drop (k * w) w s)) ∙ block_part k m n (drop w s) (omega arith)

    -- lowered they are the samples
    pub lowered_samples : Width w → w ≤ 2 → Shifts w sign up → (n : ℕ) (s : List ℕ) → ((i : ℕ) → get_or s i 0 < 256) → n * w ≤ length s
        → (raw_samples (kind_by sign) w (endian_by big) n s).number ≡ 0 → lows sign up (lifts big w up n s) ≡ (raw_samples (kind_by sign) w (endian_by big) n s).seen
    unfolding lifts raw_samples
    lowered_samples d l f zero s b h z = refl
    lowered_samples d l f (suc n) s b h z =
        go (in_type (kind_by sign) w v) z (λ y. lowered_samples d l f n (drop w s) (λ i. rw (get_or-drop w s i 0) (b (w + i))) (omega (arith, suc-mul n w, length-drop w s)) y)
      where
        v : ℤ
        v = sample_value (kind_by sign) (endian_by big) (take w s)

        rest : Decoded
        rest = raw_samples (kind_by sign) w (endian_by big) n (drop w s)

        x : ℕ
        x = bits_at big w s 0

        r : 0 + w ≤ length s
        r = omega (arith, suc-mul n w)

        first : low sign up ((x + up) % range w) ≡ v
        first = f.back x (narrow_below w x d l (bits_below s 0 w r (endian_by big) b)) ∙ sym (sample_is s 0 w r (kind_by sign) (endian_by big))

        go : (t : Bool) → (if t then with_sample v rest else stopped bad_sample).number ≡ 0 → (rest.number ≡ 0 → lows sign up (lifts big w up n (drop w s)) ≡ rest.seen)
            → low sign up ((x + up) % range w) ∷ lows sign up (lifts big w up n (drop w s)) ≡ (if t then with_sample v rest else stopped bad_sample).seen
        go true y g = rw (first, g y)
        go false y g = absurd (omega arith)

-- ---- the loops of a block of n numbers

-- number i goes to its place, and is read at `from`
-- number i lies inside
pub lifting_room : (w n : ℕ) (s : List ℕ) (at : ℕ) {i : ℕ} → i < n → at + n * w ≤ length s → at + w * i + w ≤ length s
lifting_room w n s at {i = i} h r = omega (arith, mul_comm i w, suc-mul i w, mul-le-mul_right w h)

module _ (big : Bool) (w up n : ℕ) (s : List ℕ) (at : ℕ) (a₀ : List ℕ) where
  abbrev pub numbers : List ℕ
  numbers = lifts big w up n (drop at s)

  abbrev pub Lifting : List ℕ → ℕ → Type 0
  Lifting a i = Run in_list numbers a₀ 0 a i i

  pub lifting_none : Lifting a₀ 0
  lifting_none = run_none in_list numbers a₀ 0 0 refl

  module _ {a : List ℕ} {i : ℕ} (l : Lifting a i) where
    pub lifting_more : i < n → (y : ℕ) → y ≡ (bits_at big w s (at + w * i) + up) % range w → Lifting (set a i y) (i + 1)
    lifting_more h y q =
        let p : at + i * w ≡ at + w * i = omega (arith, mul_comm i w) in
        let e : get_or numbers i y ≡ (bits_at big w s (at + w * i) + up) % range w = lifts_at big w up n (drop at s) i y h ∙ rw (drop-drop (i * w) at s, p) in
        run_more in_list numbers a₀ 0 l y (omega (arith, length_lifts big w up n (drop at s))) (q ∙ sym e) (set a i y) refl (i + 1) refl

    pub lifting_done : n ≤ i → length a₀ ≡ n → a ≡ numbers
    lifting_done h r =
        let e : length numbers ≡ n = length_lifts big w up n (drop at s) in
        run_done in_list numbers a₀ 0 l (omega (arith, e))
        ∙ sets_over numbers a₀ (omega (arith, e, r))
        ∙ rw (drop_of_length-le a₀ {i = length numbers} (omega (arith, e, r)), append-nil)

lows_at : (sign : Bool) (up : ℕ) (a : List ℕ) (j : ℕ) (z : ℤ) → j < length a → get_or (lows sign up a) j z ≡ low sign up (get_or a j 0)
lows_at sign up [] j z h = absurd (omega arith)
lows_at sign up (y ∷ a) zero z h = refl
lows_at sign up (y ∷ a) (suc j) z h = lows_at sign up a j z (omega arith)

-- the samples of the numbers a go to the places from k on
module _ {A : Type 0} (f : Storing ℤ A) (sign : Bool) (up n : ℕ) (a : List ℕ) (r : length a ≡ n) (d₀ : List A) (k : ℕ) where
  abbrev pub Lowering : List A → ℕ → ℕ → Type 0
  Lowering d o j = Run f (lows sign up a) d₀ k d o j

  module _ {d : List A} {o j : ℕ} (l : Lowering d o j) where
    pub lowering_more : j < n → (z : ℤ) → z ≡ low sign up (get_or a j 0) → (x d' : List A) → x ≡ f.store (z ∷ []) → d' ≡ sets d o x → (o' : ℕ) → o' ≡ o + f.place 1 → Lowering d' o' (j + 1)
    lowering_more h z e x d' g i o' y =
        run_more f (lows sign up a) d₀ k l z (omega (arith, r, length-map a (low sign up))) (e ∙ sym (lows_at sign up a j z (omega (arith, r)))) d' (i ∙ ap (sets d o) g) o' y

    pub lowering_done : n ≤ j → d ≡ sets d₀ k (f.store (lows sign up a))
    lowering_done h = run_done f (lows sign up a) d₀ k l (omega (arith, r, length-map a (low sign up)))

-- ---- n samples by blocks of 64

module _ {A : Type 0} (f : Storing ℤ A) (s : List ℕ) (n w : ℕ) (sign big : Bool) (up : ℕ) (d₀ : List A) (last : ℕ) where
  abbrev all : List ℤ
  all = lows sign up (lifts big w up n s)

  abbrev pub Narrow : List A → ℕ → Type 0
  Narrow d k = Blocks f (lows sign up (lifts big w up n s)) d₀ last 64 d k

  long : length all ≡ n
  long = length-map (lifts big w up n s) (low sign up) ∙ length_lifts big w up n s

  pub narrow_none : n ≡ last + 64 → f.place n ≤ length d₀ → Narrow d₀ 0
  narrow_none e r = blocks_none f all d₀ last 64 (long ∙ e) (rw e at r)

  module _ {d : List A} {k : ℕ} (b : Narrow d k) where
    pub narrow_long : length d ≡ length d₀
    narrow_long = blocks_long f all d₀ last 64 b

    -- a block is within the samples
    pub narrow_within : k + 64 ≤ n
    narrow_within = omega (arith, b.size, b.most, long)

    pub narrow_room : n * w ≤ length s → k * w + 64 * w ≤ length s
    narrow_room h = omega (arith, mul-le-mul_right w narrow_within, add-mul k 64 w)

    module _ {a : List ℕ} {d' : List A} (g : a ≡ lifts big w up 64 (drop (k * w) s)) (e : d' ≡ sets d (f.place k) (f.store (lows sign up a))) where
      block : d' ≡ sets d (f.place k) (f.store (take 64 (drop k all)))
      block = e ∙ ap (λ (l : List ℤ). sets d (f.place k) (f.store l)) (ap (lows sign up) g ∙ block_part big w up sign k 64 n s narrow_within)

      pub narrow_more : (k' : ℕ) → k' ≡ min (k + 64) last → Narrow d' k'
      narrow_more = blocks_more f all d₀ last 64 b block

      pub narrow_done : Width w → w ≤ 2 → Shifts w sign up → ((i : ℕ) → get_or s i 0 < 256) → n * w ≤ length s → k ≡ last
          → (raw_samples (kind_by sign) w (endian_by big) n s).number ≡ 0 → d' ≡ over (f.store (raw_samples (kind_by sign) w (endian_by big) n s).seen) d₀
      narrow_done x l v i h y z = blocks_done f all d₀ last 64 b block y ∙ ap (λ (u : List ℤ). over (f.store u) d₀) (lowered_samples big w up sign x l v n s i h z)
