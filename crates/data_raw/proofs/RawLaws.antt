-- Laws of raw samples, each stated once, over the width.
-- Assumes nothing.
use Rattle.std.specs.Prelude.{if◌then◌else◌}
use Rattle.std.proofs.Common.{◌≡◌, ℕ, zero, suc, ◌+◌, ◌-◌, ◌*◌, ◌/◌, ◌%◌, ◌^◌, ◌<◌, ◌≤◌, min, Bool, true, false, ◌&&◌, eqb, ltb, leb, List, [], ◌∷◌, reverse, length, get_or, take, drop, ℤ, pos, ◌-ℤ◌, sym, refl, ap, ◌∙◌, mod-eq_of_lt, suc-mul, add-one, mul-le-mul_right, arith, lit≤, length-drop, get_or-drop, drop-drop, w64, ltb-false, ltb-true, le-ltb, lt-ltb, eq-eqb, ne_eqb, eqb-true, le-leb, leb-false, leb-true}
use Rattle.std.specs.Int.{w16, w32, byte_at, bytes_low_first, from_be_bytes, swap_bytes}
use native.Mathlib.Nat.{add-mod_right}
use Rattle.lent_numbers.proofs.Arrays.{le_bytes}
use lib.IntN.{sub_ℕ}
use lib.Seq.{sets, length-sets}
use borrow.Author.Tests.{eqb-false}
use Rattle.format.specs.Bytes.{over}
use Rattle.format.specs.Descriptors.{NumberKind, signed, unsigned}
use Rattle.format.specs.Limits.{max_sample}
use Rattle.format.specs.Refusals.{bad_sample}
use Rattle.format.specs.Samples.{Decoded, raw_samples, then_samples, with_sample, stopped, sample_value, value_of_bits, in_type, from_bytes, to_bytes, ordered, to_signed}
use Rattle.format.proofs.Samples.{AllBytes, all_bytes, to_from_bytes, from_bytes_below, ordered_bytes, length_ordered}
pub use Rattle.lent_numbers.proofs.Halves.{from_append, load_one, sample_is}
use Rattle.format.proofs.Stores.{sets_then}
use Rattle.data_raw.proofs.BlockLaws.{Storing, place_more, place_zero}
pub use Rattle.lent_numbers.proofs.Stores.{sets_over}
use Rattle.lent_numbers.proofs.Halves.{length_part}
use Rattle.format.proofs.Boundary.{bytes_take, bytes_drop}
use Rattle.lent_numbers.proofs.WidthLaws.{by_width}
use Rattle.data_raw.specs.Bits.{Bits, turned, folded, bits_at, sample_at}
use Rattle.lent_numbers.specs.Widths.{Width, kind_by, endian_by}

-- the sample at a place by the number x there: what holds of the value of x holds of the sample
pub sample_of_lem : (s : List ℕ) (at w : ℕ) → at + w ≤ length s → (sign big : Bool) {x : ℕ} {r : ℤ} → x ≡ bits_at big w s at
    → (in_type (kind_by sign) w (value_of_bits (kind_by sign) w x) ≡ true → r ≡ value_of_bits (kind_by sign) w x)
    → in_type (kind_by sign) w (sample_at sign big w s at) ≡ true → r ≡ sample_at sign big w s at
sample_of_lem s at w h sign big p f = rw (sample_is s at w h (kind_by sign) (endian_by big), sym p) f

-- ---- the bytes in the other order

module _ (a b c d e f g h : ℕ) where
  be_2 : from_be_bytes w16 (a ∷ b ∷ []) ≡ from_bytes (reverse (a ∷ b ∷ []))
  unfolding from_bytes
  be_2 = omega arith

  be_4 : from_be_bytes w32 (a ∷ b ∷ c ∷ d ∷ []) ≡ from_bytes (reverse (a ∷ b ∷ c ∷ d ∷ []))
  unfolding from_bytes
  be_4 = omega arith

  be_8 : from_be_bytes w64 (a ∷ b ∷ c ∷ d ∷ e ∷ f ∷ g ∷ h ∷ []) ≡ from_bytes (reverse (a ∷ b ∷ c ∷ d ∷ e ∷ f ∷ g ∷ h ∷ []))
  unfolding from_bytes
  be_8 = omega arith

turned_is : (n x : ℕ) → from_bytes (reverse (bytes_low_first 0 n x)) ≡ turned n x
unfolding turned
turned_is n x = ap (λ (l : List ℕ). from_bytes (reverse l)) (le_bytes n x)

pub swapped_2 : (x : ℕ) → swap_bytes w16 x ≡ turned 2 x
swapped_2 x = be_2 (byte_at 0 x) (byte_at 1 x) 0 0 0 0 0 0 ∙ turned_is 2 x

pub swapped_4 : (x : ℕ) → swap_bytes w32 x ≡ turned 4 x
swapped_4 x = be_4 (byte_at 0 x) (byte_at 1 x) (byte_at 2 x) (byte_at 3 x) 0 0 0 0 ∙ turned_is 4 x

pub swapped_8 : (x : ℕ) → swap_bytes w64 x ≡ turned 8 x
swapped_8 x = be_8 (byte_at 0 x) (byte_at 1 x) (byte_at 2 x) (byte_at 3 x) (byte_at 4 x) (byte_at 5 x) (byte_at 6 x) (byte_at 7 x) ∙ turned_is 8 x

-- one byte
pub turned_1 : (w x : ℕ) → w ≡ 1 → x < 256 ^ w → Bits w (turned w x) x
unfolding turned from_bytes to_bytes
turned_1 w x e h = let l : x < 256 ^ 1 = rw e at h in rw e (record { is = omega arith; less = l })

-- ---- the number at a place

module _ (s : List ℕ) (at w : ℕ) (h : at + w ≤ length s) where
  -- the bytes of the loaded number in the other order
  pub turned_part : ((i : ℕ) → get_or s i 0 < 256) → turned w (from_bytes (take w (drop at s))) ≡ from_bytes (reverse (take w (drop at s)))
  unfolding turned
  turned_part f =
      let p : AllBytes (take w (drop at s)) = bytes_take w (drop at s) (bytes_drop at s (all_bytes s f)) in
      ap (λ (l : List ℕ). from_bytes (reverse l)) (rw (length_part s at w h) at (to_from_bytes (take w (drop at s)) p))

  pub bits_below : (e : ℕ) → ((i : ℕ) → get_or s i 0 < 256) → from_bytes (ordered e (take w (drop at s))) < 256 ^ w
  bits_below e f =
      let l = take w (drop at s) in
      let p : AllBytes l = bytes_take w (drop at s) (bytes_drop at s (all_bytes s f)) in
      rw (length_ordered e l, length_part s at w h) at (from_bytes_below (ordered e l) (ordered_bytes e l p))

-- ---- two's complement

module _ (x h : ℕ) (b : x < 2 * h) where
  -- x and half the range, modulo the range
  shift_low : x < h → (x + h) % (2 * h) ≡ x + h
  shift_low l = mod-eq_of_lt (omega arith)

  shift_high : h ≤ x → (x + h) % (2 * h) ≡ x - h
  shift_high l =
      let e : x + h ≡ (x - h) + 2 * h = omega arith in
      ap (λ (n : ℕ). n % (2 * h)) e ∙ add-mod_right (x - h) (2 * h) ∙ mod-eq_of_lt (omega arith)

  -- the difference of the two is x in two's complement
  pub shifted : sub_ℕ ((x + h) % (2 * h)) h ≡ folded h x
  shifted = go (ltb x h) refl
    where
      go : (t : Bool) → ltb x h ≡ t → sub_ℕ ((x + h) % (2 * h)) h ≡ folded h x
      go true e =
          let l : x < h = ltb-true x h e in
          let q : x + h - h ≡ x = omega arith in
          rw (shift_low l, le-ltb (x + h) h (omega arith), q, e)
      go false e =
          let l : h ≤ x = ltb-false x h e in
          let q : h - suc (x - h) ≡ 2 * h - 1 - x = omega arith in
          rw (shift_high l, lt-ltb (x - h) h (omega arith), q, e)

pub minus : (m h : ℕ) → pos m -ℤ pos h ≡ sub_ℕ m h
minus m zero =
    let o : m - 0 ≡ m = omega arith in
    let p : m + 0 ≡ m = omega arith in
    rw (le-ltb m 0 (omega arith), o, p)
minus m (suc h) = refl

-- ---- the types

-- an unsigned value of a type is below 2 ^ 63
pub unsigned_small : (w x : ℕ) → in_type unsigned w (pos x) ≡ true → x < 2 ^ 63
unfolding in_type
unsigned_small w x e = omega (arith, leb-true x (min (256 ^ w - 1) max_sample) e)

-- a signed value is in its type
pub signed_in : (w n : ℕ) → Width w → n < 256 ^ w → in_type signed w (to_signed w n) ≡ true
unfolding in_type
signed_in w n d h = go (ltb n (256 ^ w / 2)) refl
  where
    even : 256 ^ w / 2 * 2 ≡ 256 ^ w
    even = by_width w d (λ e. rw e) (λ e. rw e) (λ e. rw e) (λ e. rw e)

    go : (t : Bool) → ltb n (256 ^ w / 2) ≡ t → in_type signed w (to_signed w n) ≡ true
    go true e = rw e (le-leb n (256 ^ w / 2 - 1) (omega (arith, ltb-true n (256 ^ w / 2) e)))
    go false e = rw e (lt-ltb (256 ^ w - 1 - n) (256 ^ w / 2) (omega (arith, even, ltb-false n (256 ^ w / 2) e)))

-- an unsigned value of less than 8 bytes is in its type
pub unsigned_in : (w n : ℕ) → Width w → (w ≡ 8 → ⊥) → n < 256 ^ w → in_type unsigned w (pos n) ≡ true
unfolding in_type
unsigned_in w n d not_8 h = le-leb n (min (256 ^ w - 1) max_sample) (omega (arith, narrow))
  where
    narrow : 256 ^ w ≤ 2 ^ 32
    narrow = by_width w d (λ e. rw e (lit≤ tt)) (λ e. rw e (lit≤ tt)) (λ e. rw e (lit≤ tt)) (λ e. absurd (not_8 e))

-- an unsigned value of 8 bytes is in its type where it is at most the largest sample
pub word_in : (n : ℕ) → in_type unsigned 8 (pos n) ≡ leb n max_sample
unfolding in_type
word_in n = refl

-- a number of 8 bytes is above the largest sample or not
pub above_one : (x : ℕ) → x < 2 ^ 64 → x / 9223372036854775808 ≡ (if leb x max_sample then 0 else 1)
above_one x h = go (leb x max_sample) refl
  where
    go : (t : Bool) → leb x max_sample ≡ t → x / 9223372036854775808 ≡ (if t then 0 else 1)
    go true e = omega (arith, leb-true x max_sample e)
    go false e = omega (arith, leb-false x max_sample e)

-- a count of those above is zero as long as none of them is
pub count_more : (m : ℕ) (t : Bool) → eqb (m + (if t then 0 else 1)) 0 ≡ (eqb m 0 && t)
count_more m t = go (eqb m 0) t refl
  where
    go : (u t : Bool) → eqb m 0 ≡ u → eqb (m + (if t then 0 else 1)) 0 ≡ (u && t)
    go true true p = eq-eqb (m + 0) 0 (omega (arith, eqb-true m 0 p))
    go true false p = ne_eqb (m + 1) 0 (λ e. absurd (omega (arith, e)))
    go false true p = ne_eqb (m + 0) 0 (λ e. eqb-false m 0 p (omega (arith, e)))
    go false false p = ne_eqb (m + 1) 0 (λ e. absurd (omega (arith, e)))

pub at_most_one : (t : Bool) {r : ℕ} → r ≡ (if t then 0 else 1) → r ≤ 1
at_most_one true e = omega (arith, e)
at_most_one false e = omega (arith, e)

-- ---- the samples of a list

-- there are at most n samples
pub raw_few : (k : NumberKind) (w e n : ℕ) (s : List ℕ) → length (raw_samples k w e n s).seen ≤ n
unfolding raw_samples
raw_few k w e zero s = lit≤ tt
raw_few k w e (suc n) s = go (raw_few k w e n (drop w s)) (in_type k w (sample_value k e (take w s)))
  where
    go : length (raw_samples k w e n (drop w s)).seen ≤ n → (t : Bool) → length (if t then with_sample (sample_value k e (take w s)) (raw_samples k w e n (drop w s)) else stopped bad_sample).seen ≤ suc n
    go h true = omega arith
    go h false = omega arith

-- ---- samples that are all in their type

raw_fine : (k : NumberKind) (w e : ℕ) → ((x : ℕ) → x < 256 ^ w → in_type k w (value_of_bits k w x) ≡ true) → (n : ℕ) (s : List ℕ) → ((i : ℕ) → get_or s i 0 < 256) → n * w ≤ length s → (raw_samples k w e n s).number ≡ 0
unfolding raw_samples
raw_fine k w e f zero s b h = refl
raw_fine k w e f (suc n) s b h =
    let l : 0 + w ≤ length s = omega (arith, suc-mul n w) in
    let r : n * w ≤ length (drop w s) = omega (arith, suc-mul n w, length-drop w s) in
    let g : (i : ℕ) → get_or (drop w s) i 0 < 256 = λ i. rw (get_or-drop w s i 0) (b (w + i)) in
    let i : in_type k w (sample_value k e (take w s)) ≡ true =
    rw (sample_is s 0 w l k e) (f (from_bytes (ordered e (take w s))) (bits_below s 0 w l e b)) in
    rw i (raw_fine k w e f n (drop w s) g r)

module _ (w e n : ℕ) (s : List ℕ) (d : Width w) (b : (i : ℕ) → get_or s i 0 < 256) (h : n * w ≤ length s) where
  pub signed_fine : (raw_samples signed w e n s).number ≡ 0
  signed_fine = raw_fine signed w e (λ x l. signed_in w x d l) n s b h

  pub narrow_fine : (w ≡ 8 → ⊥) → (raw_samples unsigned w e n s).number ≡ 0
  narrow_fine not_8 = raw_fine unsigned w e (λ x l. unsigned_in w x d not_8 l) n s b h

-- ---- the samples one after another

module _ (k : NumberKind) (w e n : ℕ) (s : List ℕ) where
  -- the samples from number j on
  abbrev left : ℕ → Decoded
  left j = raw_samples k w e (n - j) (drop (j * w) s)

  abbrev sample_of : ℕ → ℤ
  sample_of j = sample_value k e (take w (drop (j * w) s))

  next_place : (j : ℕ) → j * w + w ≡ (j + 1) * w
  next_place j = sym (suc-mul j w) ∙ ap (λ (i : ℕ). i * w) (sym (add-one j))

  step : (j : ℕ) → j < n → left j ≡ then_samples k w (sample_of j) (left (j + 1))
  unfolding raw_samples
  step j h =
      let q : n - j ≡ suc (n - (j + 1)) = omega arith in
      ap (λ (m : ℕ). raw_samples k w e m (drop (j * w) s)) q
      ∙ ap (λ (l : List ℕ). then_samples k w (sample_of j) (raw_samples k w e (n - (j + 1)) l)) (drop-drop w (j * w) s ∙ ap (λ (i : ℕ). drop i s) (next_place j))

  none_left : (j : ℕ) → n ≤ j → left j ≡ raw_samples k w e 0 (drop (j * w) s)
  none_left j h =
      let q : n - j ≡ 0 = omega arith in
      rw q

  all_left : raw_samples k w e n s ≡ left 0
  all_left =
      let q : n ≡ n - 0 = omega arith in
      let z : 0 ≡ 0 * w = omega arith in
      ap (λ (m : ℕ). raw_samples k w e m s) q ∙ ap (λ (i : ℕ). raw_samples k w e (n - 0) (drop i s)) z

  -- sample j lies inside
  pub within : {j : ℕ} → j < n → n * w ≤ length s → j * w + w ≤ length s
  within {j = j} h r = omega (arith, r, next_place j, mul-le-mul_right {m = j + 1} {n = n} w (omega arith))

  -- ---- a test of each

  -- the samples before j are fine, or one of them is not
  pub record Testing (fine : Bool) (j : ℕ) : Type 0 where
    pub few : j ≤ n
    pub same : (raw_samples k w e n s).number ≡ (if fine then (left j).number else bad_sample)

  pub testing_none : Testing true 0
  testing_none = record { few = omega arith; same = ap (λ (d : Decoded). d.number) all_left }

  module _ {j : ℕ} where
    pub testing_more : j < n → (fine b : Bool) → Testing fine j → in_type k w (sample_of j) ≡ b → Testing (fine && b) (j + 1)
    testing_more h true true t q = record { few = omega arith; same = t.same ∙ ap (λ (d : Decoded). d.number) (step j h) ∙ rw q }
    testing_more h true false t q = record { few = omega arith; same = t.same ∙ ap (λ (d : Decoded). d.number) (step j h) ∙ rw q }
    testing_more h false b t q = record { few = omega arith; same = t.same }

    pub testing_done : n ≤ j → Testing true j → (raw_samples k w e n s).number ≡ 0
    unfolding raw_samples
    testing_done h t = t.same ∙ ap (λ (d : Decoded). d.number) (none_left j h)

  -- ---- cells that are filled

  module _ {A : Type 0} (f : Storing ℤ A) (d₀ : List A) where
    abbrev Goes : List A → ℕ → Type 0
    Goes d j = ((left j).number ≡ 0) × (sets d₀ 0 (f.store (raw_samples k w e n s).seen) ≡ sets d (f.place j) (f.store (left j).seen))

    -- the samples before j are stored
    pub record Filling (d : List A) (j : ℕ) : Type 0 where
      pub few : j ≤ n
      pub long : length d ≡ length d₀
      pub goes : (raw_samples k w e n s).number ≡ 0 → Goes d j

    pub filling_none : Filling d₀ 0
    filling_none = record {
      few = omega arith;
      long = refl;
      goes = λ z. (sym (ap (λ (d : Decoded). d.number) all_left) ∙ z, ap (λ (d : Decoded). sets d₀ 0 (f.store d.seen)) all_left ∙ ap (λ (i : ℕ). sets d₀ i (f.store (left 0).seen)) (sym (place_zero f)));
    }

    module _ {d : List A} {j : ℕ} (l : Filling d j) where
      module _ (h : j < n) where
        -- sample j has its place
        pub filling_place : f.place n ≤ length d₀ → f.place (j + 1) ≤ length d
        filling_place g = omega (arith, l.long, g, place_more f (j + 1) n (omega arith))

        goes_on : (x : ℤ) (d' : List A) → d' ≡ sets d (f.place j) (f.store (x ∷ [])) → (in_type k w (sample_of j) ≡ true → x ≡ sample_of j) → Goes d j → Goes d' (j + 1)
        goes_on x d' y q g = go (in_type k w (sample_of j)) refl (sym (ap (λ (r : Decoded). r.number) (step j h)) ∙ g.0) (g.1 ∙ ap (λ (r : Decoded). sets d (f.place j) (f.store r.seen)) (step j h))
          where
            next : Decoded
            next = left (j + 1)

            one : f.place (j + 1) ≡ f.place j + length (f.store (x ∷ []))
            one = f.more j 1 ∙ ap (λ (i : ℕ). f.place j + i) (sym (f.long (x ∷ [])))

            moved : sets d (f.place j) (f.store (x ∷ next.seen)) ≡ sets d' (f.place (j + 1)) (f.store next.seen)
            moved =
                ap (sets d (f.place j)) (f.join (x ∷ []) next.seen)
                ∙ sym (sets_then d (f.store (x ∷ [])) (f.store next.seen) (f.place j) (f.place (j + 1)) one)
                ∙ ap (λ (u : List A). sets u (f.place (j + 1)) (f.store next.seen)) (sym y)

            go : (t : Bool) → in_type k w (sample_of j) ≡ t → (if t then with_sample (sample_of j) next else stopped bad_sample).number ≡ 0
                → sets d₀ 0 (f.store (raw_samples k w e n s).seen) ≡ sets d (f.place j) (f.store (if t then with_sample (sample_of j) next else stopped bad_sample).seen)
                → Goes d' (j + 1)
            go true i z p = (z, p ∙ ap (λ (v : ℤ). sets d (f.place j) (f.store (v ∷ next.seen))) (sym (q i)) ∙ moved)
            go false i z p = absurd (omega arith)

        pub filling_more : (x : ℤ) (d' : List A) → d' ≡ sets d (f.place j) (f.store (x ∷ [])) → (in_type k w (sample_of j) ≡ true → x ≡ sample_of j) → Filling d' (j + 1)
        filling_more x d' y q = record {
          few = omega arith;
          long = ap length y ∙ length-sets d (f.place j) (f.store (x ∷ [])) ∙ l.long;
          goes = λ z. goes_on x d' y q (l.goes z);
        }

      pub filling_done : n ≤ j → f.place n ≤ length d₀ → (raw_samples k w e n s).number ≡ 0 → d ≡ over (f.store (raw_samples k w e n s).seen) d₀
      unfolding raw_samples
      filling_done h g z =
          let few = place_more f (length (raw_samples k w e n s).seen) n (raw_few k w e n s) in
          sym ((l.goes z).1 ∙ ap (λ (r : Decoded). sets d (f.place j) (f.store r.seen)) (none_left j h) ∙ ap (sets d (f.place j)) f.none)
          ∙ sets_over (f.store (raw_samples k w e n s).seen) d₀ (omega (arith, f.long (raw_samples k w e n s).seen, few, g))
