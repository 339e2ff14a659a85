-- Laws of the refusals: the tests of the numbers, the capped product, and the samples in range.
-- Assumes nothing.
use Rattle.std.specs.Prelude.{if◌then◌else◌, Result, Ok, Err}
use Rattle.std.specs.Result.{IsErr, IsErrAnd}
use Rattle.std.proofs.Common.{◌≡◌, ℕ, ◌+◌, ◌*◌, ◌<◌, ◌≤◌, Bool, true, false, not, ◌&&◌, ◌||◌, eqb, ltb, leb, leb-true, zero, suc, List, [], ◌∷◌, length, get_or, drop, ℤ, pos, negsuc, sym, refl, ap, ◌∙◌, mul_comm, le-mul_of_pos_right, add-one, arith, drop_of_length-le, drop-cons, le-ltb, lt-ltb, eq-eqb, ne_eqb, le-leb}
use mathlib.Core.Bool.{and_assoc, and-true, and-false, false≢true}
use lib.Dec.{lit<}
use Rattle.format.specs.Codes.{type_code, encoding_code, endian_code}
use Rattle.format.specs.Reasons.{reason_number, refusal_number}
use Rattle.format.specs.declared.reason.Reason.{Reason}
use Rattle.format.specs.declared.codes.Encoding.{Encoding}
use Rattle.format.specs.declared.codes.Encoding.TheVariants.{Raw, Text, Hex}
use Rattle.format.specs.declared.codes.Endian.{Endian}
use Rattle.format.specs.declared.codes.Endian.TheVariants.{Little, Big}
use Rattle.format.specs.declared.codes.SampleType.{SampleType}
use Rattle.format.specs.declared.codes.SampleType.TheVariants.{Int8, Uint8, Int16, Uint16, Int32, Uint32, Int64, Uint64, Float, Double}
use borrow.Author.Tests.{lt-leb}
use Rattle.std.specs.List.{list_any}
use Rattle.std.proofs.Math.Dec.{eqb-suc-zero, eqb-zero-suc}
use Rattle.format.proofs.Bytes.{and_left, and_right}
use Rattle.format.specs.Bytes.{between, is_in}
use Rattle.format.specs.Limits.{max_extent}
use Rattle.format.specs.Refusals.{bad_descriptor, extent_too_large, float_samples, bad_sample, wrong_count}
use Rattle.format.specs.Descriptors.{NumberKind, type_at, sample_bytes, number_kind, is_floating, is_signed, product, extent, capped}
use Rattle.format.specs.Samples.{in_type, lowest, highest}
use Rattle.format.specs.Widths.{Width, kind_by, width_by}
use Rattle.format.specs.Writer.{all_in_type, writable}
use Rattle.write_checks.specs.declared.asked.Array.{Array}
use Rattle.write_checks.specs.declared.asked.Asked.{Asked}
use Rattle.write_checks.specs.Checked.{on_asked, on_array, IsOf}
use Rattle.write_checks.specs.Refused.{in_range, all_in_range, WholeRange, early_refusal, Ready}
use Rattle.format_values.proofs.ProductLaws.{times_capped}
use Rattle.format_values.proofs.TypeLaws.{below_10, type_width, type_bytes, floating_is, kind_by_lem, width_by_lem, lowest_most, highest_most}

-- ---- a 0 among the numbers

pub any_is : (ns : List ℕ) → list_any (λ n. eqb n 0) ns ≡ is_in 0 ns
unfolding is_in
any_is [] = refl
any_is (n ∷ ns) = rw (any_is ns, turned n) refl
  where
    turned : (n : ℕ) → eqb n 0 ≡ eqb 0 n
    turned zero = refl
    turned (suc n) = eqb-suc-zero n ∙ sym (eqb-zero-suc n)

-- ---- samples in a range

pub range_start : (low high m : ℕ) (zs : List ℤ) → all_in_range low high zs ≡ (leb 0 m && all_in_range low high (drop 0 zs))
range_start low high m zs = rw (le-leb 0 m (omega arith))

module _ (low high : ℕ) (zs : List ℤ) (i : ℕ) where
  pub range_next : (fine one : Bool) → i < length zs → one ≡ in_range low high (get_or zs i (pos 0)) → all_in_range low high zs ≡ (fine && all_in_range low high (drop i zs))
      → all_in_range low high zs ≡ ((fine && one) && all_in_range low high (drop (i + 1) zs))
  unfolding all_in_range
  range_next fine one h e p =
      let s : all_in_range low high (drop i zs) ≡ (one && all_in_range low high (drop (i + 1) zs)) = rw (e, add-one i, drop-cons zs i (pos 0) h) in
      p ∙ ap (λ (b : Bool). fine && b) s ∙ sym (and_assoc fine one (all_in_range low high (drop (i + 1) zs)))

  pub range_end : length zs ≤ i → all_in_range low high (drop i zs) ≡ true
  unfolding all_in_range
  range_end h = ap (all_in_range low high) (drop_of_length-le zs h)

-- ---- the range of a type

range_is : (k : NumberKind) (w : ℕ) (z : ℤ) → in_range (lowest k w) (highest k w) z ≡ in_type k w z
unfolding in_type
range_is k w (pos n) = refl
range_is k w (negsuc n) = refl

pub all_in_range_lem : (k : NumberKind) (w : ℕ) (zs : List ℤ) → all_in_range (lowest k w) (highest k w) zs ≡ all_in_type k w zs
unfolding all_in_range all_in_type
all_in_range_lem k w [] = refl
all_in_range_lem k w (z ∷ zs) = rw (range_is k w z, all_in_range_lem k w zs)

-- ---- the types

-- the bounds of an integer type
module _ (t : ℕ) {s : Bool} {w : ℕ} (i : is_floating (number_kind t) ≡ false) (es : s ≡ is_signed (number_kind t)) (ew : w ≡ sample_bytes t) where
  bound_by : (f : NumberKind → ℕ → ℕ) → f (kind_by s) (width_by w) ≡ f (number_kind t) (sample_bytes t)
  bound_by f =
      let k : kind_by s ≡ number_kind t = ap kind_by es ∙ kind_by_lem (number_kind t) i in
      let v : width_by w ≡ sample_bytes t = ap width_by ew ∙ width_by_lem (sample_bytes t) (type_width t) in
      rw (k, v)

  pub lowest_type : {r : ℕ} → r ≡ lowest (kind_by s) (width_by w) → (r ≡ lowest (number_kind t) (sample_bytes t)) × (r ≤ 9223372036854775808)
  lowest_type e = (e ∙ bound_by lowest, rw e (lowest_most s w))

  pub highest_type : {r : ℕ} → r ≡ highest (kind_by s) (width_by w) → (r ≡ highest (number_kind t) (sample_bytes t)) × (r < 9223372036854775808)
  highest_type e = (e ∙ bound_by highest, rw e (highest_most s w))

-- the range of every type
pub type_range : (t : ℕ) → t < 10 → {low high : ℕ} → low ≡ lowest (number_kind t) (sample_bytes t) → high ≡ highest (number_kind t) (sample_bytes t) → WholeRange low high
unfolding type_at
type_range t h el eh =
    rw (el, eh)
    (below_10 (λ t. WholeRange (lowest (number_kind t) (sample_bytes t)) (highest (number_kind t) (sample_bytes t)))
    (8, refl) (8, refl) (16, refl) (16, refl) (32, refl) (32, refl) (64, refl) (63, refl) (0, refl) (0, refl) t h)

-- ---- the numbers of the names

pub type_few : (t : SampleType) → type_code t < 10
type_few Int8 = lit< tt
type_few Uint8 = lit< tt
type_few Int16 = lit< tt
type_few Uint16 = lit< tt
type_few Int32 = lit< tt
type_few Uint32 = lit< tt
type_few Int64 = lit< tt
type_few Uint64 = lit< tt
type_few Float = lit< tt
type_few Double = lit< tt

pub type_wide : (t : SampleType) → Width (sample_bytes (type_code t))
type_wide t = type_width (type_code t)

pub encoding_few : (e : Encoding) → encoding_code e < 3
encoding_few Raw = lit< tt
encoding_few Text = lit< tt
encoding_few Hex = lit< tt

pub endian_few : (e : Endian) → endian_code e < 2
endian_few Little = lit< tt
endian_few Big = lit< tt

-- ---- what can be written

module _ (version : ℕ) (sizes : List ℕ) (t e endian : ℕ) where
  pub no_type : 10 ≤ t → writable version sizes t e endian ≡ false
  unfolding writable
  no_type h = rw (le-ltb t 10 h) (and-false (between 1 5 version))

  pub no_encoding : 3 ≤ e → writable version sizes t e endian ≡ false
  unfolding writable
  no_encoding h = rw (le-ltb e 3 h, and-false (ltb t 10)) (and-false (between 1 5 version))

  pub no_endian : 2 ≤ endian → writable version sizes t e endian ≡ false
  unfolding writable
  no_endian h = rw (le-ltb endian 2 h, and-false (ltb e 3), and-false (ltb t 10)) (and-false (between 1 5 version))

  -- version and sizes decide where the rest is in its lists
  pub sized_is : t < 10 → e < 3 → endian < 2 → writable version sizes t e endian ≡ (between 1 5 version && (between 1 16 (length sizes) && not (is_in 0 sizes)))
  unfolding writable
  sized_is h k l = rw (lt-ltb t 10 h, lt-ltb e 3 k, lt-ltb endian 2 l)

  -- what cannot be written is refused first
  pub early_descriptor : (zs : List ℤ) → writable version sizes t e endian ≡ false → early_refusal version sizes t e endian zs ≡ bad_descriptor
  unfolding early_refusal
  early_descriptor zs h = rw h

-- the number of a reason that `?` hands on as it is
pub number_is : {T : Type 0} (r : Result T Reason) (reason : Reason) → IsErr r × IsErrAnd r (λ x. x ≡ reason) → refusal_number r ≡ reason_number reason
number_is (Ok n) reason h = absurd (false≢true h.0)
number_is (Err x) reason h = ap reason_number h.1

-- the array that comes of what is asked for has its numbers
pub on_same : {T : Type 0} (f : ℕ → List ℕ → ℕ → ℕ → ℕ → T) (asked : Asked) (array : Array) → IsOf asked array → on_array f array ≡ on_asked f asked
on_same f asked array r = rw (r.version, r.sizes, r.sample_type, r.encoding, r.endian) refl

-- ---- what is known of sizes that a header can describe

module _ (version : ℕ) (sizes : List ℕ) (t e endian : ℕ) (ok : writable version sizes t e endian ≡ true) where
  pub axes_few : (1 ≤ length sizes) × (length sizes ≤ 16)
  unfolding writable
  axes_few =
      let sized = and_right (ltb endian 2) (between 1 16 (length sizes) && not (is_in 0 sizes)) (and_right (ltb e 3) _ (and_right (ltb t 10) _ (and_right (between 1 5 version) _ ok))) in
      let few = and_left (between 1 16 (length sizes)) (not (is_in 0 sizes)) sized in
      (leb-true 1 (length sizes) (and_left (leb 1 (length sizes)) (leb (length sizes) 16) few), leb-true (length sizes) 16 (and_right (leb 1 (length sizes)) (leb (length sizes) 16) few))

-- ---- the early refusals, from what the code knows where it returns each

module _ (version : ℕ) (sizes : List ℕ) (t e endian : ℕ) (zs : List ℤ) {n m w x : ℕ}
    (en : n ≡ capped (product sizes)) (em : m ≡ length zs) (ew : w ≡ sample_bytes t) (ex : x ≡ capped (n * w)) where
  size : x ≡ capped (extent sizes t)
  size = ex ∙ ap (λ (k : ℕ). capped (k * w)) en ∙ ap (λ (k : ℕ). capped (capped (product sizes) * k)) ew ∙ ap capped (mul_comm (capped (product sizes)) (sample_bytes t)) ∙ times_capped (sample_bytes t) (product sizes) ∙ ap capped (mul_comm (sample_bytes t) (product sizes))

  pub early_extent : writable version sizes t e endian ≡ true → max_extent < x → extent_too_large ≡ early_refusal version sizes t e endian zs
  unfolding early_refusal
  early_extent ok h = rw (ok, lt-ltb max_extent (extent sizes t) (omega (arith, size)))

  module _ (small : x ≤ max_extent) where
    within : extent sizes t ≤ max_extent
    within = omega (arith, size)

    pub early_float : writable version sizes t e endian ≡ true → is_floating (number_kind t) ≡ true → float_samples ≡ early_refusal version sizes t e endian zs
    unfolding early_refusal
    early_float ok h = rw (ok, le-ltb max_extent (extent sizes t) within, h)

    module _ (integer : is_floating (number_kind t) ≡ false) where
      exact : n ≡ product sizes
      exact = omega (arith, en, within, le-mul_of_pos_right (product sizes) (type_bytes t))

      pub early_count : writable version sizes t e endian ≡ true → (m ≡ n → ⊥) → wrong_count ≡ early_refusal version sizes t e endian zs
      unfolding early_refusal
      early_count ok h =
          rw (ok, le-ltb max_extent (extent sizes t) within, integer, ne_eqb (length zs) (product sizes) (λ q. h (em ∙ q ∙ sym exact)))

      module _ (count : m ≡ n) {low high : ℕ} (el : low ≡ lowest (number_kind t) (sample_bytes t)) (eh : high ≡ highest (number_kind t) (sample_bytes t))
          {fine : Bool} (ef : fine ≡ all_in_range low high zs) where
        all_is : all_in_type (number_kind t) (sample_bytes t) zs ≡ fine
        all_is = sym (ef ∙ ap (λ (k : ℕ). all_in_range k high zs) el ∙ ap (λ (k : ℕ). all_in_range (lowest (number_kind t) (sample_bytes t)) k zs) eh ∙ all_in_range_lem (number_kind t) (sample_bytes t) zs)

        tests : writable version sizes t e endian ≡ true → early_refusal version sizes t e endian zs ≡ (if not fine then bad_sample else 0)
        unfolding early_refusal
        tests ok = rw (ok, le-ltb max_extent (extent sizes t) within, integer, eq-eqb (length zs) (product sizes) (sym em ∙ count ∙ exact), all_is)

        pub early_sample : writable version sizes t e endian ≡ true → fine ≡ false → bad_sample ≡ early_refusal version sizes t e endian zs
        early_sample ok h = sym (tests ok ∙ ap (λ (b : Bool). if not b then bad_sample else 0) h)

        pub early_fine : writable version sizes t e endian ≡ true → fine ≡ true → 0 ≡ early_refusal version sizes t e endian zs
        early_fine ok h = sym (tests ok ∙ ap (λ (b : Bool). if not b then bad_sample else 0) h)

        pub ready : fine ≡ true → Ready t zs
        ready h = record {
          extent_small = omega (arith, ap (λ (k : ℕ). k * sample_bytes t) (sym em ∙ count ∙ exact), within);
          in_type = all_is ∙ h;
        }

-- ---- what is known where none is met

-- the samples are few
pub few_samples : (t : ℕ) (zs : List ℤ) → Ready t zs → length zs ≤ max_extent
few_samples t zs r = omega (arith, r.extent_small, le-mul_of_pos_right (length zs) (type_bytes t))
