-- What the writer accepts, from its refusals: `accepted_is`.
-- Assumes nothing.
use Rattle.std.specs.Prelude.{if◌then◌else◌}
use mathlib.Core.Path.{◌≡◌, refl}
use Prim.Native.Nat.{ℕ, ◌≤◌, ◌<◌}
use native.Mathlib.Omega.{arith}
use native.Mathlib.Nat.{le-mul_of_pos_right}
use mathlib.Core.Bool.{Bool, true, false, not}
use mathlib.Core.List.{List}
use lib.Dec.{eqb, ltb, leb}
use lib.IntN.{ℤ}
use lib.ListN.{length}
use borrow.Author.Tests.{ltb-true, ltb-false, leb-true, eqb-true, not-true, not-false}
use Rattle.format.specs.Bytes.{between, is_in}
use Rattle.format.specs.Limits.{max_file, max_axes, max_extent, max_version}
use Rattle.format.specs.Descriptors.{types, encodings, endians, sample_bytes, number_kind, is_floating, product, extent}
use Rattle.format.specs.Writer.{file_bytes, all_in_type, writable, write_refusal}
use Rattle.format.proofs.Bytes.{and_left, and_right}
use Rattle.theorem_roundtrip.proofs.Names.{sample_bytes_lem}
use Rattle.theorem_roundtrip.proofs.Numbers.{Sizes, sizes_fine}

-- the version is known, each number is in its list, there is a size for each of 1 to 16 axes, and none is 0
pub record Writable (version : ℕ) (sizes : List ℕ) (t e endian : ℕ) : Type 0 where
  pub version_from : 1 ≤ version
  pub version_to : version ≤ max_version
  pub type_in : t < length types
  pub encoding_in : e < length encodings
  pub endian_in : endian < length endians
  pub axes_from : 1 ≤ length sizes
  pub axes_to : length sizes ≤ max_axes
  pub no_zero : is_in 0 sizes ≡ false

-- no refusal is met
pub record Accepted (version : ℕ) (sizes : List ℕ) (t e endian : ℕ) (zs : List ℤ) : Type 0 where
  pub numbers : Writable version sizes t e endian
  pub sizes_in : Sizes sizes
  pub extent_small : extent sizes t ≤ max_extent
  pub integers : is_floating (number_kind t) ≡ false
  pub count : length zs ≡ product sizes
  pub in_type : all_in_type (number_kind t) (sample_bytes t) zs ≡ true
  pub file_small : length (file_bytes version sizes t e endian zs) ≤ max_file

-- nothing is refused where no test is met
no_refusal : (x : Bool) (n m : ℕ) → 1 ≤ n → (if x then n else m) ≡ 0 → (x ≡ false) × (m ≡ 0)
no_refusal true n m l h = absurd (omega arith)
no_refusal false n m l h = (refl, h)

module _ (version : ℕ) (sizes : List ℕ) (t e endian : ℕ) where
  -- what `writable` tests
  pub writable_is : writable version sizes t e endian ≡ true → Writable version sizes t e endian
  unfolding writable
  writable_is h =
      let known = between 1 max_version version in
      let axes = between 1 max_axes (length sizes) in
      let h₁ = and_right known _ h in
      let h₂ = and_right (ltb t (length types)) _ h₁ in
      let h₃ = and_right (ltb e (length encodings)) _ h₂ in
      let h₄ = and_right (ltb endian (length endians)) _ h₃ in
      let v = and_left known _ h in
      let a = and_left axes _ h₄ in
      record {
        version_from = leb-true 1 version (and_left (leb 1 version) (leb version max_version) v);
        version_to = leb-true version max_version (and_right (leb 1 version) (leb version max_version) v);
        type_in = ltb-true t (length types) (and_left (ltb t (length types)) _ h₁);
        encoding_in = ltb-true e (length encodings) (and_left (ltb e (length encodings)) _ h₂);
        endian_in = ltb-true endian (length endians) (and_left (ltb endian (length endians)) _ h₃);
        axes_from = leb-true 1 (length sizes) (and_left (leb 1 (length sizes)) (leb (length sizes) max_axes) a);
        axes_to = leb-true (length sizes) max_axes (and_right (leb 1 (length sizes)) (leb (length sizes) max_axes) a);
        no_zero = not-true (is_in 0 sizes) (and_right axes _ h₄);
      }

  -- what is written where nothing is refused, and that it has room
  pub accepted_is : (zs : List ℤ) (room : ℕ) → write_refusal version sizes t e endian zs room ≡ 0
      → Accepted version sizes t e endian zs × (length (file_bytes version sizes t e endian zs) ≤ room)
  unfolding write_refusal
  accepted_is zs room h =
      let file = file_bytes version sizes t e endian zs in
      let fine = all_in_type (number_kind t) (sample_bytes t) zs in
      let r₁ = no_refusal (not (writable version sizes t e endian)) _ _ (omega arith) h in
      let r₂ = no_refusal (ltb max_extent (extent sizes t)) _ _ (omega arith) r₁.1 in
      let r₃ = no_refusal (is_floating (number_kind t)) _ _ (omega arith) r₂.1 in
      let r₄ = no_refusal (not (eqb (length zs) (product sizes))) _ _ (omega arith) r₃.1 in
      let r₅ = no_refusal (not fine) _ _ (omega arith) r₄.1 in
      let r₆ = no_refusal (ltb max_file (length file)) _ _ (omega arith) r₅.1 in
      let r₇ = no_refusal (ltb room (length file)) _ _ (omega arith) r₆.1 in
      let w = writable_is (not-false (writable version sizes t e endian) r₁.0) in
      let small : extent sizes t ≤ max_extent = ltb-false max_extent (extent sizes t) r₂.0 in
      let below : product sizes ≤ extent sizes t = le-mul_of_pos_right (product sizes) (sample_bytes_lem t w.type_in) in (
        record {
          numbers = w;
          sizes_in = sizes_fine sizes w.no_zero (omega arith);
          extent_small = small;
          integers = r₃.0;
          count = eqb-true (length zs) (product sizes) (not-false (eqb (length zs) (product sizes)) r₄.0);
          in_type = not-false fine r₅.0;
          file_small = ltb-false max_file (length file) r₆.0;
        },
        ltb-false room (length file) r₇.0,
      )
