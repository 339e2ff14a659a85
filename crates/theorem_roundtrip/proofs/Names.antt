-- The texts that a header is written with: the names of versions, types, encodings and endians are read back as their numbers.
-- Each list is computed whole. Assumes nothing.
use mathlib.Core.Path.{◌≡◌, refl}
use Prim.Native.Nat.{ℕ, zero, suc, ◌≤◌, ◌<◌}
use Prim.Native.String.{String}
use native.Mathlib.Omega.{arith}
use mathlib.Core.Bool.{Bool, true, false, ◌&&◌, false≢true}
use mathlib.Core.List.{List, ◌++◌, map}
use mathlib.Core.Option.{Option, none, some}
use lib.Dec.{eqb, leb}
use lib.ListN.{length}
use borrow.Author.Tests.{eqb-true, leb-true}
use Rattle.format.specs.Bytes.{bytes, every, every_below, same, alike, is_any, row_from, row_of}
use Rattle.format.specs.Limits.{max_version}
use Rattle.format.specs.Pairs.{plain}
use Rattle.format.specs.Words.{trim_front, trim_end}
use Rattle.format.specs.Descriptors.{types, type_at, type_name, type_names, encodings, endians, sample_bytes}
use Rattle.format.specs.Header.{magic_version}
use Rattle.format.specs.Writer.{decimal_from, decimal, name_at}
use Rattle.format.proofs.Bytes.{and_left, and_right, every_below_lem, same_true}

-- the answer is the number i
abbrev is_number : ℕ → Option ℕ → Bool
is_number i none = false
is_number i (some j) = eqb j i

is_number_lem : (i : ℕ) (o : Option ℕ) → is_number i o ≡ true → o ≡ some i
is_number_lem i none h = absurd (false≢true h)
is_number_lem i (some j) h = rw (eqb-true j i h)

-- ---- descriptors as they are written

-- plain bytes, no space or tab at either end
pub record Text (d : List ℕ) : Type 0 where
  pub bytes_plain : every plain d ≡ true
  pub front : trim_front d ≡ d
  pub back : trim_end d ≡ d

-- that as a test
abbrev pub text_test : List ℕ → Bool
text_test w = every plain w && (same (trim_front w) w && same (trim_end w) w)

pub text_by_test : (w : List ℕ) → text_test w ≡ true → Text w
text_by_test w h =
    let c = and_right (every plain w) _ h in
    record {
      bytes_plain = and_left (every plain w) _ h;
      front = same_true (trim_front w) w (and_left (same (trim_front w) w) _ c);
      back = same_true (trim_end w) w (and_right (same (trim_front w) w) _ c);
    }

-- the text w is a name of row i, and has at most 6 bytes
pub record Named (rows : List (List String)) (w : List ℕ) (i : ℕ) : Type 0 where
  pub row : row_of w rows ≡ some i
  pub text : Text w
  pub short : length w ≤ 6

-- that as a test
abbrev name_test : List (List String) → List ℕ → ℕ → Bool
name_test rows w i = is_number i (row_of w rows) && (text_test w && leb (length w) 6)

-- where the test passes for every number below n, each of them has its name
named : (rows : List (List String)) (name : ℕ → List ℕ) (n : ℕ) → every_below (λ i. name_test rows (name i) i) n ≡ true
    → (i : ℕ) → i < n → Named rows (name i) i
named rows name n h i l =
    let w : List ℕ = name i in
    let a = every_below_lem (λ i. name_test rows (name i) i) n h i l in
    let b = and_right (is_number i (row_of w rows)) _ a in
    record {
      row = is_number_lem i (row_of w rows) (and_left (is_number i (row_of w rows)) _ a);
      text = text_by_test w (and_left (text_test w) _ b);
      short = leb-true (length w) 6 (and_right (text_test w) _ b);
    }

-- the names that are written for types, encodings and endians
pub type_named : (t : ℕ) → t < length types → Named (map type_names types) (bytes (type_name (type_at t))) t
unfolding every_below every same alike is_any row_from trim_front trim_end type_at
type_named = named (map type_names types) (λ t. bytes (type_name (type_at t))) (length types) refl

pub encoding_named : (e : ℕ) → e < length encodings → Named encodings (name_at encodings e) e
unfolding every_below every same alike is_any row_from trim_front trim_end
encoding_named = named encodings (name_at encodings) (length encodings) refl

pub endian_named : (endian : ℕ) → endian < length endians → Named endians (name_at endians endian) endian
unfolding every_below every same alike is_any row_from trim_front trim_end
endian_named = named endians (name_at endians) (length endians) refl

-- ---- versions, and the bytes of a sample

-- the magic of a version is read back as the version
pub version_of_magic : (v : ℕ) → 1 ≤ v → v ≤ max_version → magic_version (bytes "NRRD000" ++ decimal v) ≡ some v
unfolding every_below magic_version same decimal_from
version_of_magic zero l h = absurd (omega arith)
version_of_magic (suc v) l h =
    let text : ℕ → List ℕ = λ i. bytes "NRRD000" ++ decimal (suc i) in
    is_number_lem (suc v) (magic_version (text v))
    (every_below_lem (λ i. is_number (suc i) (magic_version (text i))) max_version refl v (omega arith))

-- a sample has at least one byte
pub sample_bytes_lem : (t : ℕ) → t < length types → 1 ≤ sample_bytes t
unfolding every_below type_at
sample_bytes_lem t h = leb-true 1 (sample_bytes t) (every_below_lem (λ i. leb 1 (sample_bytes i)) (length types) refl t h)

-- and at most 8
pub sample_bytes_to : (t : ℕ) → t < length types → sample_bytes t ≤ 8
unfolding every_below type_at
sample_bytes_to t h = leb-true (sample_bytes t) 8 (every_below_lem (λ i. leb (sample_bytes i) 8) (length types) refl t h)
