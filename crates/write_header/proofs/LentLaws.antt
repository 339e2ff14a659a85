-- Laws of the call with lent bytes: the sizes, and the orientation.
-- Assumes nothing.
use mathlib.Core.Path.{◌≡◌, refl, sym, ap, ◌∙◌}
use mathlib.Core.Bool.{Bool, true, false, false≢true}
use mathlib.Core.List.{List, [], ◌∷◌}
use Prim.Native.Nat.{ℕ, suc, ◌<◌, min}
use native.Mathlib.Omega.{arith}
use lib.Dec.{eqb, leb}
use lib.ListN.{length, take, drop, replicate, length-take}
use lib.Seq.{take_all}
use borrow.Author.Tests.{eqb-true, eq-eqb, ne_eqb, leb-true, leb-false}
use Rattle.format.specs.declared.Decimal.{Decimal}
use Rattle.format.specs.declared.Shape.{Shape}
use Rattle.format.specs.Bytes.{is_empty}
use Rattle.format.specs.Refusals.{bad_descriptor, refusal}
use Rattle.format.specs.HeaderWriter.{Orientation, orientation_of, shape_fine, header_refused, write_header, write_header_call}
use Rattle.format.specs.Columns.{column, matrix}
use Rattle.format.specs.Boundary.{decimals_lent}
use Rattle.format.specs.EntryPoints.{shape_lent, columns_lent, no_shape}
use Rattle.write_file.specs.Stored.{answer_of}
use Rattle.write_file.proofs.Whole.{not_writable}
use Rattle.write_header.specs.Stored.{lent_call}

-- ---- sizes that are lent as bytes: 17 of them are enough to refuse more than 16

module _ (version t e endian : ℕ) (sizes : List ℕ) (n : ℕ) (q : n ≡ min (length sizes) 17) (out : List ℕ) where
  too_many : (shaped : Bool) (o : Orientation) (l : List ℕ) → 16 < length l → write_header version l t e endian shaped o out ≡ header_refused (refusal bad_descriptor) out
  unfolding write_header
  too_many shaped o l h = rw (not_writable version l t e endian h)

  first_sizes : (shaped : Bool) (o : Orientation) → write_header version (take n sizes) t e endian shaped o out ≡ write_header version sizes t e endian shaped o out
  first_sizes shaped o = go (leb (length sizes) 17) refl
    where
      go : (b : Bool) → leb (length sizes) 17 ≡ b → write_header version (take n sizes) t e endian shaped o out ≡ write_header version sizes t e endian shaped o out
      go true h = ap (λ (l : List ℕ). write_header version l t e endian shaped o out) (take_all n sizes (omega (arith, leb-true (length sizes) 17 h)))
      go false h =
          let l : 17 < length sizes = leb-false (length sizes) 17 h in
          too_many shaped o (take n sizes) (omega (arith, length-take n sizes)) ∙ sym (too_many shaped o sizes (omega arith))

  pub lent_sizes : (lent : List ℕ) → lent_call version (take n sizes) t e endian lent out ≡ lent_call version sizes t e endian lent out
  unfolding lent_call
  lent_sizes lent =
      rw (
        first_sizes (shape_fine no_shape) (orientation_of no_shape (column []) (replicate 16 (column [])) (matrix [])),
        first_sizes (shape_fine (shape_lent lent)) (orientation_of (shape_lent lent) (decimals_lent (take 128 (drop 32 lent))) (columns_lent 16 (drop 160 lent)) (columns_lent 8 (drop 2208 lent))),
      )

-- ---- an orientation in lent bytes

pub is_none : (l : List ℕ) → eqb (length l) 0 ≡ true → length l ≡ 0
is_none l e = eqb-true (length l) 0 e

pub is_some : (l : List ℕ) → eqb (length l) 0 ≡ false → length l ≡ 0 → ⊥
is_some l e q = absurd (false≢true (sym e ∙ eq-eqb (length l) 0 q))

empty_is : (l : List ℕ) → is_empty l ≡ eqb (length l) 0
empty_is [] = refl
empty_is (b ∷ l) = sym (ne_eqb (suc (length l)) 0 (λ q. absurd (omega arith)))

module _ (version : ℕ) (sizes : List ℕ) (t e endian : ℕ) (lent out : List ℕ) where
  pub lent_none : length lent ≡ 0 → lent_call version sizes t e endian lent out ≡ write_header_call version sizes t e endian no_shape (column []) (replicate 16 (column [])) (matrix []) out
  unfolding lent_call
  lent_none h = rw (empty_is lent, h)

  module _ (n : length lent ≡ 0 → ⊥) where
    pub lent_other : (length lent ≡ 3232 → ⊥) → (answer_of bad_descriptor 0, out) ≡ lent_call version sizes t e endian lent out
    unfolding lent_call
    lent_other h = rw (empty_is lent, ne_eqb (length lent) 0 n, ne_eqb (length lent) 3232 h)

    pub lent_whole : length lent ≡ 3232 → {s : Shape} {origin : List Decimal} {directions frame : List (List Decimal)}
        → s ≡ shape_lent lent → origin ≡ decimals_lent (take 128 (drop 32 lent)) → directions ≡ columns_lent 16 (drop 160 lent) → frame ≡ columns_lent 8 (drop 2208 lent)
        → write_header_call version sizes t e endian s origin directions frame out ≡ lent_call version sizes t e endian lent out
    unfolding lent_call
    lent_whole h p q r u = rw (empty_is lent, ne_eqb (length lent) 0 n, eq-eqb (length lent) 3232 h, p, q, r, u)
