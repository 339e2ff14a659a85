-- The texts that an orientation is written with: plain bytes without blanks at either end, and the names of its fields.
-- Assumes nothing.
use Prim.Native.Nat.{ℕ, suc, ◌≤◌, ◌<◌}
use native.Mathlib.Omega.{arith}
use mathlib.Core.Path.{◌≡◌, refl, ◌∙◌}
use mathlib.Core.Bool.{true}
use mathlib.Core.List.{List, [], ◌∷◌, ◌++◌, map, append-nil}
use lib.Dec.{eqb}
use lib.IntN.{ℤ, pos, negsuc}
use lib.ListN.{length, length-append}
use Rattle.format.specs.declared.Decimal.{Decimal}
use Rattle.format.specs.Bytes.{bytes, every, every_below, same, alike, is_any, row_from, SPACE, OPEN, CLOSE, COMMA}
use Rattle.format.specs.Pairs.{plain, mark}
use Rattle.format.specs.Words.{trim_front, trim_end}
use Rattle.format.specs.Fields.{field_at, dimension, type, encoding, endian, sizes, space, space_dimension, space_origin, space_directions, measurement_frame}
use Rattle.format.specs.Decimals.{numeric, nan, inf, minus_inf}
use Rattle.format.specs.Spaces.{space_at, space_count}
use Rattle.format.specs.Vectors.{Direction, without, along}
use Rattle.format.specs.Writer.{signed_decimal}
use Rattle.format.specs.HeaderWriter.{component_text, joined, vector_text, direction_text, space_text, directions_text, frame_text}
use Rattle.format.proofs.Bytes.{and_both, every_append, every_below_lem}
use Rattle.format.proofs.Judged.{judge_by_text}
use Rattle.theorem_roundtrip.proofs.Names.{Text, text_test, text_by_test}
use Rattle.theorem_roundtrip.proofs.Numbers.{decimal_plain, trim_back_after}
use Rattle.theorem_roundtrip.proofs.Written.{names}
use Rattle.theorem_orientation.proofs.Components.{every_if}
use Rattle.theorem_headers.proofs.Lined.{Understood}

-- ---- plain bytes

signed_plain : (z : ℤ) → every plain (signed_decimal z) ≡ true
unfolding every
signed_plain (pos n) = decimal_plain n
signed_plain (negsuc n) = decimal_plain (suc n)

component_plain : (d : Decimal) → every plain (component_text d) ≡ true
unfolding component_text every
component_plain d =
    every_if plain (eqb d.kind numeric) _ _
    (every_append plain (signed_decimal d.number) (101 ∷ signed_decimal d.power) (signed_plain d.number) (signed_plain d.power))
    (every_if plain (eqb d.kind nan) (bytes "nan") _ refl
    (every_if plain (eqb d.kind inf) (bytes "inf") _ refl
    (every_if plain (eqb d.kind minus_inf) (bytes "-inf") (bytes "none") refl refl)))

module _ {A : Type 0} (text : A → List ℕ) (b : ℕ) (p : plain b ≡ true) (h : (a : A) → every plain (text a) ≡ true) where
  joined_plain : (as' : List A) → every plain (joined b (map text as')) ≡ true
  unfolding every joined
  joined_plain [] = refl
  joined_plain (a ∷ []) = h a
  joined_plain (a ∷ c ∷ as') =
      let rest = joined b (map text (c ∷ as')) in
      every_append plain (text a) (b ∷ rest) (h a) (and_both (plain b) (every plain rest) p (joined_plain (c ∷ as')))

-- ---- texts of which some are joined by a space

-- a text without blanks at its ends, also before others
record Solid (w : List ℕ) : Type 0 where
  bytes_plain : every plain w ≡ true
  front : (s : List ℕ) → trim_front (w ++ s) ≡ w ++ s
  back : trim_end w ≡ w
  full : 1 ≤ length w

vector_solid : (ds : List Decimal) → Solid (vector_text ds)
unfolding every vector_text trim_front trim_end
vector_solid ds =
    let j = joined COMMA (map component_text ds) in
    record {
      bytes_plain = every_append plain j (CLOSE ∷ []) (joined_plain component_text COMMA refl component_plain ds) refl;
      front = λ s. refl;
      back = trim_back_after (OPEN ∷ j) (CLOSE ∷ []) (omega arith) refl;
      full = omega arith;
    }

direction_solid : (d : Direction) → Solid (direction_text d)
unfolding every trim_front trim_end
direction_solid without = record { bytes_plain = refl; front = λ s. refl; back = refl; full = omega arith }
direction_solid (along ds) = vector_solid ds

module _ {A : Type 0} (text : A → List ℕ) (solid : (a : A) → Solid (text a)) where
  joined_full : (a : A) (as' : List A) → 1 ≤ length (joined SPACE (map text (a ∷ as')))
  unfolding joined
  joined_full a [] = (solid a).full
  joined_full a (c ∷ as') = simp length-append (omega (arith, (solid a).full))

  joined_front : (as' : List A) → trim_front (joined SPACE (map text as')) ≡ joined SPACE (map text as')
  unfolding joined trim_front
  joined_front [] = refl
  joined_front (a ∷ []) = rw append-nil at ((solid a).front [])
  joined_front (a ∷ c ∷ as') = (solid a).front (SPACE ∷ joined SPACE (map text (c ∷ as')))

  joined_back : (as' : List A) → trim_end (joined SPACE (map text as')) ≡ joined SPACE (map text as')
  unfolding joined trim_end
  joined_back [] = refl
  joined_back (a ∷ []) = (solid a).back
  joined_back (a ∷ c ∷ as') =
      let rest = joined SPACE (map text (c ∷ as')) in
      trim_back_after (text a) (SPACE ∷ rest) (omega arith) (trim_back_after (SPACE ∷ []) rest (joined_full c as') (joined_back (c ∷ as')))

  joined_text : (as' : List A) → Text (joined SPACE (map text as'))
  joined_text as' =
      record {
        bytes_plain = joined_plain text SPACE refl (λ a. (solid a).bytes_plain) as';
        front = joined_front as';
        back = joined_back as';
      }

-- ---- the descriptors

pub space_text_lem : (i : ℕ) → i < space_count → Text (space_text i)
unfolding every_below every same trim_front trim_end space_at
space_text_lem i h = text_by_test (space_text i) (every_below_lem (λ i. text_test (space_text i)) space_count refl i h)

pub frame_text_lem : (cs : List (List Decimal)) → Text (frame_text cs)
frame_text_lem = joined_text vector_text vector_solid

pub directions_text_lem : (ds : List Direction) → Text (directions_text ds)
directions_text_lem = joined_text direction_text direction_solid

-- an origin is written as a frame of one vector
pub origin_text_lem : (ds : List Decimal) → Text (vector_text ds)
unfolding joined
origin_text_lem ds = frame_text_lem (ds ∷ [])

-- ---- the names of the fields

pub record FieldNames : Type 0 where
  pub of_type : Understood "type" type
  pub of_dimension : Understood "dimension" dimension
  pub of_sizes : Understood "sizes" sizes
  pub of_encoding : Understood "encoding" encoding
  pub of_endian : Understood "endian" endian
  pub of_space : Understood "space" space
  pub of_size : Understood "space dimension" space_dimension
  pub of_origin : Understood "space origin" space_origin
  pub of_directions : Understood "space directions" space_directions
  pub of_frame : Understood "measurement frame" measurement_frame

pub field_names : FieldNames
unfolding every alike is_any row_from mark field_at
field_names = record {
  of_type = record { named = names.of_type; meant = refl; no_file = refl; name_plain = refl };
  of_dimension = record { named = names.of_dimension; meant = refl; no_file = refl; name_plain = refl };
  of_sizes = record { named = names.of_sizes; meant = refl; no_file = refl; name_plain = refl };
  of_encoding = record { named = names.of_encoding; meant = refl; no_file = refl; name_plain = refl };
  of_endian = record { named = names.of_endian; meant = refl; no_file = refl; name_plain = refl };
  of_space = record { named = λ version gs d n h. judge_by_text version gs _ n ∙ rw h; meant = refl; no_file = refl; name_plain = refl };
  of_size = record { named = λ version gs d n h. judge_by_text version gs _ n ∙ rw h; meant = refl; no_file = refl; name_plain = refl };
  of_origin = record { named = λ version gs d n h. judge_by_text version gs _ n ∙ rw h; meant = refl; no_file = refl; name_plain = refl };
  of_directions = record { named = λ version gs d n h. judge_by_text version gs _ n ∙ rw h; meant = refl; no_file = refl; name_plain = refl };
  of_frame = record { named = λ version gs d n h. judge_by_text version gs _ n ∙ rw h; meant = refl; no_file = refl; name_plain = refl };
}
