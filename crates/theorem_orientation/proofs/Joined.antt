-- Texts that are joined by a byte are parted at it again: components at commas, vectors at spaces outside of brackets.
-- Assumes nothing.
use Prim.Native.Nat.{ℕ, ◌≤◌}
use native.Mathlib.Omega.{arith}
use mathlib.Core.Path.{◌≡◌, refl, sym, ap, ◌∙◌}
use mathlib.Core.Bool.{Bool, true, false}
use mathlib.Core.List.{List, [], ◌∷◌, ◌++◌, map, append-nil, append_assoc}
use lib.Dec.{leb, ltb}
use borrow.Author.Tests.{ltb-true, leb-true, le-leb, ne_eqb}
use Rattle.format.specs.declared.Decimal.{Decimal}
use Rattle.format.specs.Bytes.{bytes, space_or_tab, is_empty, every, SPACE, CLOSE, COMMA}
use Rattle.format.specs.Words.{trim_front, trim_byte, trim_end, join_first, not_empty}
use Rattle.format.specs.Vectors.{Direction, without, along, parts_outside, vector_words, comma_parts}
use Rattle.format.specs.HeaderWriter.{component_text, joined, vector_text, direction_text}
use Rattle.format.proofs.Bytes.{and_left, and_right, every_append, every_weaker}
use Rattle.theorem_orientation.proofs.Components.{text_above}

-- ---- texts in front of the first part

unfoldable front : List ℕ → List (List ℕ) → List (List ℕ)
front [] ps = ps
front (b ∷ w) ps = join_first b (front w ps)

front_part : (w : List ℕ) (ps : List (List ℕ)) → front w ([] ∷ ps) ≡ w ∷ ps
unfolding front
front_part [] ps = refl
front_part (b ∷ w) ps = rw (front_part w ps)

front_append : (w v : List ℕ) (ps : List (List ℕ)) → front (w ++ v) ps ≡ front w (front v ps)
unfolding front
front_append [] v ps = refl
front_append (b ∷ w) v ps = rw (front_append w v ps)

-- ---- parting what was joined, whatever the byte is, for texts that are not parted themselves

module _ {A : Type 0} (text : A → List ℕ) (b : ℕ) (parting : List ℕ → List (List ℕ)) (none_left : parting [] ≡ [] ∷ [])
    (parts_at : (r : List ℕ) → parting (b ∷ r) ≡ [] ∷ parting r) (past : (a : A) (r : List ℕ) → parting (text a ++ r) ≡ front (text a) (parting r)) where
  parted : (a : A) (as' : List A) → parting (joined b (map text (a ∷ as'))) ≡ map text (a ∷ as')
  unfolding joined
  parted a [] = ap parting (sym (append-nil (text a))) ∙ past a [] ∙ rw none_left (front_part (text a) [])
  parted a (c ∷ as') =
      past a (b ∷ joined b (map text (c ∷ as')))
      ∙ rw (parts_at (joined b (map text (c ∷ as'))), parted c as') (front_part (text a) (map text (c ∷ as')))

-- ---- components

-- above the comma there is no blank and no bracket
above_blank : (b : ℕ) → 44 ≤ b → space_or_tab b ≡ false
above_blank b h = rw (ne_eqb b 32 (λ q. omega arith), ne_eqb b 9 (λ q. omega arith))

comma_past : (w r : List ℕ) → every (ltb COMMA) w ≡ true → comma_parts (w ++ r) ≡ front w (comma_parts r)
unfolding every comma_parts front
comma_past [] r h = refl
comma_past (b ∷ w) r h =
    let l = ltb-true 44 b (and_left (ltb 44 b) (every (ltb 44) w) h) in
    rw (ne_eqb b 44 (λ q. omega arith), comma_past w r (and_right (ltb 44 b) (every (ltb 44) w) h))

pub comma_parts_lem : (d : Decimal) (ds : List Decimal) → comma_parts (joined COMMA (map component_text (d ∷ ds))) ≡ map component_text (d ∷ ds)
unfolding comma_parts
comma_parts_lem = parted component_text COMMA comma_parts refl (λ r. refl) (λ d r. comma_past (component_text d) r (text_above d))

-- nothing to trim
trim_front_lem : (w : List ℕ) → every (ltb COMMA) w ≡ true → trim_front w ≡ w
unfolding every trim_front
trim_front_lem [] h = refl
trim_front_lem (b ∷ w) h = rw (above_blank b (omega (arith, ltb-true 44 b (and_left (ltb 44 b) (every (ltb 44) w) h))))

trim_byte_lem : (b : ℕ) (w : List ℕ) → space_or_tab b ≡ false → trim_byte b w ≡ b ∷ w
trim_byte_lem b [] h = rw h
trim_byte_lem b (c ∷ w) h = refl

trim_end_lem : (w : List ℕ) → every (ltb COMMA) w ≡ true → trim_end w ≡ w
unfolding every trim_end
trim_end_lem [] h = refl
trim_end_lem (b ∷ w) h =
    rw (trim_end_lem w (and_right (ltb 44 b) (every (ltb 44) w) h))
    (trim_byte_lem b w (above_blank b (omega (arith, ltb-true 44 b (and_left (ltb 44 b) (every (ltb 44) w) h)))))

pub trimmed : (d : Decimal) → trim_end (trim_front (component_text d)) ≡ component_text d
trimmed d = rw (trim_front_lem (component_text d) (text_above d)) (trim_end_lem (component_text d) (text_above d))

-- ---- vectors, and `none`

-- from the comma on no byte parts, and none opens or closes
outside_past : (inside : Bool) (w r : List ℕ) → every (leb COMMA) w ≡ true → parts_outside inside (w ++ r) ≡ front w (parts_outside inside r)
unfolding every parts_outside front
outside_past inside [] r h = refl
outside_past inside (b ∷ w) r h =
    let l = leb-true 44 b (and_left (leb 44 b) (every (leb 44) w) h) in
    rw (above_blank b l, ne_eqb b 40 (λ q. omega arith), ne_eqb b 41 (λ q. omega arith), outside_past inside w r (and_right (leb 44 b) (every (leb 44) w) h))

component_from : (d : Decimal) → every (leb COMMA) (component_text d) ≡ true
component_from d = every_weaker (ltb COMMA) (leb COMMA) (λ b h. le-leb 44 b (omega (arith, ltb-true 44 b h))) (component_text d) (text_above d)

-- the components with their commas
from_comma : (ds : List Decimal) → every (leb COMMA) (joined COMMA (map component_text ds)) ≡ true
unfolding every joined
from_comma [] = refl
from_comma (d ∷ []) = component_from d
from_comma (d ∷ e ∷ ds) = every_append (leb COMMA) (component_text d) (COMMA ∷ joined COMMA (map component_text (e ∷ ds))) (component_from d) (from_comma (e ∷ ds))

vector_past : (ds : List Decimal) (r : List ℕ) → parts_outside false (vector_text ds ++ r) ≡ front (vector_text ds) (parts_outside false r)
unfolding vector_text parts_outside front
vector_past ds r =
    let j = joined COMMA (map component_text ds) in
    rw (append_assoc j (CLOSE ∷ []) r, outside_past true j (CLOSE ∷ r) (from_comma ds), front_append j (CLOSE ∷ []) (parts_outside false r))

direction_past : (d : Direction) (r : List ℕ) → parts_outside false (direction_text d ++ r) ≡ front (direction_text d) (parts_outside false r)
unfolding every
direction_past without r = outside_past false (bytes "none") r refl
direction_past (along ds) r = vector_past ds r

-- the words of joined texts that are not empty
module _ {A : Type 0} (text : A → List ℕ) (full : (a : A) → is_empty (text a) ≡ false)
    (past : (a : A) (r : List ℕ) → parts_outside false (text a ++ r) ≡ front (text a) (parts_outside false r)) where
  all_full : (as' : List A) → not_empty (map text as') ≡ map text as'
  unfolding not_empty
  all_full [] = refl
  all_full (a ∷ as') = rw (full a, all_full as')

  words_of : (as' : List A) → vector_words (joined SPACE (map text as')) ≡ map text as'
  unfolding vector_words parts_outside joined not_empty
  words_of [] = refl
  words_of (a ∷ as') = rw (parted text SPACE (parts_outside false) refl (λ r. refl) past a as') (all_full (a ∷ as'))

pub vector_words_lem : (cs : List (List Decimal)) → vector_words (joined SPACE (map vector_text cs)) ≡ map vector_text cs
unfolding vector_text
vector_words_lem = words_of vector_text (λ ds. refl) vector_past

pub direction_words : (ds : List Direction) → vector_words (joined SPACE (map direction_text ds)) ≡ map direction_text ds
unfolding vector_text
direction_words = words_of direction_text (λ d. full d) direction_past
  where
    full : (d : Direction) → is_empty (direction_text d) ≡ false
    full without = refl
    full (along ds) = refl
