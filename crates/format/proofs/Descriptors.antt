-- Laws of descriptors: the text is a part of what follows its field's mark, and a carried field may have any.
-- Assumes nothing.
use Rattle.std.specs.Prelude.{if◌then◌else◌}
use Prim.Native.Nat.{ℕ, suc, ◌≤◌, ◌-◌, min}
use native.Mathlib.Omega.{arith}
use mathlib.Core.Path.{◌≡◌, refl, sym, ap, ◌∙◌}
use mathlib.Core.Bool.{Bool, true, false, false≢true}
use mathlib.Core.List.{List, [], ◌∷◌}
use lib.Dec.{eqb}
use lib.ListN.{length, take, drop, length-take}
use borrow.Author.Tests.{ne_eqb}
use Rattle.format.specs.Bytes.{space_or_tab}
use Rattle.format.specs.Fields.{is_understood, field_at, dimension, type, encoding, endian, sizes, line_skip, byte_skip, data_file, space, space_dimension, space_origin, space_directions, measurement_frame, centers, labels, units, kinds}
use Rattle.format.specs.Words.{trim_front, trim_byte, trim_end}
use Rattle.format.specs.Descriptors.{from_descriptor, descriptor, may_describe}

-- ---- where it starts

trim_front_le : (s : List ℕ) → length (trim_front s) ≤ length s
unfolding trim_front
trim_front_le [] = omega arith
trim_front_le (b ∷ s) = go (space_or_tab b) (trim_front_le s)
  where
    go : (x : Bool) → length (trim_front s) ≤ length s → length (if x then trim_front s else b ∷ s) ≤ suc (length s)
    go true h = omega arith
    go false h = omega arith

-- the trimmed text are the last bytes
drop_leading : (s : List ℕ) → drop (length s - length (trim_front s)) s ≡ trim_front s
unfolding trim_front
drop_leading [] = refl
drop_leading (b ∷ s) = go (space_or_tab b) (drop_leading s)
  where
    go : (x : Bool) → drop (length s - length (trim_front s)) s ≡ trim_front s
        → drop (suc (length s) - length (if x then trim_front s else b ∷ s)) (b ∷ s) ≡ (if x then trim_front s else b ∷ s)
    go true h =
        let e : suc (length s) - length (trim_front s) ≡ suc (length s - length (trim_front s)) = omega (arith, trim_front_le s) in
        rw e h
    go false h = let e : suc (length s) - suc (length s) ≡ 0 = omega arith in rw e

module _ (f : ℕ) (rest : List ℕ) where
  -- what a field's descriptor starts with is no longer than what follows the mark
  pub from_le : length (from_descriptor f rest) ≤ length rest
  from_le = go (is_understood f)
    where
      go : (x : Bool) → length (if x then trim_front rest else rest) ≤ length rest
      go true = trim_front_le rest
      go false = omega arith

  -- it is the last bytes of it
  pub drop_to_descriptor : drop (length rest - length (from_descriptor f rest)) rest ≡ from_descriptor f rest
  drop_to_descriptor = go (is_understood f)
    where
      go : (x : Bool)
          → drop (length rest - length (if x then trim_front rest else rest)) rest ≡ (if x then trim_front rest else rest)
      go true = drop_leading rest
      go false = let e : length rest - length rest ≡ 0 = omega arith in rw e

-- ---- where it ends

-- the trimmed text are the first bytes
pub take_trimmed : (s : List ℕ) → take (length (trim_end s)) s ≡ trim_end s
unfolding trim_end
take_trimmed [] = refl
take_trimmed (b ∷ s) = go (trim_end s) (take_trimmed s)
  where
    last : (x : Bool) → take (length (if x then [] else b ∷ [])) (b ∷ s) ≡ (if x then [] else b ∷ [])
    last true = refl
    last false = refl

    go : (t : List ℕ) → take (length t) s ≡ t → take (length (trim_byte b t)) (b ∷ s) ≡ trim_byte b t
    go [] h = last (space_or_tab b)
    go (c ∷ t) h = ap (λ (u : List ℕ). b ∷ u) h

-- a descriptor is no longer than what follows its field's mark
pub descriptor_le : (f : ℕ) (rest : List ℕ) → length (descriptor f rest) ≤ length rest
unfolding descriptor
descriptor_le f rest =
    let s = from_descriptor f rest in
    let e : length (trim_end s) ≡ min (length (trim_end s)) (length s) = ap length (sym (take_trimmed s)) ∙ length-take (length (trim_end s)) s in
    omega (arith, from_le f rest)

-- ---- carried fields

pub carried_any : (n m f : ℕ) (t : List ℕ) → is_understood f ≡ false → may_describe n m f t ≡ true
unfolding field_at may_describe
carried_any n m f t h =
    rw (no dimension refl, no type refl, no encoding refl, no endian refl, no sizes refl, no line_skip refl, no byte_skip refl, no data_file refl, no space refl, no space_dimension refl, no space_origin refl, no space_directions refl, no measurement_frame refl, no centers refl, no kinds refl, no labels refl, no units refl)
  where
    no : (g : ℕ) → is_understood g ≡ true → eqb f g ≡ false
    no g u = ne_eqb f g (λ (e : f ≡ g). false≢true (sym h ∙ (ap is_understood e ∙ u)))
