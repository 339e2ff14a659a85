-- What is written of an orientation is read back (W2), as one statement: `OrientationReadsBack`.
use Rattle.std.specs.Prelude.{ℕ, ◌<◌, ◌≡◌, Bool, true, ◌&&◌, List, [], ◌∷◌, map, ◌==◌, nat_lt, nat_le, nat_abs, length, if◌then◌else◌}
use Rattle.std.proofs.Math.Option.{Option, none, some}
use Rattle.format.specs.declared.Decimal.{Decimal}
use Rattle.format.specs.Bytes.{between}
use Rattle.format.specs.Decimals.{numeric, nan, minus_inf, marked, past_number, max_power, component}
use Rattle.format.specs.Spaces.{space_count, space_named}
use Rattle.format.specs.Vectors.{Direction, without, along, vector_words, vector_said, vectors_said, directions_said}
use Rattle.format.specs.HeaderWriter.{component_text, vector_text, origin_text, frame_text, direction_text, directions_text, space_text}

-- ---- what is kept

-- a number of at most eighteen digits and a power from -400 to 400; or a mark, number and power 0
abbrev pub kept : Decimal → Bool
kept d =
    if d.kind == numeric then nat_lt (nat_abs d.number) past_number && nat_le (nat_abs d.power) max_power
    else between nan minus_inf d.kind && (nat_abs d.number == 0 && nat_abs d.power == 0)

module _ {A : Type 0} where
  -- the test holds for each
  unfoldable pub each : (A → Bool) → List A → Bool
  each p [] = true
  each p (a ∷ as') = p a && each p as'

  -- the same, and there are n
  abbrev pub each_of : ℕ → (A → Bool) → List A → Bool
  each_of n p as' = length as' == n && each p as'

-- a vector of n components, at least one
abbrev pub kept_vector : ℕ → List Decimal → Bool
kept_vector n ds = nat_lt 0 n && each_of n kept ds

abbrev pub kept_direction : ℕ → Direction → Bool
kept_direction n without = true
kept_direction n (along ds) = kept_vector n ds

-- ---- what is meant by what is given

-- number and power of a mark are not written
abbrev pub meant : Decimal → Decimal
meant d = if d.kind == numeric then d else marked d.kind

abbrev pub meant_direction : Direction → Direction
meant_direction without = without
meant_direction (along ds) = along (map meant ds)

-- ---- the laws

-- how a text is read that is written for what is given
pub record ReadsBack {A : Type 0} (text : A → List ℕ) (said : List ℕ → Option A) (keeps : A → Bool) (means : A → A) : Type 0 where
  -- what is kept is read as it was given
  pub back : (a : A) → keeps a ≡ true → said (text a) ≡ some a
  -- nothing else is read but what was meant
  pub only : (a b : A) → said (text a) ≡ some b → b ≡ means a
  -- what is read, from this or any other text, is kept: it can be written and is read again as it is
  pub taken : (t : List ℕ) (a : A) → said t ≡ some a → keeps a ≡ true

-- THE STATEMENT: vectors have n components; there is one origin, a frame has k vectors, and there are k directions
pub record OrientationReadsBack : Type 0 where
  pub components : ReadsBack component_text component kept meant
  -- a kind past the marks is written, and is not read
  pub past : (d : Decimal) → minus_inf < d.kind → component (component_text d) ≡ none
  pub vectors : (n : ℕ) → ReadsBack vector_text (vector_said n) (kept_vector n) (map meant)
  -- so is a vector without components
  pub empty : (n : ℕ) → vector_said n (vector_text []) ≡ none
  -- texts of directions, with one space between two of them, are parted again
  pub words : (ds : List Direction) → vector_words (directions_text ds) ≡ map direction_text ds
  pub frames : (k n : ℕ) → ReadsBack frame_text (vectors_said k n) (each_of k (kept_vector n)) (map (map meant))
  pub directions : (k n : ℕ) → ReadsBack directions_text (directions_said k n) (each_of k (kept_direction n)) (map meant_direction)
  pub origin : (n : ℕ) (ds : List Decimal) → kept_vector n ds ≡ true → vectors_said 1 n (origin_text ds) ≡ some (ds ∷ [])
  pub origin_only : (n : ℕ) (ds : List Decimal) (es : List (List Decimal)) → vectors_said 1 n (origin_text ds) ≡ some es
      → (es ≡ map meant ds ∷ []) × (kept_vector n (map meant ds) ≡ true)
  pub spaces : (i : ℕ) → i < space_count → space_named (space_text i) ≡ some i
