-- What is written of an orientation is read back: the statement `OrientationReadsBack`.
-- Assumes nothing.
use Prim.Native.Nat.{ℕ, zero, suc, ◌<◌}
use native.Mathlib.Omega.{arith}
use mathlib.Core.Path.{◌≡◌, refl, sym, ◌∙◌}
use mathlib.Core.Bool.{Bool, true, false}
use mathlib.Core.List.{[], ◌∷◌, map}
use mathlib.Core.Option.{some}
use lib.Dec.{eqb}
use borrow.Author.Tests.{eqb-true, eqb-false}
use Rattle.format.specs.Bytes.{alike, is_any, row_from}
use Rattle.format.specs.Spaces.{space_at, space_count, space_named}
use Rattle.format.specs.HeaderWriter.{space_text}
use Rattle.theorem_orientation.specs.ReadBack.{kept_vector, meant, OrientationReadsBack}
use Rattle.theorem_orientation.proofs.Components.{said_if, component_back, past_said}
use Rattle.theorem_orientation.proofs.Joined.{direction_words}
use Rattle.theorem_orientation.proofs.Vectors.{empty_vector, vector_itself, vector_back, frame_back, origin_exactly, directions_back}

-- ---- spaces, each computed

abbrev AllBelow : (ℕ → Type 0) → ℕ → Type 0
AllBelow P zero = Unit {0}
AllBelow P (suc n) = P n × AllBelow P n

all_below : (P : ℕ → Type 0) (n : ℕ) → AllBelow P n → (i : ℕ) → i < n → P i
all_below P zero h i l = absurd (omega arith)
all_below P (suc n) h i l = go (eqb i n) refl (λ k. all_below P n h.1 i k)
  where
    go : (t : Bool) → eqb i n ≡ t → (i < n → P i) → P i
    go true q on = rw (eqb-true i n q) h.0
    go false q on = on (omega (arith, eqb-false i n q))

space_back : (i : ℕ) → i < space_count → space_named (space_text i) ≡ some i
unfolding space_at row_from is_any alike
space_back =
    all_below (λ i. space_named (space_text i) ≡ some i) space_count (refl, (refl, (refl, (refl, (refl, (refl, (refl, (refl, (refl, (refl, (refl, (refl, tt))))))))))))

-- ---- all

pub orientation_back : OrientationReadsBack
orientation_back = record {
  components = component_back;
  past = past_said;
  vectors = vector_back;
  empty = empty_vector;
  words = direction_words;
  frames = frame_back;
  directions = directions_back;
  origin = λ n ds h. origin_exactly n ds ∙ rw (vector_itself n ds h, h);
  origin_only = λ n ds es h. said_if (kept_vector n (map meant ds)) (map meant ds ∷ []) es (sym (origin_exactly n ds) ∙ h);
  spaces = space_back;
}
