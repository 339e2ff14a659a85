-- Internal to the library. Where the words that blanks outside of brackets part stand in a text.
use Rattle.std.specs.Prelude.{ℕ, ◌≤◌, ◌-◌, ◌≡◌, Bool, not, ◌&&◌, List, [], ◌∷◌, ◌==◌, length, take, drop, slice_index_or, if◌then◌else◌}
use Rattle.format.specs.Bytes.{space_or_tab}
use Rattle.format.specs.Vectors.{inside_after, vector_words}

-- what stands before the first blank outside of brackets, or all where there is none; the flag: the text begins inside of brackets
unfoldable pub first_outside : Bool → List ℕ → List ℕ
first_outside inside [] = []
first_outside inside (b ∷ s) = if space_or_tab b && not inside then [] else b ∷ first_outside (inside_after inside b) s

-- the part of t from one place to another
abbrev pub part : ℕ → ℕ → List ℕ → List ℕ
part from to t = take (to - from) (drop from t)

-- the word in that part and those after it, or none where the part is empty
abbrev pub words_from : ℕ → ℕ → List ℕ → List (List ℕ)
words_from from to t = if from == to then [] else part from to t ∷ vector_words (drop to t)

-- the first word from the place `at` on stands from `from` to `to`
pub record Next (t : List ℕ) (at from to : ℕ) : Type 0 where
  pub ordered : from ≤ to
  pub within : to ≤ length t
  pub words : vector_words (drop at t) ≡ words_from from to t

-- the word number i stands there, or the part is empty where there is none
pub record WordAt (t : List ℕ) (i from to : ℕ) : Type 0 where
  pub ordered : from ≤ to
  pub within : to ≤ length t
  pub word : part from to t ≡ slice_index_or (vector_words t) i []
