-- The number of a sample from its coordinates (rules, "Data and samples", the third paragraph; refusal 23).
-- Axis 0 is fastest: c0 + s0 × (c1 + s1 × (...)), worked out from the slowest axis down.
use Rattle.std.specs.Prelude.{ℕ, ◌+◌, ◌*◌, Bool, true, false, ◌&&◌, List, [], ◌∷◌, nat_lt}

-- as many coordinates as axes, each below its size
unfoldable pub inside : List ℕ → List ℕ → Bool
inside [] [] = true
inside [] (c ∷ cs) = false
inside (s ∷ ss) [] = false
inside (s ∷ ss) (c ∷ cs) = nat_lt c s && inside ss cs

unfoldable pub sample_number : List ℕ → List ℕ → ℕ
sample_number [] cs = 0
sample_number (s ∷ ss) [] = 0
sample_number (s ∷ ss) (c ∷ cs) = c + s * sample_number ss cs
