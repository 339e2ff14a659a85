-- Internal to the library. Samples in lent bytes, 8 for each.
use Rattle.std.specs.Prelude.{ℕ, List, ℤ}
use Rattle.format.specs.Bytes.{over}
use Rattle.format.specs.Boundary.{samples_lent, lent_samples}

-- lent bytes once these samples are at their front; the samples past them stay, and a rest too short for one
abbrev pub samples_over : List ℤ → List ℕ → List ℕ
samples_over zs d = lent_samples (over zs (samples_lent d)) d
