-- Internal to the library. The bytes of a sample as the loops make them. The law `low_data` of proofs/ ties them to the definitions of `format`.
use Rattle.std.specs.Prelude.{ℕ, List, ℤ}
use Rattle.format.specs.Samples.{to_bytes, ordered, from_signed}

-- the low w bytes of a sample's 64 bits
abbrev pub low_bytes : ℕ → ℕ → ℤ → List ℕ
low_bytes w endian z = ordered endian (to_bytes w (from_signed 8 z))
