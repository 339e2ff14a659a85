-- Internal to the library. What is refused, in the words of the contracts. Each is tied to the definitions of `format` by a law of proofs/.
use Rattle.std.specs.Prelude.{◌≡◌, ℕ, ◌+◌, ◌*◌, ◌^◌, ◌<◌, ◌≤◌, Bool, true, not, ◌&&◌, List, [], ◌∷◌, length, ℤ, pos, negsuc, ◌==◌, nat_le, nat_lt, if◌then◌else◌}
use Rattle.format.specs.Limits.{max_file, max_extent}
use Rattle.format.specs.Refusals.{file_too_long, bad_descriptor, extent_too_large, float_samples, bad_sample, lent_too_short, wrong_count}
use Rattle.format.specs.Descriptors.{sample_bytes, number_kind, is_floating, product, extent}
use Rattle.format.specs.Writer.{all_in_type, writable}

-- a sample lies from -low to high
abbrev pub in_range : ℕ → ℕ → ℤ → Bool
in_range low high (pos n) = nat_le n high
in_range low high (negsuc n) = nat_lt n low

unfoldable pub all_in_range : ℕ → ℕ → List ℤ → Bool
all_in_range low high [] = true
all_in_range low high (z ∷ zs) = in_range low high z && all_in_range low high zs

-- the values from -low to high are as many as a power of 2
abbrev pub WholeRange : ℕ → ℕ → Type 0
WholeRange low high = (k : ℕ) × (low + high + 1 ≡ 2 ^ k)

-- the refusals that do not ask for the file's length, in the order of `write_refusal`
unfoldable pub early_refusal : ℕ → List ℕ → ℕ → ℕ → ℕ → List ℤ → ℕ
early_refusal version sizes t e endian zs =
    if not (writable version sizes t e endian) then bad_descriptor
    else if nat_lt max_extent (extent sizes t) then extent_too_large
    else if is_floating (number_kind t) then float_samples
    else if not (length zs == product sizes) then wrong_count
    else if not (all_in_type (number_kind t) (sample_bytes t) zs) then bad_sample
    else 0

-- those that do, by the file's length and the bytes lent
abbrev pub late_refusal : ℕ → ℕ → ℕ
late_refusal total room = if nat_lt max_file total then file_too_long else if nat_lt room total then lent_too_short else 0

-- what is known of samples of a type where no early refusal is met
pub record Ready (t : ℕ) (zs : List ℤ) : Type 0 where
  pub extent_small : length zs * sample_bytes t ≤ max_extent
  pub in_type : all_in_type (number_kind t) (sample_bytes t) zs ≡ true
