-- Internal to the library. What a call asks for and the array that comes of it, in the numbers of the format.
use Rattle.std.specs.Prelude.{◌≡◌, ℕ, Bool, true, false, Result, List, ℤ, MatchResult}
use Rattle.format.specs.Codes.{type_code, encoding_code, endian_code}
use Rattle.format.specs.Writer.{writable}
use Rattle.format.specs.declared.reason.Reason.{Reason}
use Rattle.format.specs.declared.reason.Reason.TheVariants.{BadDescriptor}
use Rattle.write_checks.specs.declared.asked.Asked.{Asked}
use Rattle.write_checks.specs.declared.asked.Array.{Array}

-- a function of the five numbers, at those that are asked for and at those of an array
abbrev pub on_asked : {T : Type 0} → (ℕ → List ℕ → ℕ → ℕ → ℕ → T) → Asked → T
on_asked f asked = f asked.version asked.sizes.now asked.sampletype asked.encoding asked.endian

abbrev pub on_array : {T : Type 0} → (ℕ → List ℕ → ℕ → ℕ → ℕ → T) → Array → T
on_array f array = f array.version array.sizes.now (type_code array.coding.sample_type) (encoding_code array.coding.encoding) (endian_code array.coding.endian)

-- the array is the one that is asked for
pub record IsOf (asked : Asked) (array : Array) : Type 0 where
  pub version : array.version ≡ asked.version
  pub sizes : array.sizes.now ≡ asked.sizes.now
  pub sample_type : type_code array.coding.sample_type ≡ asked.sampletype
  pub encoding : encoding_code array.coding.encoding ≡ asked.encoding
  pub endian : endian_code array.coding.endian ≡ asked.endian

-- an array, where a header can describe it, and only there
abbrev pub checked_as : Asked → Result Array Reason → Type 0
checked_as asked r = MatchResult r (λ array. IsOf asked array × (on_asked writable asked ≡ true)) (λ reason. (reason ≡ BadDescriptor) × (on_asked writable asked ≡ false))
