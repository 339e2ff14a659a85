-- Internal to this crate. What the parts of the sample calls need and answer.
use Rattle.std.specs.Prelude.{ℕ, ◌*◌, ◌≤◌, ◌≡◌, false, ◌==◌, nat_lt, List, length, Result, Ok, Err, if◌then◌else◌}
use Rattle.format.specs.declared.Reading.{Reading}
use Rattle.format.specs.declared.reason.Refused.{Refused}
use Rattle.format.specs.Codes.{encoding_code}
use Rattle.format.specs.Descriptors.{raw, number_kind, is_floating, sample_bytes}
use Rattle.format.specs.Header.{header}
use Rattle.format.specs.Refusals.{refusal, lent_too_short}
use Rattle.format.specs.Samples.{Decoded, samples_of}
use Rattle.format.specs.Calls.{no_samples, answer_decoded, check_samples_call, seen_in}
use Rattle.format.specs.Widths.{kind_by, endian_by}
use Rattle.data_samples.specs.declared.data.Data.{Data}

-- n samples of the bytes s, by the numbers of a reading
abbrev pub decoded_by : Reading → ℕ → List ℕ → Decoded
decoded_by x n s = samples_of x.encoding (number_kind x.sampletype) (sample_bytes x.sampletype) x.endian n s

-- they are samples of an integer type, and raw data has the bytes of all
pub record Decodable (x : Reading) (n : ℕ) (s : List ℕ) : Type 0 where
  pub integer : is_floating (number_kind x.sampletype) ≡ false
  pub enough : x.encoding ≡ raw → n * sample_bytes x.sampletype ≤ length s

-- the samples of the data
abbrev pub decoded_of : Data → Decoded
decoded_of d = samples_of (encoding_code d.encoding) (kind_by d.signed) d.width (endian_by d.big) d.count d.bytes.now

-- d is the data of the samples of these files
pub record Found (file second : List ℕ) (d : Data) : Type 0 where
  pub call : (room : ℕ) → check_samples_call file second room ≡ (if nat_lt room d.count then no_samples (refusal lent_too_short) else answer_decoded d.count (decoded_of d))
  pub seen : seen_in file second (header file) ≡ (decoded_of d).seen

-- and there is room for its samples, none of which is refused
pub record Ready (file second : List ℕ) (room : ℕ) (d : Data) : Type 0 where
  pub fits : d.count ≤ room
  pub none : (decoded_of d).number ≡ 0
  pub seen : seen_in file second (header file) ≡ (decoded_of d).seen

-- how many samples
abbrev pub counted : Result Data Refused → Result ℕ Refused
counted (Ok d) = Ok d.count
counted (Err refused) = Err refused
