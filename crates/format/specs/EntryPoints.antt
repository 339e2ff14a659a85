-- What each entry point for C answers, where numbers cross in bytes: the call of Calls.antt on the numbers that the bytes hold
-- (Boundary.antt). A lent table or list comes back as the bytes of its numbers; a rest too short for one stays.
-- The other entry points answer as their calls do.
use Rattle.std.specs.Prelude.{ℕ, zero, suc, List, [], ◌∷◌, ◌==◌, length, take, drop, replicate, if◌then◌else◌}
use Rattle.format.specs.declared.ReadAnswer.{ReadAnswer}
use Rattle.format.specs.declared.CountAnswer.{CountAnswer}
use Rattle.format.specs.declared.NumberAnswer.{NumberAnswer}
use Rattle.format.specs.declared.WriteAnswer.{WriteAnswer}
use Rattle.format.specs.declared.SetAnswer.{SetAnswer}
use Rattle.format.specs.declared.Decimal.{Decimal}
use Rattle.format.specs.declared.Shape.{Shape}
use Rattle.format.specs.Bytes.{is_empty}
use Rattle.format.specs.Refusals.{bad_descriptor, refusal}
use Rattle.format.specs.Columns.{column, matrix}
use Rattle.format.specs.Samples.{from_bytes}
use Rattle.format.specs.HeaderWriter.{header_refused, write_header_call}
use Rattle.format.specs.Boundary.{entry_bytes, word_bytes, numbers_of, lent_numbers, samples_lent, lent_samples, decimals_lent}
use Rattle.format.specs.Calls.{read_call, samples_call, sample_number_call, write_call, set_key_call}

-- craneholt_read: a table of 4 bytes an entry
abbrev pub read_entry : List ℕ → List ℕ → ReadAnswer × List ℕ
read_entry file table = let a = read_call file (numbers_of entry_bytes table) in (a.0, lent_numbers entry_bytes a.1 table)

-- craneholt_samples: a list of 8 bytes a sample
abbrev pub samples_entry : List ℕ → List ℕ → List ℕ → CountAnswer × List ℕ
samples_entry file second list = let a = samples_call file second (samples_lent list) in (a.0, lent_samples a.1 list)

-- craneholt_sample_number: coordinates of 8 bytes each
abbrev pub sample_number_entry : List ℕ → List ℕ → NumberAnswer
sample_number_entry file coords = sample_number_call file (numbers_of word_bytes coords)

-- craneholt_write: sizes and samples of 8 bytes each
abbrev pub write_entry : ℕ → List ℕ → ℕ → ℕ → ℕ → List ℕ → List ℕ → WriteAnswer × List ℕ
write_entry version sizes t e endian samples out = write_call version (numbers_of word_bytes sizes) t e endian (samples_lent samples) out

-- craneholt_set_key: a table of 4 bytes an entry
abbrev pub set_key_entry : List ℕ → ℕ → List ℕ → ℕ → List ℕ → List ℕ → SetAnswer × (List ℕ × List ℕ)
set_key_entry buf used table count k v =
    let a = set_key_call buf used (numbers_of entry_bytes table) count k v in (a.0, (a.1.0, lent_numbers entry_bytes a.1.1 table))

-- craneholt_origin, craneholt_directions, craneholt_frame: Orientation.antt

-- craneholt_write_header: sizes of 8 bytes each; what is given of the orientation in 3,232 bytes, or in none where nothing is
abbrev pub orientation_width : ℕ
orientation_width = 3232

-- space and space dimension of 8 bytes; then what is given, and how many components, axes and columns, of 4
abbrev pub shape_lent : List ℕ → Shape
shape_lent s =
    record {
      given = from_bytes (take 4 (drop 16 s));
      components = from_bytes (take 4 (drop 20 s));
      axes = from_bytes (take 4 (drop 24 s));
      columns = from_bytes (take 4 (drop 28 s));
      space = from_bytes (take 8 s);
      spacedimension = from_bytes (take 8 (drop 8 s));
    }

-- after these 32 bytes come 25 arrays of 8 decimals: the origin, 16 directions, 8 columns of the frame
unfoldable pub columns_lent : ℕ → List ℕ → List (List Decimal)
columns_lent zero s = []
columns_lent (suc n) s = decimals_lent (take 128 s) ∷ columns_lent n (drop 128 s)

-- nothing is given
abbrev pub no_shape : Shape
no_shape = record { given = 0; components = 0; axes = 0; columns = 0; space = 0; spacedimension = 0 }

unfoldable pub write_header_entry : ℕ → List ℕ → ℕ → ℕ → ℕ → List ℕ → List ℕ → WriteAnswer × List ℕ
write_header_entry version sizes t e endian lent out =
    if is_empty lent then write_header_call version (numbers_of word_bytes sizes) t e endian no_shape (column []) (replicate 16 (column [])) (matrix []) out
    else if length lent == orientation_width then
    write_header_call version (numbers_of word_bytes sizes) t e endian (shape_lent lent) (decimals_lent (take 128 (drop 32 lent))) (columns_lent 16 (drop 160 lent)) (columns_lent 8 (drop 2208 lent)) out
    else header_refused (refusal bad_descriptor) out
