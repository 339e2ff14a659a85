-- What is written is read back, as one statement: `RoundTrips`.
-- It speaks of `file_bytes` and `write_refusal`, the definitions that the writer's contract cites, and of the answers of the reading calls.
use Rattle.std.specs.Prelude.{ℕ, ◌≤◌, ◌-◌, ◌≡◌, false, List, ◌++◌, ℤ, length, replicate, if◌then◌else◌}
use Rattle.format.specs.declared.ReadAnswer.{ReadAnswer}
use Rattle.format.specs.declared.DataAnswer.{DataAnswer}
use Rattle.format.specs.declared.CountAnswer.{CountAnswer}
use Rattle.format.specs.Bytes.{over}
use Rattle.format.specs.Limits.{max_axes}
use Rattle.format.specs.Refusals.{fine}
use Rattle.format.specs.Descriptors.{endian_needed, no_endian, no_space, sample_bytes, extent}
use Rattle.format.specs.Writer.{header_lines, data_bytes, header_bytes, file_bytes, write_refusal}
use Rattle.format.specs.Calls.{read_header_call, data_place_call, data_call, samples_call}

-- how many lines its header has; none of them is a name under LIST
abbrev pub line_count : ℕ → List ℕ → ℕ → ℕ → ℕ → ℕ
line_count version sizes t e endian = length (header_lines version sizes t e endian)

-- the numbers of a written file's reading: those that went in; the endian where it has to be written, none elsewhere; one file, its own
abbrev pub read_back : ℕ → List ℕ → ℕ → ℕ → ℕ → ReadAnswer
read_back version sizes t e endian =
    record {
      refusal = fine;
      reading = record {
        version = version;
        form = 0;
        dimension = length sizes;
        sampletype = t;
        encoding = e;
        endian = if endian_needed t e then endian else no_endian;
        sizes = sizes ++ replicate (max_axes - length sizes) 0;
        lineskip = 0;
        byteskip = 0;
        extent = extent sizes t;
        length = length (header_bytes version sizes t e endian);
        lines = line_count version sizes t e endian;
        fromend = false;
        origin = false;
        directions = false;
        frame = false;
        space = no_space;
        spacedimension = 0;
        files = 1;
        fieldlines = line_count version sizes t e endian;
      };
    }

-- the data lies right after the header, to the end of the file
abbrev pub data_back : ℕ → List ℕ → ℕ → ℕ → ℕ → List ℤ → DataAnswer
data_back version sizes t e endian zs =
    record {
      refusal = fine;
      second = false;
      start = length (header_bytes version sizes t e endian);
      length = length (data_bytes e (sample_bytes t) endian zs);
    }

abbrev pub count_back : List ℤ → CountAnswer
count_back zs = record { refusal = fine; count = length zs }

-- of everything that the writer accepts, whatever second file and list are lent to the readers
pub record ReadsBack (version : ℕ) (sizes : List ℕ) (t e endian : ℕ) (zs : List ℤ) : Type 0 where
  pub reading : read_header_call (file_bytes version sizes t e endian zs) ≡ read_back version sizes t e endian
  pub place : (second : List ℕ) → data_place_call (file_bytes version sizes t e endian zs) second ≡ data_back version sizes t e endian zs
  pub part : (second : List ℕ) → data_call (file_bytes version sizes t e endian zs) second ≡ data_bytes e (sample_bytes t) endian zs
  pub samples : (second : List ℕ) (list : List ℤ) → length zs ≤ length list → samples_call (file_bytes version sizes t e endian zs) second list ≡ (count_back zs, over zs list)

-- THE STATEMENT
abbrev pub RoundTrips : Type 0
RoundTrips =
    (version : ℕ) (sizes : List ℕ) (t e endian : ℕ) (zs : List ℤ) (room : ℕ) → write_refusal version sizes t e endian zs room ≡ 0
    → ReadsBack version sizes t e endian zs
