-- Trials of headers with an orientation by computation (W2; format, section 4), as one list under one statement: `HeaderTrials`.
use Rattle.std.specs.Prelude.{ℕ, true, false, List, [], ◌∷◌, ◌++◌, pos, negsuc, length, replicate}
use Prim.Native.String.{String}
use Rattle.std.proofs.Math.Option.{Option, none, some}
use Rattle.format.specs.declared.Decimal.{Decimal}
use Rattle.format.specs.declared.Refusal.{Refusal}
use Rattle.format.specs.declared.Reading.{Reading}
use Rattle.format.specs.declared.ReadAnswer.{ReadAnswer}
use Rattle.format.specs.declared.VectorAnswer.{VectorAnswer}
use Rattle.format.specs.declared.CountAnswer.{CountAnswer}
use Rattle.format.specs.declared.WriteAnswer.{WriteAnswer}
use Rattle.format.specs.declared.FindAnswer.{FindAnswer}
use Rattle.format.specs.declared.Shape.{Shape}
use Rattle.format.specs.Bytes.{bytes}
use Rattle.format.specs.Refusals.{at_line, refusal, fine}
use Rattle.format.specs.Fields.{space, space_origin}
use Rattle.format.specs.Decimals.{marked, no_direction, nought}
use Rattle.format.specs.Columns.{column, matrix}
use Rattle.format.specs.Calls.{found_at, read_header_call, find_field_call}
use Rattle.format.specs.Orientation.{no_vector, origin_call, direction_call, frame_call, origin_entry, directions_entry, frame_entry}
use Rattle.format.specs.HeaderWriter.{write_header_call}
use Rattle.format.specs.EntryPoints.{no_shape, write_header_entry}
use Rattle.format.specs.Trials.{Trial, trial, Hold, texts, counted}
use Rattle.format.specs.AcceptanceTrials.{with_lines}
use Rattle.format.specs.OrientationTrials.{below, wholes, one_two}

-- ---- which headers are accepted: these lines from line 6 on, in a header of this version and dimension 1

abbrev pub answers : ℕ → List String → Refusal → Trial
answers version ls r = trial Refusal (with_lines version ls) r

abbrev pub accepting : List Trial
accepting =
    answers 4 ("space:  \tras \t" ∷ []) fine
    ∷ answers 4 ("space: 3D-Left-Handed-Time" ∷ []) fine
    ∷ answers 4 ("space: here" ∷ []) (at_line 11 6)
    ∷ answers 4 ("space: " ∷ []) (at_line 11 6)
    ∷ answers 4 ("space dimension: 8" ∷ []) fine
    ∷ answers 4 ("space dimension: 9" ∷ []) (at_line 11 6)
    ∷ answers 4 ("space dimension: 0" ∷ []) (at_line 11 6)
    ∷ answers 4 ("space dimension: +3" ∷ []) (at_line 11 6)
    -- the second of the two is 9, also where it is wrong; before version 4 it is 8
    ∷ answers 4 ("space: RAS" ∷ "space dimension: 3" ∷ []) (at_line 9 7)
    ∷ answers 4 ("space dimension: 3" ∷ "space: RAS" ∷ []) (at_line 9 7)
    ∷ answers 4 ("space dimension: 3" ∷ "space: here" ∷ []) (at_line 9 7)
    ∷ answers 3 ("space: here" ∷ []) (at_line 8 6)
    -- before the space 10, also where it is wrong; a frame in version 4 is 8
    ∷ answers 4 ("space origin: x" ∷ []) (at_line 10 6)
    ∷ answers 5 ("measurement frame: x" ∷ []) (at_line 10 6)
    ∷ answers 4 ("space: RAS" ∷ "measurement frame: x" ∷ []) (at_line 8 7)
    ∷ answers 4 ("space: RAS" ∷ "space origin: (1,2,3)" ∷ "space origin: x" ∷ []) (at_line 9 8)
    -- as many components as the space has, of either field; as many directions as axes
    ∷ answers 4 ("space: RAS" ∷ "space origin: (1,2,3)" ∷ []) fine
    ∷ answers 4 ("space: RAST" ∷ "space origin: (1,2,3)" ∷ []) (at_line 11 7)
    ∷ answers 4 ("space dimension: 2" ∷ "space origin: (1,2)" ∷ "space directions: (3,4)" ∷ []) fine
    ∷ answers 4 ("space dimension: 2" ∷ "space origin: (1,2,3)" ∷ []) (at_line 11 7)
    ∷ answers 4 ("space dimension: 2" ∷ "space origin: none" ∷ []) (at_line 11 7)
    ∷ answers 4 ("space dimension: 2" ∷ "space directions: none" ∷ []) fine
    ∷ answers 4 ("space dimension: 2" ∷ "space directions: none (1,2)" ∷ []) (at_line 11 7)
    ∷ answers 5 ("space dimension: 2" ∷ "measurement frame: (1,2) (3,4)" ∷ []) fine
    ∷ answers 5 ("space dimension: 2" ∷ "measurement frame: (1,2)(3,4)" ∷ []) (at_line 11 7)
    ∷ answers 5 ("space dimension: 2" ∷ "measurement frame: (1,2) none" ∷ []) (at_line 11 7)
    ∷ answers 5 ("space dimension: 1" ∷ "measurement frame: (1e401)" ∷ []) (at_line 11 7)
    -- space units stay text
    ∷ answers 4 ("space dimension: 2" ∷ "space units: none of two" ∷ []) fine
    ∷ []

-- ---- what they say: section 4's directions, with colors on the fastest axis, and its origin; a frame that is not symmetric

abbrev pub posed : List ℕ
posed =
    texts
    ("NRRD0005"
    ∷ "type: uint8"
    ∷ "dimension: 4"
    ∷ "sizes: 3 1 1 1"
    ∷ "encoding: raw"
    ∷ "space: right-anterior-superior"
    ∷ "space origin: (0.0,1.0,0.3)"
    ∷ "space directions: none (1,0,0) (0,1,0) (0,0,3)"
    ∷ "measurement frame: (1,2,3) (4,5,6) (7,8,9)"
    ∷ ""
    ∷ [])

abbrev pub reading_posed : Reading
reading_posed =
    record {
      version = 5;
      form = 0;
      dimension = 4;
      sampletype = 1;
      encoding = 0;
      endian = 2;
      sizes = 3 ∷ 1 ∷ 1 ∷ 1 ∷ replicate 12 0;
      lineskip = 0;
      byteskip = 0;
      extent = 3;
      length = 213;
      lines = 10;
      fromend = false;
      origin = true;
      directions = true;
      frame = true;
      space = 0;
      spacedimension = 3;
      files = 1;
      fieldlines = 10;
    }

abbrev pub origin_posed : List Decimal
origin_posed = below 0 0 ∷ below 10 0 ∷ below 3 0 ∷ []

abbrev pub vector : ℕ → List Decimal → VectorAnswer
vector n ds = record { refusal = fine; given = true; count = n; parts = column ds }

-- 160 bytes of which a list of ten decimals is made
abbrev pub list : List ℕ
list = replicate 160 7

-- two axes in two dimensions, one of them without a direction; a frame that is not symmetric
abbrev pub flat : List ℕ
flat =
    texts
    ("NRRD0005"
    ∷ "type: uint8"
    ∷ "dimension: 2"
    ∷ "sizes: 1 1"
    ∷ "encoding: raw"
    ∷ "space dimension: 2"
    ∷ "space directions: none (5,6)"
    ∷ "measurement frame: (1,2) (3,4)"
    ∷ ""
    ∷ [])

-- the 16 bytes of a whole number below 256, and of the mark of an axis without a direction
abbrev pub whole_bytes : ℕ → List ℕ
whole_bytes n = n ∷ replicate 15 0

abbrev pub none_bytes : List ℕ
none_bytes = replicate 12 0 ++ 4 ∷ replicate 3 0

abbrev pub saying : List Trial
saying =
    trial ReadAnswer (read_header_call posed) (record { refusal = fine; reading = reading_posed })
    ∷ trial FindAnswer (find_field_call posed space_origin) (found_at 108 13)
    ∷ trial VectorAnswer (origin_call posed) (vector 3 origin_posed)
    ∷ trial VectorAnswer (direction_call posed 0) (vector 0 (marked no_direction ∷ []))
    ∷ trial VectorAnswer (direction_call posed 3) (vector 3 (wholes (0 ∷ 0 ∷ 3 ∷ [])))
    ∷ trial VectorAnswer (direction_call posed 4) (no_vector (refusal 23))
    ∷ trial (List (List Decimal)) (frame_call posed) (matrix (wholes (1 ∷ 2 ∷ 3 ∷ []) ∷ wholes (4 ∷ 5 ∷ 6 ∷ []) ∷ wholes (7 ∷ 8 ∷ 9 ∷ []) ∷ []))
    -- in lent bytes: a decimal in 16, the rest stays; 22 where they are too short
    ∷ trial (CountAnswer × List ℕ) (origin_entry posed (replicate 49 7))
    (counted 3, (replicate 8 0 ++ (replicate 4 255 ++ (replicate 4 0 ++ (10 ∷ replicate 7 0 ++ (replicate 4 255 ++ (replicate 4 0 ++ (3 ∷ replicate 7 0 ++ (replicate 4 255 ++ (replicate 4 0 ++ 7 ∷ []))))))))))
    ∷ trial (CountAnswer × List ℕ) (origin_entry posed (replicate 47 7)) (record { refusal = refusal 22; count = 0 }, replicate 47 7)
    ∷ trial CountAnswer (directions_entry posed list).0 (record { refusal = refusal 22; count = 0 })
    ∷ trial CountAnswer (directions_entry posed (replicate 192 7)).0 (counted 12)
    ∷ trial CountAnswer (frame_entry posed list).0 (counted 9)
    -- axis after axis, column after column
    ∷ trial (CountAnswer × List ℕ) (directions_entry flat (replicate 65 7)) (counted 4, none_bytes ++ (whole_bytes 0 ++ (whole_bytes 5 ++ (whole_bytes 6 ++ 7 ∷ []))))
    ∷ trial (CountAnswer × List ℕ) (frame_entry flat (replicate 64 7)) (counted 4, whole_bytes 1 ++ (whole_bytes 2 ++ (whole_bytes 3 ++ whole_bytes 4)))
    ∷ trial (CountAnswer × List ℕ) (origin_entry flat list) (counted 0, list)
    ∷ trial VectorAnswer (origin_call flat) (no_vector fine)
    -- nothing is given, and a file that is refused
    ∷ trial VectorAnswer (origin_call (texts ("NRRD0004" ∷ "type: uint8" ∷ "dimension: 1" ∷ "sizes: 1" ∷ "encoding: raw" ∷ "space: LPS" ∷ "" ∷ []))) (no_vector fine)
    ∷ trial VectorAnswer (origin_call []) (no_vector (at_line 2 1))
    ∷ trial VectorAnswer (direction_call (texts ("NRRD0001" ∷ "type: uint8" ∷ "dimension: 1" ∷ "sizes: 1" ∷ "encoding: raw" ∷ "" ∷ [])) 1) (no_vector (refusal 23))
    ∷ trial (List (List Decimal)) (frame_call []) (matrix [])
    ∷ []

-- ---- the header writer: its refusals in order, and what it writes

-- what is given: `given`, a space, a space's dimension; vectors of 2 components, one axis, two columns
abbrev pub shaped : ℕ → ℕ → ℕ → Shape
shaped given i n = record { given = given; components = 2; axes = 1; columns = 2; space = i; spacedimension = n }

-- a header of this version for one uint8 sample, type 1, raw, to a buffer of so many bytes 7
abbrev pub writes : ℕ → ℕ → Shape → WriteAnswer × List ℕ
writes version room s =
    write_header_call version (1 ∷ []) 1 0 0 s (column (wholes (5 ∷ 6 ∷ []))) (column (wholes (7 ∷ 8 ∷ [])) ∷ replicate 15 (column [])) (matrix (one_two ∷ wholes (3 ∷ 4 ∷ []) ∷ [])) (replicate room 7)

abbrev pub refusing : ℕ → ℕ → Shape → Refusal → Trial
refusing version room s r = trial (WriteAnswer × List ℕ) (writes version room s) (record { refusal = r; length = 0 }, replicate room 7)

abbrev pub header_of : List ℕ
header_of =
    texts
    ("NRRD0005"
    ∷ "type: uint8"
    ∷ "dimension: 1"
    ∷ "sizes: 1"
    ∷ "encoding: raw"
    ∷ "space dimension: 2"
    ∷ "space origin: (5e0,6e0)"
    ∷ "space directions: (7e0,8e0)"
    ∷ "measurement frame: (1e0,2e0) (3e0,4e0)"
    ∷ ""
    ∷ [])

-- the same in 3,232 bytes: in a space of the list, vectors of three components, one direction, three columns; each with numbers of its own
abbrev pub wholes_bytes : List ℕ → List ℕ
wholes_bytes [] = []
wholes_bytes (n ∷ ns) = whole_bytes n ++ wholes_bytes ns

abbrev pub lent_orientation : List ℕ
lent_orientation =
    (2 ∷ replicate 7 0)
    ++ ((9 ∷ replicate 7 0)
    ++ ((29 ∷ replicate 3 0)
    ++ ((3 ∷ replicate 3 0)
    ++ ((1 ∷ replicate 3 0)
    ++ ((3 ∷ replicate 3 0)
    ++ (wholes_bytes (1 ∷ 2 ∷ 3 ∷ 4 ∷ 0 ∷ 0 ∷ 0 ∷ 0 ∷ [])
    ++ (wholes_bytes (5 ∷ 6 ∷ 7 ∷ 8 ∷ 0 ∷ 0 ∷ 0 ∷ 0 ∷ [])
    ++ (replicate 1920 0
    ++ (wholes_bytes (11 ∷ 12 ∷ 13 ∷ 14 ∷ 0 ∷ 0 ∷ 0 ∷ 0 ∷ [])
    ++ (wholes_bytes (21 ∷ 22 ∷ 23 ∷ 24 ∷ 0 ∷ 0 ∷ 0 ∷ 0 ∷ [])
    ++ (wholes_bytes (31 ∷ 32 ∷ 33 ∷ 34 ∷ 0 ∷ 0 ∷ 0 ∷ 0 ∷ [])
    ++ replicate 640 0)))))))))))

abbrev pub header_lent : List ℕ
header_lent =
    texts
    ("NRRD0005"
    ∷ "type: uint8"
    ∷ "dimension: 1"
    ∷ "sizes: 1"
    ∷ "encoding: raw"
    ∷ "space: left-posterior-superior"
    ∷ "space origin: (1e0,2e0,3e0)"
    ∷ "space directions: (5e0,6e0,7e0)"
    ∷ "measurement frame: (11e0,12e0,13e0) (21e0,22e0,23e0) (31e0,32e0,33e0)"
    ∷ ""
    ∷ [])

abbrev pub writing : List Trial
writing =
    refusing 6 0 (shaped 0 0 0) (refusal 11)
    ∷ refusing 5 0 (shaped 1 12 0) (refusal 11)
    ∷ refusing 3 0 (shaped 1 12 0) (refusal 11)
    ∷ refusing 5 0 (shaped 32 0 0) (refusal 11)
    ∷ refusing 3 0 (shaped 1 0 0) (refusal 8)
    ∷ refusing 4 0 (shaped 16 0 0) (refusal 8)
    ∷ refusing 5 0 (shaped 3 0 2) (at_line 9 7)
    ∷ refusing 5 0 (shaped 4 0 0) (at_line 10 6)
    ∷ refusing 5 0 (shaped 5 0 0) (at_line 11 7)
    ∷ refusing 5 0 (shaped 2 0 9) (at_line 11 6)
    ∷ refusing 5 167 (shaped 30 0 2) (refusal 22)
    ∷ trial (WriteAnswer × List ℕ) (writes 5 169 (shaped 30 0 2)) (record { refusal = fine; length = 168 }, header_of ++ 7 ∷ [])
    ∷ trial (List ℕ) (writes 1 70 no_shape).1 (texts ("NRRD0001" ∷ "type: uint8" ∷ "dimension: 1" ∷ "sizes: 1" ∷ "encoding: raw" ∷ "" ∷ []) ++ replicate 12 7)
    ∷ trial (WriteAnswer × List ℕ) (write_header_entry 5 (1 ∷ replicate 7 0) 1 0 0 lent_orientation (replicate 219 7)) (record { refusal = fine; length = 219 }, header_lent)
    ∷ trial Refusal (write_header_entry 5 (1 ∷ replicate 7 0) 1 0 0 (replicate 3231 0) []).0.refusal (refusal 11)
    ∷ trial Refusal (write_header_entry 5 (1 ∷ replicate 7 0) 1 0 0 [] []).0.refusal (refusal 22)
    ∷ []

-- THE STATEMENT
pub record HeaderTrials : Type 0 where
  pub in_accepting : Hold accepting
  pub in_saying : Hold saying
  pub in_writing : Hold writing
