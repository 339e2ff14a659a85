-- Trials of decimals, vectors, spaces and their text (W2; format, section 4) by computation, as one list under one statement: `OrientationTrials`.
use Rattle.std.specs.Prelude.{ℕ, List, [], ◌∷◌, map, pos, negsuc}
use Prim.Native.String.{String}
use Rattle.std.proofs.Math.Option.{Option, none, some}
use Rattle.format.specs.declared.Decimal.{Decimal}
use Rattle.format.specs.Bytes.{bytes}
use Rattle.format.specs.Decimals.{num, marked, nan, inf, minus_inf, component}
use Rattle.format.specs.Spaces.{space_named, spaces, space_axes}
use Rattle.format.specs.Vectors.{Direction, without, along, vectors_said, directions_said}
use Rattle.format.specs.HeaderWriter.{component_text, vector_text, directions_text, space_text, orientation, oriented_bytes}
use Rattle.format.specs.Trials.{Trial, trial, Hold, texts}

-- what a component says
abbrev pub says : String → Option Decimal → Trial
says t d = trial (Option Decimal) (component (bytes t)) d

-- a number that is not negative, with a power that is not
abbrev pub whole : ℕ → ℕ → Decimal
whole n p = num (pos n) (pos p)

-- a number with a power below 0: `below n 0` has the power -1, `below n 1` has -2
abbrev pub below : ℕ → ℕ → Decimal
below n p = num (pos n) (negsuc p)

abbrev pub components : List Trial
components =
    says "1" (some (whole 1 0))
    ∷ says "-150" (some (num (negsuc 149) (pos 0)))
    ∷ says "-1.50" (some (num (negsuc 149) (negsuc 1)))
    ∷ says "+.5" (some (below 5 0))
    ∷ says "5." (some (whole 5 0))
    ∷ says "007" (some (whole 7 0))
    ∷ says "-0" (some (whole 0 0))
    ∷ says "0.00" (some (below 0 1))
    ∷ says "1.5e3" (some (whole 15 2))
    ∷ says "1E-2" (some (below 1 1))
    ∷ says "1e+00000000000000000000000400" (some (whole 1 400))
    ∷ says "0.1e401" (some (whole 1 400))
    ∷ says "1e400" (some (whole 1 400))
    ∷ says "1e401" none
    ∷ says "1e-400" (some (num (pos 1) (negsuc 399)))
    ∷ says "1e-401" none
    ∷ says "1.5e-400" none
    ∷ says "0e500" none
    ∷ says "999999999999999999" (some (whole 999_999_999_999_999_999 0))
    ∷ says "-000999999999999999999" (some (num (negsuc 999_999_999_999_999_998) (pos 0)))
    ∷ says "1000000000000000000" none
    ∷ says "1.000000000000000000" none
    ∷ says "0.0000000000000000000001" (some (below 1 21))
    ∷ says "0e400" (some (whole 0 400))
    ∷ says "0e-401" none
    ∷ says "-0.0" (some (below 0 0))
    ∷ says "1e-0" (some (whole 1 0))
    ∷ says "1e4294967696" none
    ∷ says "nan" (some (marked nan))
    ∷ says "+nan" (some (marked nan))
    ∷ says "-NaN" (some (marked nan))
    ∷ says "+inf" (some (marked inf))
    ∷ says "infinity" (some (marked inf))
    ∷ says "-Infinity" (some (marked minus_inf))
    ∷ says "" none
    ∷ says "." none
    ∷ says ".e1" none
    ∷ says "-" none
    ∷ says "e5" none
    ∷ says "1e" none
    ∷ says "1e+" none
    ∷ says "1.2.3" none
    ∷ says "0x1" none
    ∷ says "0x1p3" none
    ∷ says "1 2" none
    ∷ says "--1" none
    ∷ says "nan(1)" none
    ∷ says "xnan" none
    ∷ says "infinit" none
    ∷ []

-- ---- vectors

-- as many vectors, of as many components
abbrev pub vectors : ℕ → ℕ → String → Option (List (List Decimal)) → Trial
vectors k n t ds = trial (Option (List (List Decimal))) (vectors_said k n (bytes t)) ds

abbrev pub directions : ℕ → ℕ → String → Option (List Direction) → Trial
directions k n t ds = trial (Option (List Direction)) (directions_said k n (bytes t)) ds

-- a vector of whole numbers
abbrev pub wholes : List ℕ → List Decimal
wholes ns = map (λ n. whole n 0) ns

abbrev pub one_two : List Decimal
one_two = wholes (1 ∷ 2 ∷ [])

abbrev pub vector_trials : List Trial
vector_trials =
    -- section 4: an origin, and directions with colors on the fastest axis
    vectors 1 3 "(0.0,1.0,0.3)" (some ((below 0 0 ∷ below 10 0 ∷ below 3 0 ∷ []) ∷ []))
    ∷ directions 4 3 "none (1,0,0) (0,1,0) (0,0,3)"
    (some
    (without
    ∷ along (wholes (1 ∷ 0 ∷ 0 ∷ []))
    ∷ along (wholes (0 ∷ 1 ∷ 0 ∷ []))
    ∷ along (wholes (0 ∷ 0 ∷ 3 ∷ []))
    ∷ []))
    ∷ vectors 1 2 "(1,2)" (some (one_two ∷ []))
    ∷ vectors 1 2 "( 1\t,  2 )" (some (one_two ∷ []))
    ∷ vectors 2 2 "(1,2) \t (1,2)" (some (one_two ∷ one_two ∷ []))
    ∷ directions 2 2 "(1,2)\tNONE" (some (along one_two ∷ without ∷ []))
    -- a frame: the first vector is the first column
    ∷ vectors 2 2 "(1,2) (3,4)" (some (one_two ∷ wholes (3 ∷ 4 ∷ []) ∷ []))
    -- a wrong number of vectors, of components
    ∷ vectors 2 2 "(1,2)" none
    ∷ vectors 1 2 "(1,2) (1,2)" none
    ∷ directions 1 2 "none none" none
    ∷ vectors 1 2 "" none
    ∷ vectors 1 2 "(1)" none
    ∷ vectors 1 2 "(1,2,3)" none
    ∷ vectors 1 1 "()" none
    ∷ vectors 1 2 "(1,)" none
    -- parted by blanks, and nothing beside the brackets
    ∷ vectors 2 2 "(1,2)(1,2)" none
    ∷ vectors 1 2 "(1,2)x" none
    ∷ vectors 1 2 "x(1,2)" none
    ∷ vectors 1 2 "((1,2)" none
    ∷ vectors 1 2 "(1,2))" none
    ∷ vectors 1 2 "(1,2" none
    ∷ vectors 1 2 "1,2)" none
    ∷ vectors 1 2 "(1 2)" none
    ∷ vectors 1 2 "(nan(1),2)" none
    ∷ vectors 1 2 "[1,2]" none
    -- none only for an axis
    ∷ vectors 1 2 "none" none
    ∷ directions 1 2 "nonenone" none
    ∷ directions 1 2 "(none,1)" none
    ∷ []

-- ---- spaces, and the text that is written

abbrev pub named : String → Option ℕ → Trial
named t i = trial (Option ℕ) (space_named (bytes t)) i

abbrev pub written : List ℕ → String → Trial
written t s = trial (List ℕ) t (bytes s)

abbrev pub space_trials : List Trial
space_trials =
    named "right-anterior-superior" (some 0)
    ∷ named "RAS" (some 0)
    ∷ named "last" (some 4)
    ∷ named "Scanner-XYZ" (some 6)
    ∷ named "3D-left-handed-time" (some 11)
    ∷ named "scanner" none
    ∷ named "3DRH" none
    ∷ named "RAS x" none
    ∷ named "" none
    ∷ trial (List ℕ) (map space_axes spaces) (3 ∷ 3 ∷ 3 ∷ 4 ∷ 4 ∷ 4 ∷ 3 ∷ 4 ∷ 3 ∷ 3 ∷ 4 ∷ 4 ∷ [])
    ∷ written (space_text 8) "3D-right-handed"
    ∷ written (component_text (num (negsuc 149) (negsuc 1))) "-150e-2"
    ∷ written (component_text (whole 0 5)) "0e5"
    ∷ written (vector_text (whole 12 0 ∷ marked nan ∷ marked inf ∷ marked minus_inf ∷ [])) "(12e0,nan,inf,-inf)"
    ∷ written (directions_text (without ∷ along one_two ∷ along one_two ∷ [])) "none (1e0,2e0) (1e0,2e0)"
    ∷ []

-- a header with all but a space's name, and one with its name
abbrev pub whole_headers : List Trial
whole_headers =
    trial (List ℕ)
    (oriented_bytes 5 (2 ∷ 3 ∷ []) 3 0 1 (orientation none (some 2) (some one_two) (some (without ∷ along one_two ∷ [])) (some (one_two ∷ wholes (3 ∷ 4 ∷ []) ∷ []))))
    (texts
    ("NRRD0005"
    ∷ "type: uint16"
    ∷ "dimension: 2"
    ∷ "sizes: 2 3"
    ∷ "encoding: raw"
    ∷ "endian: big"
    ∷ "space dimension: 2"
    ∷ "space origin: (1e0,2e0)"
    ∷ "space directions: none (1e0,2e0)"
    ∷ "measurement frame: (1e0,2e0) (3e0,4e0)"
    ∷ ""
    ∷ []))
    ∷ trial (List ℕ) (oriented_bytes 4 (1 ∷ []) 8 1 0 (orientation (some 2) none none none none))
    (texts ("NRRD0004" ∷ "type: float" ∷ "dimension: 1" ∷ "sizes: 1" ∷ "encoding: txt" ∷ "space: left-posterior-superior" ∷ "" ∷ []))
    ∷ []

-- THE STATEMENT
pub record OrientationTrials : Type 0 where
  pub in_components : Hold components
  pub in_vectors : Hold vector_trials
  pub in_spaces : Hold space_trials
  pub in_headers : Hold whole_headers
