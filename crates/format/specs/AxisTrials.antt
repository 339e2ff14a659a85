-- Trials of strings, of the words of centers and kinds, and of axis records (W6; format, section 6) by computation, as one list under one statement: `AxisTrials`.
use Rattle.std.specs.Prelude.{ℕ, List, [], ◌∷◌, map, replicate}
use Prim.Native.String.{String}
use Rattle.std.proofs.Math.Option.{Option, none, some}
use Rattle.format.specs.declared.Refusal.{Refusal}
use Rattle.format.specs.declared.Axis.{Axis}
use Rattle.format.specs.declared.CountAnswer.{CountAnswer}
use Rattle.format.specs.declared.FindAnswer.{FindAnswer}
use Rattle.format.specs.Bytes.{bytes}
use Rattle.format.specs.Refusals.{at_line, refusal, fine}
use Rattle.format.specs.Lines.{line, lf}
use Rattle.format.specs.Fields.{Given, given, dimension, labels, units}
use Rattle.format.specs.Kinds.{centrings_said, kinds_said}
use Rattle.format.specs.Strings.{Quoted, quoted, strings_said}
use Rattle.format.specs.Header.{Entry, entry, magic, field, accepted}
use Rattle.format.specs.Calls.{found_at, no_samples, find_field_call}
use Rattle.format.specs.AxisRecords.{string_place_of, axes_in, axes_call, axes_entry}
use Rattle.format.specs.Trials.{Trial, trial, Hold, texts, file_s}
use Rattle.format.specs.AcceptanceTrials.{with_lines}
use Rattle.format.specs.ListTrials.{grid, refuses}

-- ---- strings

-- n strings are there, each after so many bytes; or these are not n strings
abbrev pub says : ℕ → String → List (ℕ × String) → Trial
says n t qs = trial (Option (List Quoted)) (strings_said n (bytes t)) (some (map (λ q. quoted q.0 (bytes q.1)) qs))

abbrev pub says_none : ℕ → String → Trial
says_none n t = trial (Option (List Quoted)) (strings_said n (bytes t)) none

abbrev pub string_trials : List Trial
string_trials =
    -- section 6: labels of three axes, an escaped quote, and an axis without a label
    says 3 "\"X\" \"Y\" \"Z\"" ((1, "X") ∷ (5, "Y") ∷ (9, "Z") ∷ [])
    ∷ says 1 "\"a\\\"b\"" ((1, "a\\\"b") ∷ [])
    ∷ says 1 "\"\\\"\"" ((1, "\\\"") ∷ [])
    ∷ says 1 "\"\"" ((1, "") ∷ [])
    ∷ says 2 "\"\" \"\"" ((1, "") ∷ (4, "") ∷ [])
    -- blanks between strings, and inside of one; a backslash before another byte is a byte of the text
    ∷ says 2 "\"a\" \t \"b\"" ((1, "a") ∷ (7, "b") ∷ [])
    ∷ says 1 "\"a b\"" ((1, "a b") ∷ [])
    ∷ says 1 "\"a\\n\"" ((1, "a\\n") ∷ [])
    -- a quote that stays open; right after a backslash it is inside, also after two of them
    ∷ says_none 1 "\"a"
    ∷ says_none 1 "\""
    ∷ says_none 1 "\"a\\\""
    ∷ says_none 1 "\"a\\\\\""
    ∷ says 1 "\"a\\\\\"\"" ((1, "a\\\\\"") ∷ [])
    -- no blank between, or something beside a string
    ∷ says_none 2 "\"a\"\"b\""
    ∷ says_none 1 "\"a\"x"
    ∷ says_none 1 "x\"a\""
    ∷ says_none 2 "\"a\", \"b\""
    ∷ says_none 1 "a"
    ∷ says_none 1 "\\\"a\""
    -- too few, and too many
    ∷ says_none 1 ""
    ∷ says_none 2 "\"a\""
    ∷ says_none 1 "\"a\" \"b\""
    ∷ []

-- ---- words

abbrev pub centred : ℕ → String → Option (List ℕ) → Trial
centred n t ns = trial (Option (List ℕ)) (centrings_said n (bytes t)) ns

abbrev pub of_kind : ℕ → String → Option (List ℕ) → Trial
of_kind n t ns = trial (Option (List ℕ)) (kinds_said n (bytes t)) ns

abbrev pub word_trials : List Trial
word_trials =
    centred 3 "cell node ???" (some (1 ∷ 2 ∷ 0 ∷ []))
    ∷ centred 2 "NODE \t Cell" (some (2 ∷ 1 ∷ []))
    ∷ centred 1 "none" none
    ∷ centred 1 "cells" none
    ∷ centred 2 "cell" none
    ∷ centred 1 "cell node" none
    ∷ centred 1 "" none
    -- kinds by the order of section 6
    ∷ of_kind 8 "domain space time list point vector covariant-vector normal" (some (1 ∷ 2 ∷ 3 ∷ 4 ∷ 5 ∷ 6 ∷ 7 ∷ 8 ∷ []))
    ∷ of_kind 8 "stub scalar complex 2-vector 3-color RGB-color HSV-color XYZ-color" (some (9 ∷ 10 ∷ 11 ∷ 12 ∷ 13 ∷ 14 ∷ 15 ∷ 16 ∷ []))
    ∷ of_kind 7 "4-color RGBA-color 3-vector 3-gradient 3-normal 4-vector quaternion" (some (17 ∷ 18 ∷ 19 ∷ 20 ∷ 21 ∷ 22 ∷ 23 ∷ []))
    ∷ of_kind 4 "2D-symmetric-matrix 2D-masked-symmetric-matrix 2D-matrix 2D-masked-matrix" (some (24 ∷ 25 ∷ 26 ∷ 27 ∷ []))
    ∷ of_kind 4 "3D-symmetric-matrix 3D-masked-symmetric-matrix 3D-matrix 3D-masked-matrix" (some (28 ∷ 29 ∷ 30 ∷ 31 ∷ []))
    ∷ of_kind 4 "??? none None rgb-COLOR" (some (0 ∷ 0 ∷ 0 ∷ 14 ∷ []))
    ∷ of_kind 1 "color" none
    ∷ of_kind 2 "space" none
    ∷ of_kind 1 "space space" none
    ∷ []

-- ---- headers with these fields: of two axes in the seventh line, or of one in the sixth

abbrev pub header_trials : List Trial
header_trials =
    refuses ("centers: cell none" ∷ "" ∷ []) (at_line 11 7)
    ∷ refuses ("kinds: none ???" ∷ "labels: \"a\"\"b\"" ∷ "" ∷ []) (at_line 11 8)
    ∷ refuses ("units: \"a\" \"b" ∷ "" ∷ []) (at_line 11 7)
    ∷ refuses ("units: " ∷ "" ∷ []) (at_line 11 7)
    -- the size that section 6 asks of a kind is not looked at
    ∷ refuses ("kinds: 3-vector stub" ∷ "centerings:   ??? NODE  " ∷ "labels: \"\" \"\"" ∷ "" ∷ []) fine
    -- centers, labels and units in version 1, kinds not before 3, a field once in either spelling
    ∷ trial Refusal (with_lines 1 ("centers: cell" ∷ "labels: \"x\"" ∷ "units: \"m\"" ∷ [])) fine
    ∷ trial Refusal (with_lines 2 ("kinds: space" ∷ [])) (at_line 8 6)
    ∷ trial Refusal (with_lines 3 ("centers: cell" ∷ "centerings: cell" ∷ [])) (at_line 9 7)
    ∷ []

-- ---- records

abbrev pub axis : ℕ → ℕ → ℕ → ℕ → ℕ → ℕ → ℕ → Axis
axis size centring kind lp ll up ul = record { size = size; centring = centring; kind = kind; labelplace = lp; labellength = ll; unitplace = up; unitlength = ul }

-- all four fields, the units after two spaces
abbrev pub axes_file : List ℕ
axes_file =
    texts
    ("NRRD0004"
    ∷ "type: uint8"
    ∷ "dimension: 2"
    ∷ "sizes: 4 3"
    ∷ "encoding: raw"
    ∷ "centers: cell node"
    ∷ "kinds: space time"
    ∷ "labels: \"x\" \"row \\\"b\\\"\""
    ∷ "units:  \"mm\" \"\""
    ∷ ""
    ∷ [])

-- the second label is not closed, and the records of the lent list are too few
abbrev pub bad_axes : List ℕ
bad_axes = grid "NRRD0004" ("labels: \"x\" \"y" ∷ "" ∷ [])

-- a record that was lent
abbrev pub old : Axis
old = axis 9 9 9 9 9 9 9

abbrev pub Handed : Type 0
Handed = CountAnswer × List Axis

abbrev pub counted : ℕ → CountAnswer
counted n = record { refusal = fine; count = n }

abbrev pub record_trials : List Trial
record_trials =
    -- places are counted from the start of the file; the empty unit has the one after its opening quote; the record past the dimension stays
    trial Handed (axes_call axes_file (old ∷ old ∷ old ∷ [])) (counted 2, axis 4 1 2 105 1 129 2 ∷ axis 3 2 3 109 9 134 0 ∷ old ∷ [])
    -- a list that is too short; after the reading
    ∷ trial Handed (axes_call axes_file (old ∷ [])) (no_samples (refusal 22), old ∷ [])
    ∷ trial Handed (axes_call bad_axes []) (no_samples (at_line 11 7), [])
    -- S has none of the fields
    ∷ trial Handed (axes_call file_s (old ∷ old ∷ [])) (counted 2, axis 2 0 0 0 0 0 0 ∷ axis 2 0 0 0 0 0 0 ∷ [])
    -- the descriptors themselves, quotes included
    ∷ trial FindAnswer (find_field_call axes_file labels) (found_at 104 15)
    ∷ trial FindAnswer (find_field_call axes_file units) (found_at 128 7)
    -- in bytes, the low one first; a rest too short for a record stays
    ∷ trial (CountAnswer × List ℕ) (axes_entry axes_file (replicate 66 7))
    (counted 2, 4 ∷ 0 ∷ 0 ∷ 0 ∷ 0 ∷ 0 ∷ 0 ∷ 0 ∷ 1 ∷ 0 ∷ 0 ∷ 0 ∷ 2 ∷ 0 ∷ 0 ∷ 0 ∷ 105 ∷ 0 ∷ 0 ∷ 0 ∷ 1 ∷ 0 ∷ 0 ∷ 0 ∷ 129 ∷ 0 ∷ 0 ∷ 0 ∷ 2 ∷ 0 ∷ 0 ∷ 0 ∷ 3 ∷ 0 ∷ 0 ∷ 0 ∷ 0 ∷ 0 ∷ 0 ∷ 0 ∷ 2 ∷ 0 ∷ 0 ∷ 0 ∷ 3 ∷ 0 ∷ 0 ∷ 0 ∷ 109 ∷ 0 ∷ 0 ∷ 0 ∷ 9 ∷ 0 ∷ 0 ∷ 0 ∷ 134 ∷ 0 ∷ 0 ∷ 0 ∷ 0 ∷ 0 ∷ 0 ∷ 0 ∷ 7 ∷ 7 ∷ [])
    ∷ trial (CountAnswer × List ℕ) (axes_entry axes_file (replicate 63 7)) (no_samples (refusal 22), replicate 63 7)
    ∷ []

-- ---- places in a header of two lines, of which the second starts at 9

abbrev pub two_lines : List Entry
two_lines = entry (line (bytes "NRRD0004") lf) (magic 4) ∷ entry (line (bytes "labels: \"x\" \"yz\"") lf) (field labels (bytes "\"x\" \"yz\"")) ∷ []

abbrev pub two_labels : List Given
two_labels = given labels (bytes "\"x\" \"yz\"") ∷ given dimension (bytes "2") ∷ []

abbrev pub place_trials : List Trial
place_trials =
    trial (ℕ × ℕ) (string_place_of labels two_lines two_labels 0) (18, 1)
    ∷ trial (ℕ × ℕ) (string_place_of labels two_lines two_labels 1) (22, 2)
    ∷ trial (ℕ × ℕ) (string_place_of labels two_lines two_labels 2) (0, 0)
    ∷ trial (ℕ × ℕ) (string_place_of units two_lines two_labels 0) (0, 0)
    ∷ trial Handed (axes_in (old ∷ []) (accepted two_lines two_labels [])) (no_samples (refusal 22), old ∷ [])
    ∷ []

-- ---- all of them

pub record AxisTrials : Type 0 where
  pub in_strings : Hold string_trials
  pub in_words : Hold word_trials
  pub in_headers : Hold header_trials
  pub in_places : Hold place_trials
  pub in_records : Hold record_trials
