-- Internal to this crate. A call and a header by their orientation.
use Rattle.std.specs.Prelude.{ℕ, List, take, drop}
use Rattle.format.specs.declared.WriteAnswer.{WriteAnswer}
use Rattle.format.specs.Boundary.{decimals_lent}
use Rattle.format.specs.EntryPoints.{shape_lent, columns_lent}
use Rattle.format.specs.HeaderWriter.{has, orientation_of, oriented_bytes, write_header_call}
use Rattle.write_checks.specs.declared.asked.Asked.{Asked}
use Rattle.write_checks.specs.Checked.{on_asked, on_array}
use Rattle.write_header.specs.declared.checks.Given.{Given}
use Rattle.write_header.specs.declared.checks.Header.{Header}
use Rattle.write_header.specs.Stored.{space_line, size_line, origin_line, directions_line, frame_line, lines_text}

-- the whole answer of a call
abbrev pub given_call : Asked → Given → List ℕ → WriteAnswer × List ℕ
given_call asked given out = on_asked write_header_call asked given.shape given.origin given.directions given.frame out

-- the lines of the orientation, where they are given
abbrev pub space_of : Given → List ℕ
space_of g = space_line (has g.shape.given 1) g.shape.space

abbrev pub size_of : Given → List ℕ
size_of g = size_line (has g.shape.given 2) g.shape.spacedimension

abbrev pub origin_of : Given → List ℕ
origin_of g = origin_line (has g.shape.given 4) g.shape.components g.origin

abbrev pub directions_of : Given → List ℕ
directions_of g = directions_line (has g.shape.given 8) g.shape.components g.shape.axes g.directions

abbrev pub frame_of : Given → List ℕ
frame_of g = frame_line (has g.shape.given 16) g.shape.components g.shape.columns g.frame

abbrev pub lines_of : Given → List ℕ
lines_of g = lines_text g.shape g.origin g.directions g.frame

-- the whole text
abbrev pub text_of : Header → List ℕ
text_of h = on_array oriented_bytes h.array (orientation_of h.given.now.shape h.given.now.origin h.given.now.directions h.given.now.frame)

-- an orientation in lent bytes
abbrev pub given_lent : List ℕ → Given
given_lent s = record { shape = shape_lent s; origin = decimals_lent (take 128 (drop 32 s)); directions = columns_lent 16 (drop 160 s); frame = columns_lent 8 (drop 2208 s) }
