-- A header that craneholt_write_header wrote is read back with its orientation: `HeadersAreRead` of specs/Callers.antt.
-- Assumes nothing.
use Rattle.std.specs.Prelude.{if◌then◌else◌}
use mathlib.Core.Path.{◌≡◌, sym, ap, subst, ◌∙◌}
use Prim.Native.Nat.{ℕ}
use native.Mathlib.Omega.{arith}
use mathlib.Core.Bool.{Bool, true, false}
use mathlib.Core.List.{List, [], ◌++◌, append-nil, flat_map}
use mathlib.Core.Option.{none}
use lib.Dec.{eqb}
use lib.ListN.{length, take, drop, replicate}
use lib.Seq.{take-append_seam, drop-append_seam}
use Rattle.format.specs.declared.Decimal.{Decimal}
use Rattle.format.specs.declared.ReadAnswer.{ReadAnswer}
use Rattle.format.specs.declared.WriteAnswer.{WriteAnswer}
use Rattle.format.specs.Bytes.{is_empty, over}
use Rattle.format.specs.Refusals.{bad_descriptor, refusal}
use Rattle.format.specs.Lines.{lines}
use Rattle.format.specs.Vectors.{Direction}
use Rattle.format.specs.Columns.{column, matrix}
use Rattle.format.specs.Descriptors.{space_size_of}
use Rattle.format.specs.Header.{accepted, header}
use Rattle.format.specs.Calls.{read_answer, reading_of, read_header_call}
use Rattle.format.specs.Boundary.{word_bytes, numbers_of, decimals_lent}
use Rattle.format.specs.Orientation.{directions_of, origin_call, direction_call, frame_call, listed, origin_listed, direction_decimals, directions_listed, frame_listed}
use Rattle.format.specs.HeaderWriter.{Orientation, orientation, orientation_of, shape_fine, oriented_bytes, header_refused, write_header}
use Rattle.format.specs.EntryPoints.{no_shape, shape_lent, columns_lent, orientation_width, write_header_entry}
use Rattle.theorem_headers.specs.HeadersBack.{size_given, Accepted, ReadsBack}
use Rattle.theorem_headers.proofs.HeadersBack.{headers_back}
use Rattle.theorem_callers.specs.Callers.{NotRefused, orientation_lent, HeaderReadBack, HeadersAreRead}

module _ (version : ℕ) (sizes : List ℕ) (t e endian : ℕ) (out : List ℕ) where
  abbrev ns : List ℕ
  ns = numbers_of word_bytes sizes

  abbrev Back : Orientation → WriteAnswer × List ℕ → Type 0
  Back o a = NotRefused a.0.refusal → HeaderReadBack version sizes t e endian o out a.0.length a.1

  -- ---- where the call on numbers accepts
  module _ (shaped : Bool) (o : Orientation) (a : Accepted version ns t e endian shaped o out) where
    abbrev text : List ℕ
    text = oriented_bytes version ns t e endian o

    rb : ReadsBack version ns t e endian o []
    rb = a.back [] (rw (append-nil text) (omega (arith, a.short)))

    -- the text is at the front of the buffer, and nothing is after it
    front : take (length text) (over text out) ≡ text ++ []
    front = take-append_seam text (drop (length text) out) ∙ sym (append-nil text)

    is : header (take (length text) (over text out)) ≡ accepted rb.entries rb.fields (lines [])
    is = ap header front ∙ rb.header_is

    -- the space's dimension, from the reading
    size_is : space_size_of rb.fields ≡ size_given o
    unfolding reading_of
    size_is = ap (λ (x : ReadAnswer). x.reading.spacedimension) (sym (ap read_answer rb.header_is) ∙ rb.reading)

    header_back : HeaderReadBack version sizes t e endian o out (length text) (over text out)
    header_back =
        record {
          fits = a.acceptable.enough;
          past = drop-append_seam text (drop (length text) out);
          reading = ap read_header_call front ∙ rb.reading;
          origin = ap origin_call front ∙ rb.origin;
          direction = λ axis l. ap (λ (f : List ℕ). direction_call f axis) front ∙ rb.direction axis l;
          frame = ap frame_call front ∙ rb.frame;
          origin_listed = λ list. ap (origin_listed list) is ∙ ap (λ (ds : List Decimal). listed ds list) rb.origin_is;
          directions_listed = λ list.
              ap (directions_listed list) is
              ∙ ap (λ (n : ℕ). listed (flat_map (direction_decimals n) (directions_of rb.fields)) list) size_is
              ∙ ap (λ (ds : List Direction). listed (flat_map (direction_decimals (size_given o)) ds) list) rb.directions_are;
          frame_listed = λ list. ap (frame_listed list) is ∙ ap (λ (cs : List (List Decimal)). listed (flat_map (λ c. c) cs) list) rb.frame_is;
        }

  -- ---- the call on numbers, then the entry point by how many bytes are lent

  call_back : (shaped : Bool) (o : Orientation) → Back o (write_header version ns t e endian shaped o out)
  call_back shaped o h =
      let a = headers_back.holds version ns t e endian shaped o out h in
      subst (λ (w : WriteAnswer × List ℕ). HeaderReadBack version sizes t e endian o out w.0.length w.1) (sym a.written) (header_back shaped o a)

  entry_back : (given : List ℕ) → Back (orientation_lent given) (write_header_entry version sizes t e endian given out)
  unfolding write_header_entry
  entry_back given = by (is_empty given) (eqb (length given) orientation_width)
    where
      lent : Orientation
      lent = orientation_of (shape_lent given) (decimals_lent (take 128 (drop 32 given))) (columns_lent 16 (drop 160 given)) (columns_lent 8 (drop 2208 given))

      by : (b c : Bool)
          → Back (if b then orientation none none none none none else lent)
          (if b then write_header version ns t e endian (shape_fine no_shape) (orientation_of no_shape (column []) (replicate 16 (column [])) (matrix [])) out
          else if c then write_header version ns t e endian (shape_fine (shape_lent given)) lent out
          else header_refused (refusal bad_descriptor) out)
      by true c = call_back (shape_fine no_shape) (orientation none none none none none)
      by false true = call_back (shape_fine (shape_lent given)) lent
      by false false = λ h. absurd (let g : ⊥ = omega (arith, h) in g)

pub headers : HeadersAreRead
headers version sizes t e endian given out = entry_back version sizes t e endian out given
