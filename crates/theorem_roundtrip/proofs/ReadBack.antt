-- What is written is read back: the statement of specs/RoundTrip.antt.
-- Assumes nothing.
use Rattle.std.specs.Prelude.{if◌then◌else◌}
use mathlib.Core.Path.{◌≡◌, refl, sym, ap, ◌∙◌}
use Prim.Native.Nat.{ℕ, ◌+◌, ◌-◌, ◌^◌, ◌≤◌}
use native.Mathlib.Omega.{arith}
use mathlib.Core.Bool.{Bool, true, false, ◌&&◌, and-false}
use mathlib.Core.List.{List, ◌++◌}
use lib.Dec.{eqb, ltb}
use lib.IntN.{ℤ}
use lib.ListN.{length, length-append, length-map}
use lib.Seq.{drop-append_seam, take-length}
use borrow.Author.Tests.{le-ltb, lt-leb}
use Rattle.format.specs.Limits.{max_file, max_extent}
use Rattle.format.specs.Refusals.{data_too_short}
use Rattle.format.specs.Lines.{Line, lines, unlines}
use Rattle.format.specs.Fields.{Given}
use Rattle.format.specs.Descriptors.{raw, number_kind, is_floating, sample_bytes, endian_needed, no_endian, extent, extent_of}
use Rattle.format.specs.Header.{Entry, line_of, accepted, header, header_length, before_names, field_lines}
use Rattle.format.specs.Data.{Place, nowhere, part, skip_lines, skip_bytes, place_of, part_of}
use Rattle.format.specs.Samples.{Decoded, samples_of}
use Rattle.format.specs.Calls.{reading_of, count_of, decoded, check_samples_call, seen_in}
use Rattle.format.specs.Writer.{header_lines, file_bytes, data_bytes, header_bytes}
use Rattle.format.proofs.Writer.{data_read_back}
use Rattle.theorem_roundtrip.specs.RoundTrip.{count_back, ReadsBack, RoundTrips}
use Rattle.theorem_roundtrip.proofs.Names.{sample_bytes_lem}
use Rattle.theorem_roundtrip.proofs.Accepted.{Accepted, accepted_is}
use Rattle.theorem_roundtrip.proofs.Data.{data_length, data_any_order}
use Rattle.theorem_roundtrip.proofs.Written.{entries_of, fields_of, lines_of_entries, Means, means, header_written}

-- ---- the place of the data s after the header's bytes b, by fields that mean what was given

place_after : (gs : List Given) (x : Bool) (ns : List ℕ) (t e n : ℕ) → Means gs x ns t e n → (b s : List ℕ)
    → length (b ++ s) ≤ max_file → extent ns t ≤ max_extent → is_floating (number_kind t) ≡ false → (eqb e raw ≡ true → length s ≡ extent ns t)
    → (wanted : Bool) (second : List ℕ) → place_of wanted gs (length b) (b ++ s) second ≡ part false (length b) (length s)
unfolding place_of skip_lines skip_bytes
place_after gs x ns t e n m b s small fits integers full wanted second =
    let start : length (b ++ s) - length s ≡ length b = rw length-append (omega arith) in
    let below : length b ≤ max_file = omega (arith, length-append b s) in
    let whole : extent_of gs ≡ extent ns t = rw (m.sizes_are, m.type_is) in
    rw (m.one_file, m.attached, m.type_is, integers, and-false wanted, drop-append_seam b s, m.no_line_skip, m.no_byte_skip, le-ltb (length s) 0 (omega arith), start, whole, lt-leb (2 ^ 64) (length b + extent ns t) (omega arith), m.encoding_is)
    (go (eqb e raw) full)
  where
    go : (y : Bool) → (y ≡ true → length s ≡ extent ns t)
        → (if y && ltb (length s) (extent ns t) then nowhere data_too_short else part false (length b) (if y then extent ns t else length s))
        ≡ part false (length b) (length s)
    go true f = rw (f refl, le-ltb (extent ns t) (extent ns t) (omega arith))
    go false f = refl

-- ---- what is read from a file that the writer accepts; the names are those of Written.antt

module _ (version : ℕ) (ns : List ℕ) (t e n : ℕ) (zs : List ℤ) (a : Accepted version ns t e n zs) (x : Bool) (h : endian_needed t e ≡ x) where
  abbrev file : List ℕ
  file = file_bytes version ns t e n zs

  abbrev head : List ℕ
  head = header_bytes version ns t e n

  abbrev body : List ℕ
  body = data_bytes e (sample_bytes t) n zs

  abbrev es : List Entry
  es = entries_of x version ns t e n

  abbrev gs : List Given
  gs = fields_of x ns t e n

  fields_mean : Means gs x ns t e n
  fields_mean = means version ns t e n zs a x

  header_is : header file ≡ accepted es gs (lines body)
  header_is = header_written version ns t e n zs a x h

  -- the bytes and the lines of the header
  head_length : header_length es ≡ length head
  head_length = ap (λ (ls : List Line). length (unlines ls)) (lines_of_entries x version ns t e n h)

  head_lines : length es ≡ length (header_lines version ns t e n)
  head_lines = sym (length-map es line_of) ∙ ap (λ (ls : List Line). length ls) (lines_of_entries x version ns t e n h)

  -- no line is a name under LIST
  head_before : field_lines es ≡ length es
  unfolding before_names
  head_before = go x
    where
      go : (y : Bool) → field_lines (entries_of y version ns t e n) ≡ length (entries_of y version ns t e n)
      go true = refl
      go false = refl

  -- the place of the data, and the bytes there
  place_is : (wanted : Bool) (second : List ℕ) → place_of wanted gs (header_length es) file second ≡ part false (length head) (length body)
  unfolding file_bytes
  place_is wanted second =
      let full : eqb e raw ≡ true → length body ≡ extent ns t = λ q. data_length e (sample_bytes t) n zs q ∙ rw a.count in
      rw head_length
      (place_after gs x ns t e n fields_mean head body a.file_small a.extent_small a.integers full wanted second)

  part_is : (second : List ℕ) → part_of (part false (length head) (length body)) file second ≡ body
  unfolding file_bytes
  part_is second = rw (drop-append_seam head body) (take-length body)

  -- the samples
  count_is : count_of gs ≡ length zs
  count_is = rw fields_mean.sizes_are (sym a.count)

  decoded_is : decoded gs body ≡ record { number = 0; seen = zs }
  decoded_is = rw (fields_mean.encoding_is, fields_mean.type_is, fields_mean.endian_is, count_is) (go x h)
    where
      w : 1 ≤ sample_bytes t
      w = sample_bytes_lem t a.numbers.type_in

      back : (m : ℕ) → samples_of e (number_kind t) (sample_bytes t) m (length zs) (data_bytes e (sample_bytes t) m zs) ≡ record { number = 0; seen = zs }
      back m = data_read_back e (number_kind t) (sample_bytes t) m zs w a.in_type

      go : (y : Bool) → endian_needed t e ≡ y
          → samples_of e (number_kind t) (sample_bytes t) (if y then n else no_endian) (length zs) body ≡ record { number = 0; seen = zs }
      go true q = back n
      go false q = rw (data_any_order e (sample_bytes t) n no_endian zs a.numbers.encoding_in w q) (back no_endian)

  check_is : (second : List ℕ) (room : ℕ) → length zs ≤ room → check_samples_call file second room ≡ count_back zs
  check_is second room l =
      let fits : count_of gs ≤ room = rw count_is l in
      rw (header_is, place_is true second, le-ltb room (count_of gs) fits, part_is second, decoded_is, count_is)

  seen_is : (second : List ℕ) → seen_in file second (header file) ≡ zs
  seen_is second =
      rw header_is
      (ap (λ (p : Place). (decoded gs (part_of p file second)).seen) (place_is true second)
      ∙ ap (λ (s : List ℕ). (decoded gs s).seen) (part_is second)
      ∙ ap (λ (d : Decoded). d.seen) decoded_is)

  reads_back : ReadsBack version ns t e n zs
  unfolding reading_of
  reads_back =
      let m = fields_mean in
      record {
        reading = rw (header_is, m.attached, m.dimension_is, m.type_is, m.encoding_is, m.endian_is, m.sizes_are, m.no_line_skip, m.no_byte_skip, m.no_origin, m.no_directions, m.no_frame, m.no_size, m.no_space, m.one_file, head_length, head_before, head_lines, h);
        place = λ second. rw (header_is, place_is false second);
        part = λ second. rw (header_is, place_is false second) (part_is second);
        samples = λ second list l. rw (check_is second (length list) l, seen_is second);
      }

-- whatever the writer accepts is read back
pub round_trips : RoundTrips
round_trips version sizes t e endian zs room h =
    reads_back version sizes t e endian zs (accepted_is version sizes t e endian zs room h).0 (endian_needed t e) refl
