-- The written header is accepted, and its fields mean what was given: `header_written`, `means`.
-- Here ns are the sizes, t, e and n the numbers of type, encoding and endian; x says whether the endian is needed.
-- Assumes nothing.
use Rattle.std.specs.Prelude.{if◌then◌else◌}
use mathlib.Core.Path.{◌≡◌, refl, sym, ap, ◌∙◌}
use Prim.Native.Nat.{ℕ, ◌≤◌}
use Prim.Native.String.{String}
use native.Mathlib.Omega.{arith}
use mathlib.Core.Bool.{Bool, true, false}
use mathlib.Core.List.{List, [], ◌∷◌, ◌++◌, map}
use mathlib.Core.Option.{some}
use lib.Dec.{eqb}
use lib.IntN.{ℤ}
use lib.ListN.{length, length-append, length-map}
use borrow.Author.Tests.{le-ltb, eq-eqb, le-leb}
use Rattle.format.specs.Bytes.{bytes, every, is_any, alike, row_from}
use Rattle.format.specs.Limits.{max_lines, max_axes}
use Rattle.format.specs.Lines.{Line, line, lf, lines, unlines}
use Rattle.format.specs.Pairs.{plain, mark}
use Rattle.format.specs.Fields.{Given, given, descriptor_of, is_given, is_repeated, in_order, field_at, field_since, is_understood, dimension, type, encoding, endian, sizes, line_skip, byte_skip, data_file, space, space_dimension, space_origin, space_directions, measurement_frame}
use Rattle.format.specs.Words.{number_in, value_of_number, words}
use Rattle.format.specs.Descriptors.{forward, end_is_raw, descriptor, since, sizes_fine, may_describe, has_needed, types, type_at, type_name, type_names, encodings, endians, endian_needed, no_endian, dimension_of, type_of, encoding_of, endian_of, sizes_of, line_skip_of, byte_skip_of, no_space, space_of, space_size_of, is_detached, sample_bytes, names_follow, list_empty, file_count_of, files_fine}
use Rattle.format.specs.Header.{field, closing, magic, Entry, entry, lines_of, right, on_field, judge, accepted, header, header_length}
use Rattle.format.specs.Writer.{decimal, spaced, name_at, field_line, header_lines, file_bytes, data_bytes}
use Rattle.format.proofs.Lines.{Shape, lf_line, no_lf_of, ends_of, shape_of_lines, lines_of_parts}
use Rattle.format.proofs.Judged.{judge_by_text, keeps_judge}
use Rattle.format.proofs.Header.{Complete, Fine, header_fine}
use Rattle.format.proofs.Writer.{number_of_decimal}
use Rattle.theorem_roundtrip.proofs.Names.{Text, Named, type_named, encoding_named, endian_named, version_of_magic}
use Rattle.theorem_roundtrip.proofs.Numbers.{Sizes, decimal_plain, decimal_short, decimal_text, spaced_text, words_of_spaced, values_of_decimals, sizes_in, sizes_short}
use Rattle.theorem_roundtrip.proofs.Accepted.{Accepted}

-- ---- the entries of a written header, and its fields, the last one first

abbrev field_entry : String → ℕ → List ℕ → Entry
field_entry name f d = entry (field_line name d) (field f d)

-- the endian's line where it is needed, and the closing one
abbrev last_entries : Bool → ℕ → List Entry
last_entries x n =
    if x then field_entry "endian" endian (name_at endians n) ∷ entry (line [] lf) closing ∷ []
    else entry (line [] lf) closing ∷ []

-- the lines after line 1
abbrev rest_entries : Bool → List ℕ → ℕ → ℕ → ℕ → List Entry
rest_entries x ns t e n =
    field_entry "type" type (bytes (type_name (type_at t)))
    ∷ field_entry "dimension" dimension (decimal (length ns))
    ∷ field_entry "sizes" sizes (spaced ns)
    ∷ field_entry "encoding" encoding (name_at encodings e)
    ∷ last_entries x n

abbrev pub first_line : ℕ → Line
first_line version = line (bytes "NRRD000" ++ decimal version) lf

abbrev pub entries_of : Bool → ℕ → List ℕ → ℕ → ℕ → ℕ → List Entry
entries_of x version ns t e n = entry (first_line version) (magic version) ∷ rest_entries x ns t e n

abbrev pub first_fields : List ℕ → ℕ → ℕ → List Given
first_fields ns t e =
    given encoding (name_at encodings e)
    ∷ given sizes (spaced ns)
    ∷ given dimension (decimal (length ns))
    ∷ given type (bytes (type_name (type_at t)))
    ∷ []

abbrev with_endian : Bool → ℕ → List Given → List Given
with_endian x n gs = if x then given endian (name_at endians n) ∷ gs else gs

abbrev pub fields_of : Bool → List ℕ → ℕ → ℕ → ℕ → List Given
fields_of x ns t e n = with_endian x n (first_fields ns t e)

-- the lines of the entries are those of the header
pub lines_of_entries : (x : Bool) (version : ℕ) (ns : List ℕ) (t e n : ℕ) → endian_needed t e ≡ x
    → lines_of (entries_of x version ns t e n) ≡ header_lines version ns t e n
unfolding header_lines
lines_of_entries true version ns t e n h = rw h
lines_of_entries false version ns t e n h = rw h

-- ---- what the fields mean

-- endian is the only field that its line gives
other_field : (x : Bool) (n : ℕ) (gs : List Given) (f : ℕ) → eqb f endian ≡ false → descriptor_of f (with_endian x n gs) ≡ descriptor_of f gs
unfolding descriptor_of
other_field true n gs f h = rw h
other_field false n gs f h = refl

pub record Means (gs : List Given) (x : Bool) (ns : List ℕ) (t e n : ℕ) : Type 0 where
  pub dimension_is : dimension_of gs ≡ length ns
  pub type_is : type_of gs ≡ t
  pub encoding_is : encoding_of gs ≡ e
  pub endian_is : endian_of gs ≡ (if x then n else no_endian)
  pub sizes_are : sizes_of gs ≡ ns
  pub no_line_skip : line_skip_of gs ≡ 0
  pub no_byte_skip : byte_skip_of gs ≡ forward 0
  pub attached : is_detached gs ≡ false
  pub one_file : file_count_of gs ≡ 1
  pub no_origin : is_given space_origin gs ≡ false
  pub no_directions : is_given space_directions gs ≡ false
  pub no_frame : is_given measurement_frame gs ≡ false
  pub no_space : space_of gs ≡ no_space
  pub no_size : space_size_of gs ≡ 0

-- ---- one line of a field

-- a line that begins with this name is judged as one of the field f, where no names follow
abbrev pub NameOf : String → ℕ → Type 0
NameOf name f = (version : ℕ) (gs : List Given) (d : List ℕ) → names_follow gs ≡ false → every plain d ≡ true
    → judge version gs (bytes name ++ (bytes ": " ++ d)) ≡ on_field version gs (some f) d

pub record WrittenNames : Type 0 where
  pub of_type : NameOf "type" type
  pub of_dimension : NameOf "dimension" dimension
  pub of_sizes : NameOf "sizes" sizes
  pub of_encoding : NameOf "encoding" encoding
  pub of_endian : NameOf "endian" endian

pub names : WrittenNames
unfolding every alike is_any row_from mark
names =
    record {
      of_type = λ version gs d n h. judge_by_text version gs _ n ∙ rw h;
      of_dimension = λ version gs d n h. judge_by_text version gs _ n ∙ rw h;
      of_sizes = λ version gs d n h. judge_by_text version gs _ n ∙ rw h;
      of_encoding = λ version gs d n h. judge_by_text version gs _ n ∙ rw h;
      of_endian = λ version gs d n h. judge_by_text version gs _ n ∙ rw h;
    }

-- the line of an understood field that every version has, other than data file, that is new and in order, with a descriptor that it may have
field_line_lem : (version : ℕ) (gs : List Given) (name : String) (f : ℕ) (d : List ℕ) → 1 ≤ version → NameOf name f → Text d
    → (is_understood f ≡ true) × (field_since f ≡ 1) × (eqb f data_file ≡ false) × (is_repeated f gs ≡ false) × (in_order f gs ≡ true) × (names_follow gs ≡ false) → may_describe (dimension_of gs) (space_size_of gs) f d ≡ true
    → judge version gs (bytes name ++ (bytes ": " ++ d)) ≡ right (field f d)
unfolding on_field descriptor since
field_line_lem version gs name f d v named text here may =
    named version gs d here.5 text.bytes_plain
    ∙ rw (here.2, here.1, le-ltb version 1 v, here.3, here.4, here.0, text.front, text.back, may)

-- a line of plain bytes, with its LF, before lines that keep the line rule
pub plain_line : {ls : List Line} (s : List ℕ) → every plain s ≡ true → Shape ls → Shape (line s lf ∷ ls)
plain_line s h rest = lf_line (no_lf_of plain refl s h) (ends_of plain refl s h) rest

-- dimension and sizes may have their descriptors
pub dimension_may : (ns : List ℕ) → 1 ≤ length ns → length ns ≤ max_axes → number_in 1 max_axes (decimal (length ns)) ≡ true
dimension_may ns l h = rw (number_of_decimal (length ns), le-leb 1 (length ns) l, le-leb (length ns) max_axes h)

pub sizes_may : (ns : List ℕ) → Sizes ns → sizes_fine (value_of_number (decimal (length ns))) (words (spaced ns)) ≡ true
sizes_may ns s =
    rw (number_of_decimal (length ns), words_of_spaced ns, length-map ns decimal, eq-eqb (length ns) (length ns) refl) (sizes_in ns s)

-- ---- the header of what the writer accepts

module _ (version : ℕ) (ns : List ℕ) (t e n : ℕ) (zs : List ℤ) (a : Accepted version ns t e n zs) where
  of_type_name : Named (map type_names types) (bytes (type_name (type_at t))) t
  of_type_name = type_named t a.numbers.type_in

  of_encoding_name : Named encodings (name_at encodings e) e
  of_encoding_name = encoding_named e a.numbers.encoding_in

  of_endian_name : Named endians (name_at endians n) n
  of_endian_name = endian_named n a.numbers.endian_in

  -- the fields mean what was given
  pub means : (x : Bool) → Means (fields_of x ns t e n) x ns t e n
  unfolding descriptor_of file_count_of
  means x =
      let gs : List Given = first_fields ns t e in
      record {
        dimension_is = rw (other_field x n gs dimension refl, number_of_decimal (length ns));
        type_is = rw (other_field x n gs type refl, of_type_name.row);
        encoding_is = rw (other_field x n gs encoding refl, of_encoding_name.row);
        endian_is = endian_given x;
        sizes_are = rw (other_field x n gs sizes refl, words_of_spaced ns) (values_of_decimals ns);
        no_line_skip = rw (other_field x n gs line_skip refl);
        no_byte_skip = rw (other_field x n gs byte_skip refl);
        attached = rw (other_field x n gs data_file refl);
        one_file = rw (other_field x n gs data_file refl);
        no_origin = rw (other_field x n gs space_origin refl);
        no_directions = rw (other_field x n gs space_directions refl);
        no_frame = rw (other_field x n gs measurement_frame refl);
        no_space = rw (other_field x n gs space refl);
        no_size = rw (other_field x n gs space refl, other_field x n gs space_dimension refl);
      }
    where
      endian_given : (x : Bool) → endian_of (fields_of x ns t e n) ≡ (if x then n else no_endian)
      endian_given true = rw of_endian_name.row
      endian_given false = refl

  -- they are complete
  complete_fields : (x : Bool) → endian_needed t e ≡ x → Complete (fields_of x ns t e n)
  unfolding has_needed end_is_raw descriptor_of names_follow list_empty files_fine
  complete_fields x h =
      record {
        filled = rw (other_field x n (first_fields ns t e) data_file refl);
        needed = go x h;
        fitting = rw (means x).no_byte_skip;
        small = rw ((means x).sizes_are, (means x).type_is) a.extent_small;
        files = rw (other_field x n (first_fields ns t e) data_file refl);
      }
    where
      go : (x : Bool) → endian_needed t e ≡ x → has_needed (fields_of x ns t e n) ≡ true
      go true h = refl
      go false h = rw ((means false).type_is, (means false).encoding_is, h)

  -- each line is judged to be its item
  fine_entries : (x : Bool) → Complete (fields_of x ns t e n) → (r : List Line)
      → Fine version [] (rest_entries x ns t e n) (fields_of x ns t e n) r
  unfolding descriptor_of is_repeated in_order field_at may_describe names_follow
  fine_entries x c r = (
    field_line_lem version _ "type" type _ v names.of_type of_type_name.text (refl, refl, refl, refl, refl, refl) (rw of_type_name.row),
    (
      field_line_lem version _ "dimension" dimension _ v names.of_dimension (decimal_text (length ns)) (refl, refl, refl, refl, refl, refl) (dimension_may ns a.numbers.axes_from a.numbers.axes_to),
      (
        field_line_lem version _ "sizes" sizes _ v names.of_sizes (spaced_text ns) (refl, refl, refl, refl, refl, refl) (sizes_may ns a.sizes_in),
        (
          field_line_lem version _ "encoding" encoding _ v names.of_encoding of_encoding_name.text (refl, refl, refl, refl, refl, refl) (rw of_encoding_name.row),
          last x c,
        ),
      ),
    ),
  )
    where
      v : 1 ≤ version
      v = a.numbers.version_from

      last : (x : Bool) → Complete (fields_of x ns t e n) → Fine version (first_fields ns t e) (last_entries x n) (fields_of x ns t e n) r
      last true c = (
        field_line_lem version _ "endian" endian _ v names.of_endian of_endian_name.text (refl, refl, refl, refl, refl, refl) (rw of_endian_name.row),
        (keeps_judge version (fields_of true ns t e n) [] closing refl, (refl, c, refl)),
      )
      last false c = (keeps_judge version (first_fields ns t e) [] closing refl, (refl, c, refl))

  -- the lines keep the line rule, before any lines that do
  shape_entries : (x : Bool) (r : List Line) → Shape r → Shape (lines_of (entries_of x version ns t e n) ++ r)
  unfolding every
  shape_entries x r s =
      plain_line _ (decimal_plain version)
      (plain_line _ of_type_name.text.bytes_plain
      (plain_line _ (decimal_plain (length ns))
      (plain_line _ (spaced_text ns).bytes_plain
      (plain_line _ of_encoding_name.text.bytes_plain
      (last x)))))
    where
      last : (x : Bool) → Shape (lines_of (last_entries x n) ++ r)
      last true = plain_line _ of_endian_name.text.bytes_plain (plain_line [] refl s)
      last false = plain_line [] refl s

  -- the header is short, and so within its limits
  pub short_entries : (x : Bool) → header_length (entries_of x version ns t e n) ≤ 511
  unfolding unlines
  short_entries x =
      let v = decimal_short version (omega (arith, a.numbers.version_to)) in
      let d = decimal_short (length ns) (omega (arith, a.numbers.axes_to)) in
      let s = sizes_short ns a.sizes_in in
      simp length-append (omega (arith, last x, of_type_name.short, of_encoding_name.short, a.numbers.axes_to))
    where
      last : (x : Bool) → length (unlines (lines_of (last_entries x n))) ≤ 20
      last true = simp length-append (omega (arith, of_endian_name.short))
      last false = omega arith

  few_entries : (x : Bool) → length (entries_of x version ns t e n) ≤ max_lines
  few_entries true = omega arith
  few_entries false = omega arith

  -- the written header is read as these entries and fields, before the lines of the data
  pub header_written : (x : Bool) → endian_needed t e ≡ x → header (file_bytes version ns t e n zs)
      ≡ accepted (entries_of x version ns t e n) (fields_of x ns t e n) (lines (data_bytes e (sample_bytes t) n zs))
  unfolding file_bytes
  header_written x h =
      let s = data_bytes e (sample_bytes t) n zs in
      let es = entries_of x version ns t e n in
      let split : lines (unlines (header_lines version ns t e n) ++ s) ≡ lines_of es ++ lines s =
      ap (λ (ls : List Line). lines (unlines ls ++ s)) (sym (lines_of_entries x version ns t e n h))
      ∙ lines_of_parts (lines_of es) s (shape_entries x (lines s) (shape_of_lines s)) in
      header_fine _ (first_line version) version (rest_entries x ns t e n) (fields_of x ns t e n) (lines s) split
      (version_of_magic version a.numbers.version_from a.numbers.version_to)
      (fine_entries x (complete_fields x h) (lines s)) (omega (arith, short_entries x)) (few_entries x) a.file_small
