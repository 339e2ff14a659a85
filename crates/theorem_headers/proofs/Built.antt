-- A written header whose parts fit is read: `header_built`.
-- The names are those of Told.antt.
-- Assumes nothing.
use Prim.Native.Nat.{◌≤◌}
use native.Mathlib.Omega.{arith}
use mathlib.Core.Path.{◌≡◌, refl, sym, ap, ◌∙◌}
use mathlib.Core.Bool.{Bool, true, false, not, ◌||◌}
use mathlib.Core.List.{List, [], ◌∷◌, append-nil}
use mathlib.Core.Option.{none}
use lib.ListN.{length, length-append, length-map}
use borrow.Author.Tests.{le-ltb}
use Rattle.format.specs.Bytes.{is_some}
use Rattle.format.specs.Limits.{max_extent}
use Rattle.format.specs.Lines.{Line}
use Rattle.format.specs.Fields.{Given, descriptor_of, is_repeated, in_order, field_at, dimension, type, encoding, endian, sizes, data_file, space, space_dimension, space_origin, space_directions, measurement_frame}
use Rattle.format.specs.Descriptors.{may_describe, names_follow, list_empty, files_fine, has_needed, end_is_raw, endians, endian_needed, extent}
use Rattle.format.specs.Header.{magic, entry, line_of, lines_of, accepted, header}
use Rattle.format.specs.Writer.{decimal, name_at}
use Rattle.format.specs.HeaderWriter.{space_text, origin_text, directions_text, frame_text, if_given}
use Rattle.format.proofs.Header.{Complete, header_fine}
use Rattle.theorem_roundtrip.proofs.Names.{type_named, encoding_named, endian_named, version_of_magic}
use Rattle.theorem_roundtrip.proofs.Numbers.{decimal_text, spaced_text}
use Rattle.theorem_roundtrip.proofs.Written.{first_line, first_fields, dimension_may, sizes_may}
use Rattle.theorem_headers.specs.HeadersBack.{mapped}
use Rattle.theorem_headers.proofs.Lined.{Rest, Allowed, rest_field, rest_closing, rest_option}
use Rattle.theorem_headers.proofs.Texts.{field_names}
use Rattle.theorem_headers.proofs.Short.{option_count}
use Rattle.theorem_headers.proofs.Told.{Inputs, Listed, Numbers, Parts, given_directions, given_frame, given_origin, if_asked, listed_text, option_lines, order, order_text, rest_lines, size_text, text, text_lines, with_directions, with_frame, with_order, with_origin, with_size, with_space}
use Rattle.theorem_headers.proofs.Meant.{look, look_directions, look_order, look_origin, look_size, look_space, means}
use Rattle.theorem_headers.proofs.Taken.{lines_short, sizes_are, text_short}

no_names_in : (gs : List Given) → descriptor_of data_file gs ≡ none → names_follow gs ≡ false
unfolding names_follow
no_names_in gs h = rw h

module _ (put : Inputs) (w : Numbers put) (listed : Listed put) (p : Parts put) (small : extent put.ns put.t ≤ max_extent) where
  -- ---- the fields are complete

  complete_fields : Complete (with_frame put)
  unfolding has_needed end_is_raw descriptor_of names_follow list_empty files_fine
  complete_fields =
      let x = means put w listed p in
      record {
        filled = rw (look put data_file);
        needed = rw (x.type_is, x.encoding_is, look put dimension, look put type, look put encoding, look put sizes, look put endian) (go (endian_needed put.t put.e));
        fitting = rw x.no_byte_skip;
        small = rw (x.sizes_are, x.type_is) small;
        files = rw (look put data_file);
      }
    where
      go : (y : Bool) → (is_some (mapped (name_at endians) (if_given y put.n)) || not y) ≡ true
      go true = refl
      go false = refl

  -- ---- each line is allowed

  options : Rest put.version (first_fields put.ns put.t put.e) (option_lines put) (with_frame put) []
  unfolding descriptor_of is_repeated in_order field_at may_describe names_follow
  options =
      rest_option "endian" endian (name_at endians) field_names.of_endian put.version (first_fields put.ns put.t put.e) (order put)
      (order_text put w listed) refl
      (if_asked (λ k. Allowed put.version (first_fields put.ns put.t put.e) endian (name_at endians k)) (endian_needed put.t put.e) put.n
      (record { since = le-ltb put.version 1 w.version_from; new = refl; order = refl; fits = rw (endian_named put.n w.endian_in).row }))
      (rest_option "space" space space_text field_names.of_space put.version (with_order put) put.i (listed_text put w listed)
      (no_names_in (with_order put) (look_order put data_file)) p.space_fits
      (rest_option "space dimension" space_dimension decimal field_names.of_size put.version (with_space put) put.size (size_text put w listed)
      (no_names_in (with_space put) (look_space put data_file)) p.size_fits
      (rest_option "space origin" space_origin origin_text field_names.of_origin put.version (with_size put) put.origin (given_origin put w listed)
      (no_names_in (with_size put) (look_size put data_file)) p.origin_fits
      (rest_option "space directions" space_directions directions_text field_names.of_directions put.version (with_origin put) put.directions (given_directions put w listed)
      (no_names_in (with_origin put) (look_origin put data_file)) p.directions_fit
      (rest_option "measurement frame" measurement_frame frame_text field_names.of_frame put.version (with_directions put) put.frame (given_frame put w listed)
      (no_names_in (with_directions put) (look_directions put data_file)) p.frame_fits
      (rest_closing put.version (with_frame put) (no_names_in (with_frame put) (look put data_file)) complete_fields))))))

  pub rest : Rest put.version [] (rest_lines put) (with_frame put) []
  unfolding descriptor_of is_repeated in_order field_at may_describe names_follow
  rest =
      let a = le-ltb put.version 1 w.version_from in
      rest_field put.version [] "type" type _ field_names.of_type (type_named put.t w.type_in).text refl
      (record { since = a; new = refl; order = refl; fits = rw (type_named put.t w.type_in).row })
      (rest_field put.version _ "dimension" dimension _ field_names.of_dimension (decimal_text (length put.ns)) refl
      (record { since = a; new = refl; order = refl; fits = dimension_may put.ns w.axes_from w.axes_to })
      (rest_field put.version _ "sizes" sizes _ field_names.of_sizes (spaced_text put.ns) refl
      (record { since = a; new = refl; order = refl; fits = sizes_may put.ns (sizes_are put w listed p small) })
      (rest_field put.version _ "encoding" encoding _ field_names.of_encoding (encoding_named put.e w.encoding_in).text refl
      (record { since = a; new = refl; order = refl; fits = rw (encoding_named put.e w.encoding_in).row }) options)))

  -- ---- and the header is within its limits

  few : length (rest_lines put) ≤ 11
  few =
      simp length-append
      (omega (arith, option_count "endian" (name_at endians) (order put), option_count "space" space_text put.i, option_count "space dimension" decimal put.size, option_count "space origin" origin_text put.origin, option_count "space directions" directions_text put.directions, option_count "measurement frame" frame_text put.frame))

  entries_are : lines_of rest.entries ≡ rest_lines put
  entries_are = sym (append-nil (lines_of rest.entries)) ∙ sym rest.split

  pub header_built : header (text put) ≡ accepted (entry (first_line put.version) (magic put.version) ∷ rest.entries) (with_frame put) []
  header_built =
      let l = lines_short put w listed p small in
      header_fine (text put) (first_line put.version) put.version rest.entries (with_frame put) []
      (text_lines put w listed ∙ ap (λ (ls : List Line). first_line put.version ∷ ls) rest.split)
      (version_of_magic put.version w.version_from w.version_to) rest.fine
      (rw entries_are (omega (arith, l)))
      (omega (arith, few, ap length entries_are, length-map rest.entries line_of))
      (omega (arith, text_short put w listed p small))
