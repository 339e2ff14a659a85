-- What an accepted reading of a written header tells: its fields, and that each of them may have its descriptor (`told`).
-- Assumes nothing.
use Rattle.std.specs.Prelude.{if◌then◌else◌}
use Prim.Native.Nat.{ℕ, ◌<◌}
use mathlib.Core.Path.{◌≡◌, refl, sym, ap, ◌∙◌, subst}
use mathlib.Core.Bool.{Bool, true, false}
use mathlib.Core.List.{List, [], ◌∷◌, ◌++◌, append_assoc, append-nil}
use mathlib.Core.Option.{Option, none, some}
use lib.ListN.{length}
use Rattle.format.specs.declared.Decimal.{Decimal}
use Rattle.format.specs.Bytes.{bytes, every}
use Rattle.format.specs.Lines.{Line, line, lf, lines, unlines}
use Rattle.format.specs.Fields.{Given, dimension, type, encoding, endian, sizes, space, space_dimension, space_origin, space_directions, measurement_frame}
use Rattle.format.specs.Spaces.{space_count}
use Rattle.format.specs.Vectors.{Direction}
use Rattle.format.specs.Descriptors.{type_at, type_name, encodings, endians, endian_needed}
use Rattle.format.specs.Header.{Entry, lines_of, version_of_line, accepted, header, version_of}
use Rattle.format.specs.Writer.{decimal, spaced, name_at, field_line, header_with}
use Rattle.format.specs.HeaderWriter.{Orientation, orientation, space_text, origin_text, directions_text, frame_text, line_for, orientation_lines, oriented_bytes, if_given}
use Rattle.format.proofs.Lines.{Shape, no_lines, lines_unique}
use Rattle.format.proofs.Judged.{no_names}
use Rattle.format.proofs.Header.{Complete, IsHeader, Fine, header_sound}
use Rattle.theorem_roundtrip.proofs.Names.{Text, type_named, encoding_named, endian_named, version_of_magic}
use Rattle.theorem_roundtrip.proofs.Numbers.{decimal_plain, decimal_text, spaced_text}
use Rattle.theorem_roundtrip.proofs.Accepted.{Writable}
use Rattle.theorem_roundtrip.proofs.Written.{first_line, first_fields, plain_line}
use Rattle.theorem_headers.proofs.Lined.{Rest, Allowed, field_rest, closing_rest, with_given, If, option_rest, option_shape}
use Rattle.theorem_headers.proofs.Texts.{space_text_lem, origin_text_lem, directions_text_lem, frame_text_lem, field_names}

-- ---- what may be missing

module _ {A : Type 0} (P : A → Type 0) where
  pub if_each : (o : Option A) → ((a : A) → P a) → If o P
  if_each none h = tt
  if_each (some a) h = h a

  pub if_asked : (x : Bool) (a : A) → P a → If (if_given x a) P
  if_asked true a h = h
  if_asked false a h = tt

  pub if_on : (Q : A → Type 0) (o : Option A) → If o P → ((a : A) → P a → Q a) → If o Q
  if_on Q none p h = tt
  if_on Q (some a) p h = h a p

-- what the header is written with: ns are the sizes, t, e and n the numbers of type, encoding and endian, i and size a space by its number and by its dimension
pub record Inputs : Type 0 where
  pub version : ℕ
  pub ns : List ℕ
  pub t : ℕ
  pub e : ℕ
  pub n : ℕ
  pub i : Option ℕ
  pub size : Option ℕ
  pub origin : Option (List Decimal)
  pub directions : Option (List Direction)
  pub frame : Option (List (List Decimal))

abbrev pub inputs : ℕ → List ℕ → ℕ → ℕ → ℕ → Option ℕ → Option ℕ → Option (List Decimal) → Option (List Direction) → Option (List (List Decimal)) → Inputs
inputs version ns t e n i size origin directions frame =
    record { version = version; ns = ns; t = t; e = e; n = n; i = i; size = size; origin = origin; directions = directions; frame = frame }

module _ (put : Inputs) where
  -- ---- the lines, and the fields that they give

  -- the endian, where it is needed
  abbrev pub order : Option ℕ
  order = if_given (endian_needed put.t put.e) put.n

  abbrev pub option_lines : List Line
  option_lines =
      line_for "endian" (name_at endians) order
      ++ (line_for "space" space_text put.i
      ++ (line_for "space dimension" decimal put.size
      ++ (line_for "space origin" origin_text put.origin
      ++ (line_for "space directions" directions_text put.directions
      ++ (line_for "measurement frame" frame_text put.frame
      ++ line [] lf ∷ [])))))

  abbrev pub rest_lines : List Line
  rest_lines =
      field_line "type" (bytes (type_name (type_at put.t)))
      ∷ field_line "dimension" (decimal (length put.ns))
      ∷ field_line "sizes" (spaced put.ns)
      ∷ field_line "encoding" (name_at encodings put.e)
      ∷ option_lines

  abbrev pub whole : Orientation
  whole = orientation put.i put.size put.origin put.directions put.frame

  abbrev pub text : List ℕ
  text = oriented_bytes put.version put.ns put.t put.e put.n whole

  -- the header writer's numbers are in their lists, and so is a space that is given
  abbrev pub Numbers : Type 0
  Numbers = Writable put.version put.ns put.t put.e put.n

  abbrev pub Listed : Type 0
  Listed = If put.i (λ k. k < space_count)

  pub lines_are : header_with put.version put.ns put.t put.e put.n (orientation_lines whole) ≡ first_line put.version ∷ rest_lines
  unfolding orientation_lines
  lines_are = rw (append_assoc, append_assoc, append_assoc, append_assoc, go (endian_needed put.t put.e))
    where
      go : (x : Bool) → (if x then field_line "endian" (name_at endians put.n) ∷ [] else []) ≡ line_for "endian" (name_at endians) (if_given x put.n)
      go true = refl
      go false = refl

  -- the fields up to the endian, then with one more after another
  abbrev pub with_order : List Given
  with_order = with_given endian (name_at endians) order (first_fields put.ns put.t put.e)

  abbrev pub with_space : List Given
  with_space = with_given space space_text put.i with_order

  abbrev pub with_size : List Given
  with_size = with_given space_dimension decimal put.size with_space

  abbrev pub with_origin : List Given
  with_origin = with_given space_origin origin_text put.origin with_size

  abbrev pub with_directions : List Given
  with_directions = with_given space_directions directions_text put.directions with_origin

  abbrev pub with_frame : List Given
  with_frame = with_given measurement_frame frame_text put.frame with_directions

  -- ---- the reading of the text

  -- each part that is given is allowed in its place
  pub record Parts : Type 0 where
    pub space_fits : If put.i (λ a. Allowed put.version with_order space (space_text a))
    pub size_fits : If put.size (λ a. Allowed put.version with_space space_dimension (decimal a))
    pub origin_fits : If put.origin (λ a. Allowed put.version with_size space_origin (origin_text a))
    pub directions_fit : If put.directions (λ a. Allowed put.version with_origin space_directions (directions_text a))
    pub frame_fits : If put.frame (λ a. Allowed put.version with_directions measurement_frame (frame_text a))

  pub record Told (es : List Entry) (gs : List Given) (r : List Line) : Type 0 where
    pub fields : gs ≡ with_frame
    pub nothing_after : r ≡ []
    pub version_is : version_of es ≡ put.version
    pub lines_of : lines_of es ≡ first_line put.version ∷ rest_lines
    pub whole_is : Complete with_frame
    pub parts : Parts

  module _ (w : Numbers) (listed : Listed) where
    abbrev pub type_text : Text (bytes (type_name (type_at put.t)))
    type_text = (type_named put.t w.type_in).text

    abbrev pub encoding_text : Text (name_at encodings put.e)
    encoding_text = (encoding_named put.e w.encoding_in).text

    pub order_text : If order (λ k. Text (name_at endians k))
    order_text = if_asked (λ k. Text (name_at endians k)) (endian_needed put.t put.e) put.n (endian_named put.n w.endian_in).text

    pub listed_text : If put.i (λ k. Text (space_text k))
    listed_text = if_on (λ k. k < space_count) (λ k. Text (space_text k)) put.i listed space_text_lem

    pub size_text : If put.size (λ k. Text (decimal k))
    size_text = if_each (λ k. Text (decimal k)) put.size decimal_text

    pub given_origin : If put.origin (λ a. Text (origin_text a))
    given_origin = if_each (λ a. Text (origin_text a)) put.origin origin_text_lem

    pub given_directions : If put.directions (λ a. Text (directions_text a))
    given_directions = if_each (λ a. Text (directions_text a)) put.directions directions_text_lem

    pub given_frame : If put.frame (λ a. Text (frame_text a))
    given_frame = if_each (λ a. Text (frame_text a)) put.frame frame_text_lem

    -- the lines keep the line rule
    shape : Shape (first_line put.version ∷ rest_lines)
    unfolding every
    shape =
        plain_line _ (decimal_plain put.version)
        (plain_line _ type_text.bytes_plain
        (plain_line _ (decimal_plain (length put.ns))
        (plain_line _ (spaced_text put.ns).bytes_plain
        (plain_line _ encoding_text.bytes_plain
        (option_shape "endian" endian (name_at endians) field_names.of_endian order order_text
        (option_shape "space" space space_text field_names.of_space put.i listed_text
        (option_shape "space dimension" space_dimension decimal field_names.of_size put.size size_text
        (option_shape "space origin" space_origin origin_text field_names.of_origin put.origin given_origin
        (option_shape "space directions" space_directions directions_text field_names.of_directions put.directions given_directions
        (option_shape "measurement frame" measurement_frame frame_text field_names.of_frame put.frame given_frame
        (plain_line [] refl no_lines)))))))))))

    pub text_lines : lines text ≡ first_line put.version ∷ rest_lines
    unfolding oriented_bytes
    text_lines = ap (λ (ls : List Line). lines (unlines ls)) lines_are ∙ lines_unique shape

    -- line 1 has the version, and the others are the rest of a header
    first_told : {es : List Entry} {gs : List Given} {r : List Line} (x : IsHeader text es gs r)
        → (x.version ≡ put.version) × Rest put.version [] rest_lines gs r
    first_told {es} {gs} {r} x =
        let p : first_line put.version ∷ rest_lines ≡ lines_of es ++ r = sym text_lines ∙ x.split in
        let q : first_line put.version ∷ rest_lines ≡ x.first ∷ (lines_of x.rest ++ r) = p ∙ ap (λ (es : List Entry). lines_of es ++ r) x.entries in
        let a : first_line put.version ≡ x.first = cc in
        let b : rest_lines ≡ lines_of x.rest ++ r = cc in
        let c : some x.version ≡ some put.version =
        sym x.magical ∙ ap version_of_line (sym a) ∙ version_of_magic put.version w.version_from w.version_to in
        let v : x.version ≡ put.version = cc in
        (v, record { entries = x.rest; split = b; fine = subst (λ (v : ℕ). Fine v [] x.rest gs r) v x.fine; no_names = no_names })

    pub told : {es : List Entry} {gs : List Given} {r : List Line} → header text ≡ accepted es gs r → Told es gs r
    told {es} {gs} {r} h =
        let x = header_sound text h in
        let a₀ = first_told x in
        let a₁ = field_rest put.version [] "type" type _ field_names.of_type type_text a₀.1 in
        let a₂ = field_rest put.version _ "dimension" dimension _ field_names.of_dimension (decimal_text (length put.ns)) a₁.1 in
        let a₃ = field_rest put.version _ "sizes" sizes _ field_names.of_sizes (spaced_text put.ns) a₂.1 in
        let a₄ = field_rest put.version _ "encoding" encoding _ field_names.of_encoding encoding_text a₃.1 in
        let a₅ = option_rest "endian" endian (name_at endians) field_names.of_endian put.version (first_fields put.ns put.t put.e) order order_text a₄.1 in
        let a₆ = option_rest "space" space space_text field_names.of_space put.version with_order put.i listed_text a₅.1 in
        let a₇ = option_rest "space dimension" space_dimension decimal field_names.of_size put.version with_space put.size size_text a₆.1 in
        let a₈ = option_rest "space origin" space_origin origin_text field_names.of_origin put.version with_size put.origin given_origin a₇.1 in
        let a₉ = option_rest "space directions" space_directions directions_text field_names.of_directions put.version with_origin put.directions given_directions a₈.1 in
        let b = option_rest "measurement frame" measurement_frame frame_text field_names.of_frame put.version with_directions put.frame given_frame a₉.1 in
        let c = closing_rest put.version with_frame gs r b.1 in
        let d = c.1 in
        record {
          fields = c.0;
          nothing_after = d;
          version_is = ap version_of x.entries ∙ a₀.0;
          lines_of = sym (append-nil (lines_of es)) ∙ ap (λ (r : List Line). lines_of es ++ r) (sym d) ∙ sym x.split ∙ text_lines;
          whole_is = c.2;
          parts = record { space_fits = a₆.0; size_fits = a₇.0; origin_fits = a₈.0; directions_fit = a₉.0; frame_fits = b.0 };
        }
