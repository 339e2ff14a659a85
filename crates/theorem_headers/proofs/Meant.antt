-- What the fields of a written header mean, where each may have its descriptor: what went in (`Means`).
-- The names are those of Told.antt.
-- Assumes nothing.
use Rattle.std.specs.Prelude.{if◌then◌else◌}
use Prim.Native.Nat.{ℕ, ◌<◌}
use mathlib.Core.Path.{◌≡◌, refl, sym, ap, ◌∙◌}
use mathlib.Core.Bool.{Bool, true, false, false≢true}
use mathlib.Core.List.{List, [], ◌∷◌, map}
use mathlib.Core.Option.{Option, none, some}
use lib.ListN.{length}
use Rattle.format.specs.declared.Decimal.{Decimal}
use Rattle.format.specs.Bytes.{is_some, or_default}
use Rattle.format.specs.Fields.{Given, descriptor_of, is_given, dimension, type, encoding, endian, sizes, line_skip, byte_skip, data_file, space, space_dimension, space_origin, space_directions, measurement_frame}
use Rattle.format.specs.Spaces.{space_count, space_named}
use Rattle.format.specs.Vectors.{Direction, vectors_said, directions_said}
use Rattle.format.specs.Descriptors.{meaning, number_said, forward, may_describe, endians, endian_needed, no_endian, no_space, dimension_of, type_of, encoding_of, endian_of, sizes_of, line_skip_of, byte_skip_of, space_of, space_size_of, is_detached, file_count_of}
use Rattle.format.specs.Orientation.{first_vector, origin_of, directions_of, frame_of}
use Rattle.format.specs.Writer.{decimal, name_at}
use Rattle.format.specs.HeaderWriter.{space_text, origin_text, directions_text, frame_text, if_given}
use Rattle.theorem_roundtrip.proofs.Names.{type_named, encoding_named, endian_named}
use Rattle.theorem_roundtrip.proofs.Numbers.{words_of_spaced, values_of_decimals}
use Rattle.theorem_roundtrip.proofs.Written.{first_fields}
use Rattle.theorem_orientation.specs.ReadBack.{each_of, kept_vector, kept_direction, meant, meant_direction}
use Rattle.theorem_orientation.proofs.Vectors.{count_kept, origin_exactly, frame_exactly, directions_exactly}
use Rattle.theorem_orientation.proofs.ReadBack.{orientation_back}
use Rattle.theorem_headers.specs.HeadersBack.{mapped, size_by}
use Rattle.theorem_headers.proofs.Lined.{Described, Allowed, If}
use Rattle.theorem_headers.proofs.Givens.{mapped_some, or_field, looked, Dimensions, axes_are, space_is, size_is}
use Rattle.theorem_headers.proofs.Told.{Inputs, Listed, Numbers, Parts, if_on, order, with_directions, with_frame, with_order, with_origin, with_size, with_space}

-- what is taken, and is taken only where a test passes
taken : {A : Type 0} (o : Option A) (x : Bool) (a : A) → o ≡ (if x then some a else none) → is_some o ≡ true → (o ≡ some a) × (x ≡ true)
taken o true a q h = (q, refl)
taken o false a q h = absurd (false≢true (rw q at h))

pub record Means (gs : List Given) (put : Inputs) : Type 0 where
  pub dimension_is : dimension_of gs ≡ length put.ns
  pub type_is : type_of gs ≡ put.t
  pub encoding_is : encoding_of gs ≡ put.e
  pub endian_is : endian_of gs ≡ (if endian_needed put.t put.e then put.n else no_endian)
  pub sizes_are : sizes_of gs ≡ put.ns
  pub no_line_skip : line_skip_of gs ≡ 0
  pub no_byte_skip : byte_skip_of gs ≡ forward 0
  pub attached : is_detached gs ≡ false
  pub one_file : file_count_of gs ≡ 1
  pub space_number : space_of gs ≡ or_default no_space put.i
  pub space_size : space_size_of gs ≡ size_by put.i put.size
  pub origin_given : is_given space_origin gs ≡ is_some put.origin
  pub directions_given : is_given space_directions gs ≡ is_some put.directions
  pub frame_given : is_given measurement_frame gs ≡ is_some put.frame
  pub origin_is : origin_of gs ≡ or_default [] (mapped (map meant) put.origin)
  pub directions_are : directions_of gs ≡ or_default [] (mapped (map meant_direction) put.directions)
  pub frame_is : frame_of gs ≡ or_default [] (mapped (map (map meant)) put.frame)
  pub one_each : (ds : List Direction) → put.directions ≡ some ds → length ds ≡ length put.ns

module _ (put : Inputs) where
  -- ---- what is looked up

  abbrev pub found_first : ℕ → Option (List ℕ)
  found_first g = descriptor_of g (first_fields put.ns put.t put.e)

  abbrev pub found_order : ℕ → Option (List ℕ)
  found_order = or_field endian (name_at endians) (order put) found_first

  abbrev pub found_space : ℕ → Option (List ℕ)
  found_space = or_field space space_text put.i found_order

  abbrev pub found_size : ℕ → Option (List ℕ)
  found_size = or_field space_dimension decimal put.size found_space

  abbrev pub found_origin : ℕ → Option (List ℕ)
  found_origin = or_field space_origin origin_text put.origin found_size

  abbrev pub found_directions : ℕ → Option (List ℕ)
  found_directions = or_field space_directions directions_text put.directions found_origin

  abbrev pub found_frame : ℕ → Option (List ℕ)
  found_frame = or_field measurement_frame frame_text put.frame found_directions

  pub look_order : (g : ℕ) → descriptor_of g (with_order put) ≡ found_order g
  unfolding descriptor_of
  look_order = looked endian (name_at endians) (order put) (first_fields put.ns put.t put.e) found_first (λ g. refl) refl

  pub look_space : (g : ℕ) → descriptor_of g (with_space put) ≡ found_space g
  unfolding descriptor_of
  look_space = looked space space_text put.i (with_order put) found_order look_order refl

  pub look_size : (g : ℕ) → descriptor_of g (with_size put) ≡ found_size g
  unfolding descriptor_of
  look_size = looked space_dimension decimal put.size (with_space put) found_space look_space refl

  pub look_origin : (g : ℕ) → descriptor_of g (with_origin put) ≡ found_origin g
  unfolding descriptor_of
  look_origin = looked space_origin origin_text put.origin (with_size put) found_size look_size refl

  pub look_directions : (g : ℕ) → descriptor_of g (with_directions put) ≡ found_directions g
  unfolding descriptor_of
  look_directions = looked space_directions directions_text put.directions (with_origin put) found_origin look_origin refl

  pub look : (g : ℕ) → descriptor_of g (with_frame put) ≡ found_frame g
  unfolding descriptor_of
  look = looked measurement_frame frame_text put.frame (with_directions put) found_directions look_directions refl

  -- the dimensions at each place
  dimensions_of : (gs : List Given) → descriptor_of dimension gs ≡ found_size dimension → descriptor_of space gs ≡ mapped space_text put.i
      → descriptor_of space_dimension gs ≡ mapped decimal put.size → Dimensions (length put.ns) put.i put.size gs
  unfolding descriptor_of
  dimensions_of gs a b c = record { of_axes = a; of_space = b; of_size = c }

  pub at_origin : Dimensions (length put.ns) put.i put.size (with_size put)
  at_origin = dimensions_of (with_size put) (look_size dimension) (look_size space) (look_size space_dimension)

  pub at_directions : Dimensions (length put.ns) put.i put.size (with_origin put)
  at_directions = dimensions_of (with_origin put) (look_origin dimension) (look_origin space) (look_origin space_dimension)

  pub at_frame : Dimensions (length put.ns) put.i put.size (with_directions put)
  at_frame = dimensions_of (with_directions put) (look_directions dimension) (look_directions space) (look_directions space_dimension)

  at_end : Dimensions (length put.ns) put.i put.size (with_frame put)
  at_end = dimensions_of (with_frame put) (look dimension) (look space) (look space_dimension)

  -- ---- what they mean

  module _ (w : Numbers put) (listed : Listed put) where
    pub names_back : If put.i (λ k. space_named (space_text k) ≡ some k)
    names_back = if_on (λ k. k < space_count) (λ k. space_named (space_text k) ≡ some k) put.i listed orientation_back.spaces

    abbrev m : ℕ
    m = size_by put.i put.size

    pub origin_taken : (ds : List Decimal) → Described (with_size put) space_origin (origin_text ds)
        → (vectors_said 1 m (origin_text ds) ≡ some (map meant ds ∷ [])) × (kept_vector m (map meant ds) ≡ true)
    unfolding may_describe
    origin_taken ds h =
        taken (vectors_said 1 m (origin_text ds)) (kept_vector m (map meant ds)) (map meant ds ∷ []) (origin_exactly m ds)
        (rw (size_is at_origin names_back) at h)

    pub directions_taken : (ds : List Direction) → Described (with_origin put) space_directions (directions_text ds)
        → (directions_said (length put.ns) m (directions_text ds) ≡ some (map meant_direction ds)) × (each_of (length put.ns) (kept_direction m) (map meant_direction ds) ≡ true)
    unfolding may_describe
    directions_taken ds h =
        taken (directions_said (length put.ns) m (directions_text ds)) (each_of (length put.ns) (kept_direction m) (map meant_direction ds)) (map meant_direction ds)
        (directions_exactly (length put.ns) m ds) (rw (axes_are at_directions, size_is at_directions names_back) at h)

    pub frame_taken : (cs : List (List Decimal)) → Described (with_directions put) measurement_frame (frame_text cs)
        → (vectors_said m m (frame_text cs) ≡ some (map (map meant) cs)) × (each_of m (kept_vector m) (map (map meant) cs) ≡ true)
    unfolding may_describe
    frame_taken cs h =
        taken (vectors_said m m (frame_text cs)) (each_of m (kept_vector m) (map (map meant) cs)) (map (map meant) cs) (frame_exactly m m cs)
        (rw (size_is at_frame names_back) at h)

    -- where each that is given may have its descriptor
    pub means : Parts put → Means (with_frame put) put
    unfolding descriptor_of origin_of directions_of frame_of file_count_of
    means p = record {
      dimension_is = axes_are at_end;
      type_is = rw (look type, (type_named put.t w.type_in).row);
      encoding_is = rw (look encoding, (encoding_named put.e w.encoding_in).row);
      endian_is = rw (look endian) (order_is (endian_needed put.t put.e));
      sizes_are = rw (look sizes, words_of_spaced put.ns) (values_of_decimals put.ns);
      no_line_skip = rw (look line_skip);
      no_byte_skip = rw (look byte_skip);
      attached = rw (look data_file);
      one_file = rw (look data_file);
      space_number = space_is at_end names_back;
      space_size = size_is at_end names_back;
      origin_given = ap is_some (look space_origin) ∙ mapped_some origin_text put.origin;
      directions_given = ap is_some (look space_directions) ∙ mapped_some directions_text put.directions;
      frame_given = ap is_some (look measurement_frame) ∙ mapped_some frame_text put.frame;
      origin_is = rw (size_is at_end names_back, look space_origin) (origin_of_lem put.origin p.origin_fits);
      directions_are = rw (axes_are at_end, size_is at_end names_back, look space_directions) (directions_of_lem put.directions p.directions_fit);
      frame_is = rw (size_is at_end names_back, look measurement_frame) (frame_of_lem put.frame p.frame_fits);
      one_each = each_axis put.directions p.directions_fit;
    }
      where
        order_is : (x : Bool) → meaning no_endian (number_said endian) (mapped (name_at endians) (if_given x put.n)) ≡ (if x then put.n else no_endian)
        order_is true = rw (endian_named put.n w.endian_in).row
        order_is false = refl

        origin_of_lem : (o : Option (List Decimal)) → If o (λ a. Allowed put.version (with_size put) space_origin (origin_text a))
            → meaning [] (λ d. first_vector (vectors_said 1 m d)) (mapped origin_text o) ≡ or_default [] (mapped (map meant) o)
        origin_of_lem none h = refl
        origin_of_lem (some ds) h = rw (origin_taken ds h.fits).0

        directions_of_lem : (o : Option (List Direction)) → If o (λ a. Allowed put.version (with_origin put) space_directions (directions_text a))
            → meaning [] (λ d. or_default [] (directions_said (length put.ns) m d)) (mapped directions_text o) ≡ or_default [] (mapped (map meant_direction) o)
        directions_of_lem none h = refl
        directions_of_lem (some ds) h = rw (directions_taken ds h.fits).0

        frame_of_lem : (o : Option (List (List Decimal))) → If o (λ a. Allowed put.version (with_directions put) measurement_frame (frame_text a))
            → meaning [] (λ d. or_default [] (vectors_said m m d)) (mapped frame_text o) ≡ or_default [] (mapped (map (map meant)) o)
        frame_of_lem none h = refl
        frame_of_lem (some cs) h = rw (frame_taken cs h.fits).0

        each_axis : (o : Option (List Direction)) → If o (λ a. Allowed put.version (with_origin put) space_directions (directions_text a)) → (ds : List Direction) → o ≡ some ds → length ds ≡ length put.ns
        each_axis none h ds q = cc
        each_axis (some es) h ds q =
            let p : es ≡ ds = cc in
            ap length (sym p) ∙ count_kept (kept_direction m) meant_direction (length put.ns) es (directions_taken es h.fits).1
