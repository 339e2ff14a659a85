-- The line of each part of an orientation is allowed exactly where that part fits.
-- The names are those of Told.antt.
-- Assumes nothing.
use Prim.Native.Nat.{ℕ}
use mathlib.Core.Path.{◌≡◌, refl, sym, ap, ◌∙◌}
use mathlib.Core.Bool.{Bool, true, false, not, ◌&&◌}
use mathlib.Core.List.{List, map}
use mathlib.Core.Option.{some}
use lib.Dec.{ltb}
use lib.ListN.{length}
use borrow.Author.Tests.{not-true}
use Rattle.format.specs.declared.Decimal.{Decimal}
use Rattle.format.specs.Bytes.{between, is_some}
use Rattle.format.specs.Fields.{descriptor_of, is_given, field_at, field_since, is_repeated, in_order, space, space_dimension, space_origin, space_directions, measurement_frame}
use Rattle.format.specs.Spaces.{max_space, space_named}
use Rattle.format.specs.Vectors.{Direction}
use Rattle.format.specs.Descriptors.{may_describe}
use Rattle.format.specs.Writer.{decimal}
use Rattle.format.specs.HeaderWriter.{space_text, origin_text, directions_text, frame_text}
use Rattle.format.proofs.Bytes.{and_left, and_right, and_both, or-false}
use Rattle.format.proofs.Writer.{number_of_decimal}
use Rattle.theorem_orientation.specs.ReadBack.{each_of, kept_vector, kept_direction, meant, meant_direction}
use Rattle.theorem_orientation.proofs.Vectors.{origin_exactly, frame_exactly, directions_exactly}
use Rattle.theorem_headers.specs.HeadersBack.{size_by, has_space}
use Rattle.theorem_headers.proofs.Lined.{Allowed}
use Rattle.theorem_headers.proofs.Givens.{mapped_some, axes_are, size_is, order_on, order_of}
use Rattle.theorem_headers.proofs.Told.{Inputs, Listed, Numbers, with_directions, with_order, with_origin, with_size, with_space}
use Rattle.theorem_headers.proofs.Meant.{at_directions, at_frame, at_origin, directions_taken, frame_taken, look_directions, look_order, look_origin, look_size, look_space, names_back, origin_taken}

module _ (put : Inputs) (w : Numbers put) (listed : Listed put) where
  abbrev m : ℕ
  m = size_by put.i put.size

  abbrev there : Bool
  there = has_space put.i put.size

  -- ---- the space

  pub allow_space : (k : ℕ) → ltb put.version (field_since space) ≡ false → space_named (space_text k) ≡ some k → Allowed put.version (with_order put) space (space_text k)
  unfolding descriptor_of is_repeated in_order field_at may_describe
  allow_space k s h = record { since = s; new = rw (look_order put space, look_order put space_dimension); order = refl; fits = rw h }

  -- ---- its dimension

  pub allow_size : (k : ℕ) → ltb put.version (field_since space_dimension) ≡ false → (not (is_some put.i) && between 1 max_space k) ≡ true
      → Allowed put.version (with_space put) space_dimension (decimal k)
  unfolding descriptor_of is_repeated in_order field_at may_describe
  allow_size k s h =
      let a = not-true (is_some put.i) (and_left (not (is_some put.i)) (between 1 max_space k) h) in
      record {
        since = s;
        new = rw (look_space put space_dimension, look_space put space, mapped_some space_text put.i, a);
        order = refl;
        fits = rw (number_of_decimal k) (and_right (not (is_some put.i)) (between 1 max_space k) h);
      }

  pub size_allowed : (k : ℕ) → Allowed put.version (with_space put) space_dimension (decimal k) → (not (is_some put.i) && between 1 max_space k) ≡ true
  unfolding descriptor_of is_repeated may_describe
  size_allowed k h =
      let a = (or-false (is_given space_dimension (with_space put)) (is_given space (with_space put)) h.new).1 in
      let b : is_some put.i ≡ false = sym (mapped_some space_text put.i) ∙ sym (ap is_some (look_space put space)) ∙ a in
      let c = rw (number_of_decimal k) at h.fits in
      rw b c

  -- ---- what lies in a space

  module _ (ds : List Decimal) where
    abbrev origin_fits : Bool
    origin_fits = kept_vector m (map meant ds)

    pub allow_origin : ltb put.version (field_since space_origin) ≡ false → (there && origin_fits) ≡ true → Allowed put.version (with_size put) space_origin (origin_text ds)
    unfolding descriptor_of is_repeated may_describe
    allow_origin s h =
        record {
          since = s;
          new = rw (look_size put space_origin);
          order = order_on (at_origin put) space_origin (and_left there origin_fits h);
          fits = rw (size_is (at_origin put) (names_back put w listed), origin_exactly m ds, and_right there origin_fits h);
        }

    pub origin_allowed : Allowed put.version (with_size put) space_origin (origin_text ds) → (there && origin_fits) ≡ true
    unfolding field_at
    origin_allowed h =
        and_both there origin_fits (order_of (at_origin put) space_origin refl h.order)
        (origin_taken put w listed ds h.fits).1

  module _ (ds : List Direction) where
    abbrev directions_fit : Bool
    directions_fit = each_of (length put.ns) (kept_direction m) (map meant_direction ds)

    pub allow_directions : ltb put.version (field_since space_directions) ≡ false → (there && directions_fit) ≡ true
        → Allowed put.version (with_origin put) space_directions (directions_text ds)
    unfolding descriptor_of is_repeated may_describe
    allow_directions s h =
        record {
          since = s;
          new = rw (look_origin put space_directions);
          order = order_on (at_directions put) space_directions (and_left there directions_fit h);
          fits = rw (axes_are (at_directions put), size_is (at_directions put) (names_back put w listed), directions_exactly (length put.ns) m ds, and_right there directions_fit h);
        }

    pub directions_allowed : Allowed put.version (with_origin put) space_directions (directions_text ds) → (there && directions_fit) ≡ true
    unfolding field_at
    directions_allowed h =
        and_both there directions_fit (order_of (at_directions put) space_directions refl h.order)
        (directions_taken put w listed ds h.fits).1

  module _ (cs : List (List Decimal)) where
    abbrev frame_fits : Bool
    frame_fits = each_of m (kept_vector m) (map (map meant) cs)

    pub allow_frame : ltb put.version (field_since measurement_frame) ≡ false → (there && frame_fits) ≡ true → Allowed put.version (with_directions put) measurement_frame (frame_text cs)
    unfolding descriptor_of is_repeated may_describe
    allow_frame s h =
        record {
          since = s;
          new = rw (look_directions put measurement_frame);
          order = order_on (at_frame put) measurement_frame (and_left there frame_fits h);
          fits = rw (size_is (at_frame put) (names_back put w listed), frame_exactly m m cs, and_right there frame_fits h);
        }

    pub frame_allowed : Allowed put.version (with_directions put) measurement_frame (frame_text cs) → (there && frame_fits) ≡ true
    unfolding field_at
    frame_allowed h =
        and_both there frame_fits (order_of (at_frame put) measurement_frame refl h.order)
        (frame_taken put w listed cs h.fits).1
