-- The parts of a header fit exactly where their lines are allowed (`parts_of`, `fitting_of`), and its text is then short (`text_short`).
-- The names are those of Told.antt.
-- Assumes nothing.
use Prim.Native.Nat.{ℕ, ◌≤◌, ◌<◌}
use native.Mathlib.Omega.{arith}
use native.Mathlib.Nat.{le-mul_of_pos_right}
use mathlib.Core.Path.{◌≡◌, refl}
use mathlib.Core.Bool.{Bool, true, false, not, ◌&&◌}
use mathlib.Core.List.{List, [], ◌∷◌, map}
use mathlib.Core.Option.{Option, none, some}
use lib.Dec.{ltb, leb}
use lib.ListN.{length, length-append}
use borrow.Author.Tests.{le-ltb, leb-true}
use Rattle.format.specs.declared.Decimal.{Decimal}
use Rattle.format.specs.Bytes.{bytes, between, is_some}
use Rattle.format.specs.Limits.{max_extent}
use Rattle.format.specs.Lines.{Line, line, lf, unlines}
use Rattle.format.specs.Fields.{field_since, space, space_dimension, space_origin, space_directions, measurement_frame}
use Rattle.format.specs.Spaces.{space_count, max_space}
use Rattle.format.specs.Vectors.{Direction}
use Rattle.format.specs.Descriptors.{endians, encodings, endian_needed, type_at, type_name, product, extent}
use Rattle.format.specs.Writer.{decimal, spaced, name_at}
use Rattle.format.specs.HeaderWriter.{space_text, origin_text, directions_text, frame_text, since_for, in_version, oriented_bytes}
use Rattle.format.proofs.Bytes.{and_left, and_right, and_both}
use Rattle.format.proofs.Lines.{length_unlines_cons}
use Rattle.theorem_roundtrip.proofs.Names.{type_named, encoding_named, endian_named, sample_bytes_lem}
use Rattle.theorem_roundtrip.proofs.Numbers.{Sizes, sizes_fine, sizes_short, decimal_short}
use Rattle.theorem_roundtrip.proofs.Written.{first_line}
use Rattle.theorem_orientation.specs.ReadBack.{each_of, kept_vector, kept_direction, meant, meant_direction}
use Rattle.theorem_headers.specs.HeadersBack.{mapped, size_by, if_there, has_space, fitting, meant_orientation, max_written}
use Rattle.theorem_headers.proofs.Lined.{If}
use Rattle.theorem_headers.proofs.Short.{origin_short, directions_short, frame_short, space_short, size_of_space, field_short, option_short}
use Rattle.theorem_headers.proofs.Told.{Inputs, Listed, Numbers, Parts, if_asked, if_on, lines_are, order, rest_lines, text, whole}
use Rattle.theorem_headers.proofs.Meant.{names_back}
use Rattle.theorem_headers.proofs.Fitting.{allow_directions, allow_frame, allow_origin, allow_size, allow_space, directions_allowed, frame_allowed, origin_allowed, size_allowed}

-- ---- tests of what may be missing

module _ {A : Type 0} where
  since_if : (version f : ℕ) (o : Option A) → since_for version f o ≡ true → If o (λ a. ltb version (field_since f) ≡ false)
  since_if version f none h = tt
  since_if version f (some a) h = le-ltb version (field_since f) (leb-true (field_since f) version h)

  there_if : (p : A → Bool) (g : A → A) (o : Option A) → if_there p (mapped g o) ≡ true → If o (λ a. p (g a) ≡ true)
  there_if p g none h = tt
  there_if p g (some a) h = h

  if_there_lem : (p : A → Bool) (g : A → A) (o : Option A) → If o (λ a. p (g a) ≡ true) → if_there p (mapped g o) ≡ true
  if_there_lem p g none h = refl
  if_there_lem p g (some a) h = h

  mapped_same : (o : Option A) → mapped (λ a. a) o ≡ o
  mapped_same none = refl
  mapped_same (some a) = refl

  if_both : (P Q R : A → Type 0) (o : Option A) → If o P → If o Q → ((a : A) → P a → Q a → R a) → If o R
  if_both P Q R none p q h = tt
  if_both P Q R (some a) p q h = h a p q

closing_short : length (unlines (line [] lf ∷ [])) ≤ 1
unfolding unlines
closing_short = omega arith

module _ (put : Inputs) (w : Numbers put) (listed : Listed put) where
  abbrev m : ℕ
  m = size_by put.i put.size

  abbrev there : Bool
  there = has_space put.i put.size

  -- ---- parts that fit, and parts that are allowed

  abbrev size_fits : ℕ → Bool
  size_fits k = not (is_some put.i) && between 1 max_space k

  abbrev origin_fits : List Decimal → Bool
  origin_fits ds = there && kept_vector m ds

  abbrev directions_fit : List Direction → Bool
  directions_fit ds = there && each_of (length put.ns) (kept_direction m) ds

  abbrev frame_fits : List (List Decimal) → Bool
  frame_fits cs = there && each_of m (kept_vector m) cs

  pub parts_of : in_version put.version (whole put) ≡ true → fitting (length put.ns) (meant_orientation (whole put)) ≡ true → Parts put
  unfolding in_version
  parts_of v h =
      let v₁ = and_right (since_for put.version space put.i) _ v in
      let v₂ = and_right (since_for put.version space_dimension put.size) _ v₁ in
      let v₃ = and_right (since_for put.version space_origin put.origin) _ v₂ in
      let h₁ = and_right (if_there size_fits put.size) _ h in
      let h₂ = and_right (if_there origin_fits (mapped (map meant) put.origin)) _ h₁ in
      record {
        space_fits = if_both _ _ _ put.i (since_if put.version space put.i (and_left (since_for put.version space put.i) _ v))
            (names_back put w listed) (allow_space put w listed);
        size_fits = if_both _ _ _ put.size (since_if put.version space_dimension put.size (and_left (since_for put.version space_dimension put.size) _ v₁))
            (there_if size_fits (λ k. k) put.size (rw mapped_same (and_left (if_there size_fits put.size) _ h)))
            (allow_size put w listed);
        origin_fits = if_both _ _ _ put.origin (since_if put.version space_origin put.origin (and_left (since_for put.version space_origin put.origin) _ v₂))
            (there_if origin_fits (map meant) put.origin (and_left (if_there origin_fits (mapped (map meant) put.origin)) _ h₁))
            (allow_origin put w listed);
        directions_fit = if_both _ _ _ put.directions (since_if put.version space_directions put.directions (and_left (since_for put.version space_directions put.directions) _ v₃))
            (there_if directions_fit (map meant_direction) put.directions (and_left (if_there directions_fit (mapped (map meant_direction) put.directions)) _ h₂))
            (allow_directions put w listed);
        frame_fits = if_both _ _ _ put.frame (since_if put.version measurement_frame put.frame (and_right (since_for put.version space_directions put.directions) _ v₃))
            (there_if frame_fits (map (map meant)) put.frame (and_right (if_there directions_fit (mapped (map meant_direction) put.directions)) _ h₂))
            (allow_frame put w listed);
      }

  module _ (p : Parts put) where
    size_in : If put.size (λ k. size_fits k ≡ true)
    size_in = if_on _ _ put.size p.size_fits (size_allowed put w listed)

    origin_in : If put.origin (λ ds. origin_fits (map meant ds) ≡ true)
    origin_in = if_on _ _ put.origin p.origin_fits (origin_allowed put w listed)

    directions_in : If put.directions (λ ds. directions_fit (map meant_direction ds) ≡ true)
    directions_in = if_on _ _ put.directions p.directions_fit (directions_allowed put w listed)

    frame_in : If put.frame (λ cs. frame_fits (map (map meant) cs) ≡ true)
    frame_in = if_on _ _ put.frame p.frame_fits (frame_allowed put w listed)

    pub fitting_of : fitting (length put.ns) (meant_orientation (whole put)) ≡ true
    fitting_of =
        and_both (if_there size_fits put.size) _ (rw mapped_same at (if_there_lem size_fits (λ k. k) put.size size_in))
        (and_both (if_there origin_fits (mapped (map meant) put.origin)) _ (if_there_lem origin_fits (map meant) put.origin origin_in)
        (and_both (if_there directions_fit (mapped (map meant_direction) put.directions)) _ (if_there_lem directions_fit (map meant_direction) put.directions directions_in)
        (if_there_lem frame_fits (map (map meant)) put.frame frame_in)))

    -- ---- the text is short

    space_small : m ≤ 8
    space_small = go put.i put.size listed size_in
      where
        go : (o s : Option ℕ) → If o (λ k. k < space_count) → If s (λ k. (not (is_some o) && between 1 max_space k) ≡ true) → size_by o s ≤ 8
        go (some k) s l h = size_of_space k l
        go none (some k) l h = leb-true k max_space (and_right (leb 1 k) (leb k max_space) h)
        go none none l h = omega arith

    module _ (small : extent put.ns put.t ≤ max_extent) where
      pub sizes_are : Sizes put.ns
      sizes_are =
          let below : product put.ns ≤ extent put.ns put.t = le-mul_of_pos_right (product put.ns) (sample_bytes_lem put.t w.type_in) in
          sizes_fine put.ns w.no_zero (omega arith)

      abbrev all_lines : List Line
      all_lines = first_line put.version ∷ rest_lines put

      pub lines_short : length (unlines all_lines) ≤ max_written
      lines_short =
          let axes = decimal_short (length put.ns) (omega (arith, w.axes_to)) in
          let each_size : length (spaced put.ns) ≤ 176 = omega (arith, sizes_short put.ns sizes_are, w.axes_to) in
          let rest =
          field_short "type" (bytes (type_name (type_at put.t))) 6 (type_named put.t w.type_in).short _ _
          (field_short "dimension" (decimal (length put.ns)) 10 axes _ _
          (field_short "sizes" (spaced put.ns) 176 each_size _ _
          (field_short "encoding" (name_at encodings put.e) 6 (encoding_named put.e w.encoding_in).short _ _
          (option_short "endian" (name_at endians) 6 (order put) (if_asked _ (endian_needed put.t put.e) put.n (endian_named put.n w.endian_in).short) _ _
          (option_short "space" space_text 28 put.i (if_on _ _ put.i listed space_short) _ _
          (option_short "space dimension" decimal 10 put.size (if_on _ _ put.size size_in size_digits) _ _
          (option_short "space origin" origin_text 202 put.origin (if_on _ _ put.origin origin_in (λ ds h. origin_short m space_small ds (and_right there _ h))) _ _
          (option_short "space directions" directions_text 3248 put.directions
          (if_on _ _ put.directions directions_in (λ ds h. directions_short m space_small (length put.ns) w.axes_to ds (and_right there _ h))) _ _
          (option_short "measurement frame" frame_text 1624 put.frame
          (if_on _ _ put.frame frame_in (λ cs h. frame_short m space_small cs (and_right there _ h))) (line [] lf ∷ []) 1 closing_short))))))))) in
          rw length_unlines_cons (simp length-append (omega (arith, rest, decimal_short put.version (omega (arith, w.version_to)))))
        where
          size_digits : (k : ℕ) → size_fits k ≡ true → length (decimal k) ≤ 10
          size_digits k h =
              let b = and_right (not (is_some put.i)) (between 1 max_space k) h in
              decimal_short k (omega (arith, leb-true k max_space (and_right (leb 1 k) (leb k max_space) b)))

      pub text_short : length (text put) ≤ max_written
      unfolding oriented_bytes
      text_short = rw (lines_are put) lines_short
