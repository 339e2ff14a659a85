-- Where the list has room for the most decimals that an orientation may have, no refusal of its calls is 22.
-- Assumes nothing.
use Rattle.std.specs.Prelude.{if◌then◌else◌}
use Prim.Native.Nat.{ℕ, ◌+◌, ◌*◌, ◌-◌, ◌/◌, ◌≤◌}
use native.Mathlib.Nat.{mul-suc}
use native.Mathlib.Omega.{arith}
use mathlib.Core.Path.{◌≡◌, refl}
use mathlib.Core.Bool.{Bool, true, false}
use mathlib.Core.List.{List, [], ◌∷◌, flat_map}
use mathlib.Core.Option.{Option, none, some, some-injective, none-ne-some}
use lib.Dec.{eqb}
use lib.ListN.{length, length-append, length-replicate}
use borrow.Author.Tests.{eqb-true, le-ltb}
use Rattle.format.specs.declared.Decimal.{Decimal}
use Rattle.format.specs.Bytes.{bytes, alike, or_default}
use Rattle.format.specs.Limits.{max_axes, max_space}
use Rattle.format.specs.Lines.{Line}
use Rattle.format.specs.Fields.{Given, descriptor_of, space_origin, space_directions, measurement_frame}
use Rattle.format.specs.Decimals.{nought}
use Rattle.format.specs.Vectors.{Direction, without, along, along_said, cons_said, all_said, said_by, enclosed, comma_parts, component_in, components_in, vector_words, vector_said, direction_said, vectors_said}
use Rattle.format.specs.Descriptors.{dimension_of, space_size_of}
use Rattle.format.specs.Header.{Entry, Outcome, refused, accepted, header}
use Rattle.format.specs.Boundary.{decimal_width}
use Rattle.format.specs.Orientation.{first_vector, origin_of, directions_of, frame_of, listed, origin_listed, origin_entry, direction_decimals, directions_listed, directions_entry, frame_listed, frame_entry}
use Rattle.format.specs.Room.{Enough, origin_room, directions_room, frame_room}
use Rattle.format.proofs.Numbered.{NumberedOutcome, header_numbered}
use Rattle.format.proofs.Oriented.{space_few, axes_few}

-- ---- what texts say, measured by m: where each of them adds at most c, k of them say at most c * k

module _ {A : Type 0} (f : List ℕ → Option A) (m : List A → ℕ) (c : ℕ) (nothing : m [] ≤ 0) (more : (w : List ℕ) (a : A) (as' : List A) → f w ≡ some a → m (a ∷ as') ≤ c + m as') where
  all_few : (ws : List (List ℕ)) (as' : List A) → all_said f ws ≡ some as' → m as' ≤ c * length ws
  unfolding all_said
  all_few [] as' e = rw (← some-injective [] as' e) (omega (arith, nothing))
  all_few (w ∷ ws) as' e = go (f w) refl (all_said f ws) refl e (all_few ws)
    where
      go : (o : Option A) → f w ≡ o → (p : Option (List A)) → all_said f ws ≡ p → cons_said o p ≡ some as'
          → ((bs : List A) → all_said f ws ≡ some bs → m bs ≤ c * length ws) → m as' ≤ c * length (w ∷ ws)
      go none q p r e h = absurd (none-ne-some _ e)
      go (some a) q none r e h = absurd (none-ne-some _ e)
      go (some a) q (some bs) r e h = rw (← some-injective (a ∷ bs) as' e) (omega (arith, more w a bs q, h bs r, mul-suc c (length ws)))

  said_few : (k : ℕ) (ws : List (List ℕ)) (as' : List A) → said_by k f ws ≡ some as' → m as' ≤ c * k
  unfolding said_by
  said_few k ws as' = go (eqb (length ws) k) refl
    where
      go : (x : Bool) → eqb (length ws) k ≡ x → (if x then all_said f ws else none) ≡ some as' → m as' ≤ c * k
      go true q e = rw (← eqb-true (length ws) k q) (all_few ws as' e)
      go false q e = absurd (none-ne-some _ e)

-- ---- in a space of n dimensions, which are few

module _ (n : ℕ) (few : n ≤ max_space) where
  vector_few : (w : List ℕ) (ds : List Decimal) → vector_said n w ≡ some ds → length ds ≤ max_space
  unfolding vector_said
  vector_few w ds = go (enclosed w)
    where
      go : (o : Option (List ℕ)) → components_in n o ≡ some ds → length ds ≤ max_space
      go none e = absurd (none-ne-some _ e)
      go (some s) e = omega (arith, few, said_few component_in length 1 (omega arith) (λ w a as' q. omega arith) n (comma_parts s) ds e)

  direction_few : (w : List ℕ) (d : Direction) → direction_said n w ≡ some d → length (direction_decimals n d) ≤ max_space
  unfolding direction_said
  direction_few w d = go (alike w (bytes "none")) (vector_said n w) refl
    where
      go : (x : Bool) (o : Option (List Decimal)) → vector_said n w ≡ o → (if x then some without else along_said o) ≡ some d → length (direction_decimals n d) ≤ max_space
      go true o q e = rw (← some-injective without d e) (omega (arith, few, length-replicate (n - 1) nought))
      go false none q e = absurd (none-ne-some _ e)
      go false (some ds) q e = rw (← some-injective (along ds) d e) (vector_few w ds q)

-- the decimals of k texts that say at most eight each
module _ {A : Type 0} (f : List ℕ → Option A) (g : A → List Decimal) (each : (w : List ℕ) (a : A) → f w ≡ some a → length (g a) ≤ max_space) where
  decimals_few : (k : ℕ) (ws : List (List ℕ)) → length (flat_map g (or_default [] (said_by k f ws))) ≤ max_space * k
  unfolding flat_map
  decimals_few k ws = go (said_by k f ws) refl
    where
      go : (o : Option (List A)) → said_by k f ws ≡ o → length (flat_map g (or_default [] o)) ≤ max_space * k
      go none q = omega arith
      go (some as') q =
          said_few f (λ xs. length (flat_map g xs)) max_space (omega arith) (λ w a bs e. omega (arith, each w a e, length-append (g a) (flat_map g bs))) k ws as' q

-- ---- an accepted header

-- the first of some vectors is not longer than all of them
first_few : (o : Option (List (List Decimal))) → length (first_vector o) ≤ length (flat_map (λ c. c) (or_default [] o))
unfolding flat_map
first_few none = omega arith
first_few (some []) = omega arith
first_few (some (v ∷ vs)) = omega (arith, length-append v (flat_map (λ c. c) vs))

module _ (file : List ℕ) {es : List Entry} {gs : List Given} {ls : List Line} (e : header file ≡ accepted es gs ls) where
  vectors_few : (k : ℕ) (t : List ℕ) → length (flat_map (λ c. c) (or_default [] (vectors_said k (space_size_of gs) t))) ≤ max_space * k
  vectors_few k t = decimals_few (vector_said (space_size_of gs)) (λ c. c) (vector_few (space_size_of gs) (space_few file e)) k (vector_words t)

  origin_few : length (origin_of gs) ≤ max_space
  unfolding origin_of
  origin_few = go (descriptor_of space_origin gs) refl
    where
      go : (o : Option (List ℕ)) → descriptor_of space_origin gs ≡ o → length (origin_of gs) ≤ max_space
      go none q = rw q (omega arith)
      go (some t) q = rw q (omega (arith, first_few (vectors_said 1 (space_size_of gs) t), vectors_few 1 t))

  directions_few : length (flat_map (direction_decimals (space_size_of gs)) (directions_of gs)) ≤ max_axes * max_space
  unfolding directions_of flat_map
  directions_few = go (descriptor_of space_directions gs) refl
    where
      go : (o : Option (List ℕ)) → descriptor_of space_directions gs ≡ o → length (flat_map (direction_decimals (space_size_of gs)) (directions_of gs)) ≤ max_axes * max_space
      go none q = rw q (omega arith)
      go (some t) q =
          let n = space_size_of gs in
          rw q (omega (arith, axes_few file e, decimals_few (direction_said n) (direction_decimals n) (direction_few n (space_few file e)) (dimension_of gs) (vector_words t)))

  frame_few : length (flat_map (λ c. c) (frame_of gs)) ≤ max_space * max_space
  unfolding frame_of flat_map
  frame_few = go (descriptor_of measurement_frame gs) refl
    where
      go : (o : Option (List ℕ)) → descriptor_of measurement_frame gs ≡ o → length (flat_map (λ c. c) (frame_of gs)) ≤ max_space * max_space
      go none q = rw q (omega arith)
      go (some t) q = rw q (omega (arith, space_few file e, vectors_few (space_size_of gs) t))

-- ---- the calls

listed_long : (ds : List Decimal) (list : List ℕ) → length ds * decimal_width ≤ length list → Enough (listed ds list).0.refusal
listed_long ds list h = rw (le-ltb (length list / decimal_width) (length ds) (omega arith)) (λ e. omega arith)

module _ (file list : List ℕ) where
  pub origin_enough : origin_room ≤ length list → Enough (origin_entry file list).0.refusal
  origin_enough h = go (header file) refl (header_numbered file)
    where
      go : (o : Outcome) → header file ≡ o → NumberedOutcome o → Enough (origin_listed list o).0.refusal
      go (refused r) e n = λ q. omega arith
      go (accepted es gs ls) e n = listed_long (origin_of gs) list (omega (arith, h, origin_few file e))

  pub directions_enough : directions_room ≤ length list → Enough (directions_entry file list).0.refusal
  directions_enough h = go (header file) refl (header_numbered file)
    where
      go : (o : Outcome) → header file ≡ o → NumberedOutcome o → Enough (directions_listed list o).0.refusal
      go (refused r) e n = λ q. omega arith
      go (accepted es gs ls) e n = listed_long (flat_map (direction_decimals (space_size_of gs)) (directions_of gs)) list (omega (arith, h, directions_few file e))

  pub frame_enough : frame_room ≤ length list → Enough (frame_entry file list).0.refusal
  frame_enough h = go (header file) refl (header_numbered file)
    where
      go : (o : Outcome) → header file ≡ o → NumberedOutcome o → Enough (frame_listed list o).0.refusal
      go (refused r) e n = λ q. omega arith
      go (accepted es gs ls) e n = listed_long (flat_map (λ c. c) (frame_of gs)) list (omega (arith, h, frame_few file e))
