-- Laws of the calls: what they answer is what the header says, by what is told of the field.
-- Assumes nothing.
use Rattle.std.specs.Prelude.{if◌then◌else◌}
use Prim.Native.Nat.{ℕ, suc, ◌*◌, ◌/◌, ◌≤◌, ◌<◌}
use native.Mathlib.Nat.{zero-add}
use native.Mathlib.Omega.{arith}
use mathlib.Core.Path.{◌≡◌, refl, sym, ap, ◌∙◌}
use mathlib.Core.Bool.{Bool, true, false}
use mathlib.Core.List.{List, [], ◌∷◌, map, flat_map}
use mathlib.Core.Option.{Option, none, some}
use lib.Dec.{eqb, ltb}
use lib.ListN.{length, take, get_or, set, replicate, length-map, length-set, get_or-replicate}
use lib.Seq.{sets, sets-eq, length-sets, take_all, length-take-le, get_or-set_same, get_or-set_other}
use borrow.Author.Tests.{lt-ltb, le-ltb, eqb-true, eqb-false}
use Rattle.format.specs.declared.Decimal.{Decimal}
use Rattle.format.specs.declared.Refusal.{Refusal}
use Rattle.format.specs.declared.VectorAnswer.{VectorAnswer}
use Rattle.format.specs.declared.reason.Refused.{Refused}
use Rattle.format.specs.Reasons.{refusal_of}
use Rattle.std.specs.Prelude.{Ok, Err, Some, None}
use Rattle.format.specs.declared.CountAnswer.{CountAnswer}
use Rattle.format.specs.Bytes.{is_some, or_default, over}
use Rattle.format.specs.Refusals.{lent_too_short, bad_coordinates, refusal, fine}
use Rattle.format.specs.Lines.{Line}
use Rattle.format.specs.Fields.{Given, descriptor_of, field_at, space_origin, space_directions, measurement_frame}
use Rattle.format.specs.Spaces.{max_space}
use Rattle.format.specs.Decimals.{marked, no_direction, nought}
use Rattle.format.specs.Vectors.{Direction, without, along, vector_words, vector_said, direction_said, vectors_said, directions_said}
use Rattle.format.specs.Columns.{eight, column, matrix}
use Rattle.format.specs.Descriptors.{may_describe, dimension_of, space_size_of}
use Rattle.format.specs.Header.{Entry, Outcome, refused, accepted, header}
use Rattle.format.specs.Calls.{no_samples}
use Rattle.format.specs.Boundary.{decimals_bytes}
use Rattle.format.specs.Orientation.{first_vector, origin_of, directions_of, frame_of, no_vector, origin_in, origin_call, direction_in, direction_call, frame_in, frame_call, origin_listed, origin_entry, direction_decimals, directions_listed, directions_entry, frame_listed, frame_entry}
use Rattle.format.proofs.Boundary.{length_decimals}
use Rattle.format.proofs.Oriented.{header_described, space_few}
use Rattle.read_vectors.specs.Outside.{part}
use Rattle.read_vectors.specs.Answers.{frame_said}
use Rattle.read_vectors.proofs.ListLaws.{length_matrix, frame_of_lem}
use Rattle.read_orientation.specs.declared.Column.{Column}
use Rattle.read_orientation.specs.declared.place.Field.{Field}
use Rattle.read_orientation.specs.declared.place.Said.{Said}
use Rattle.read_orientation.specs.Told.{Lies, Says, direction_parts, direction_told, vector_answered, joined, directions_in, columns_in, Columns}
use Rattle.read_orientation.proofs.SaidLaws.{there, said, said_flat, length_eight, take_eight, vector_length, vector_taken, direction_taken, direction_told_lem}
use Rattle.read_orientation.proofs.PlaceLaws.{lies, absent}
use Rattle.read_orientation.proofs.StoreLaws.{joined_flat, joined_length}

-- ---- the origin

-- the only vector
module _ (n : ℕ) (t : List ℕ) (h : is_some (vectors_said 1 n t) ≡ true) where
  first_is : vector_said n (get_or (vector_words t) 0 []) ≡ some (first_vector (vectors_said 1 n t))
  first_is =
      let c = there (vectors_said 1 n t) h in
      let s = said (vector_said n) 1 (vector_words t) c.value c.is in
      rw c.is (go c.value s.many (s.each 0 [] (omega arith)))
    where
      go : (cs : List (List Decimal)) → length cs ≡ 1 → vector_said n (get_or (vector_words t) 0 []) ≡ some (get_or cs 0 []) → vector_said n (get_or (vector_words t) 0 []) ≡ some (first_vector (some cs))
      go [] l e = absurd (omega arith)
      go (v ∷ vs) l e = e

  first_length : length (first_vector (vectors_said 1 n t)) ≡ n
  first_length = vector_length n (get_or (vector_words t) 0 []) (first_vector (vectors_said 1 n t)) first_is

module _ (file : List ℕ) where
  pub origin_refused : (r : Refused) → header file ≡ refused (refusal_of r) → vector_answered (Err r) ≡ origin_call file
  origin_refused r e = sym (ap origin_in e)

  module _ {s : Said} (w : Says file space_origin s) where
    pub origin_none : s.field ≡ None → vector_answered (Ok None) ≡ origin_call file
    origin_none q = rw (w.is, absent file space_origin w.fields w.field_is q)

    pub origin_given : {x : Field} → s.field ≡ Some x → {ds : List Decimal} → ds ≡ column (or_default [] (vector_said x.size (get_or (vector_words (part x.from x.to file)) 0 [])))
        → vector_answered (Ok (Some (record { count = x.size; parts = ds }))) ≡ origin_call file
    unfolding origin_of may_describe
    origin_given {x} q e =
        let l = lies w.field_is q in
        let n = space_size_of w.fields in
        rw (e, l.size_is, w.is, l.text, l.given, first_is n l.descriptor l.described, first_length n l.descriptor l.described)

-- it has at most eight components, and these are the first of the answer
module _ (file : List ℕ) {es : List Entry} {gs : List Given} {ls : List Line} (e : header file ≡ accepted es gs ls) where
  origin_few : length (origin_of gs) ≤ max_space
  unfolding origin_of may_describe
  origin_few = go (descriptor_of space_origin gs) refl
    where
      go : (o : Option (List ℕ)) → descriptor_of space_origin gs ≡ o → length (origin_of gs) ≤ max_space
      go none q = rw q (omega arith)
      go (some t) q = rw (q, first_length (space_size_of gs) t (header_described file e space_origin t q).described) (space_few file e)

-- ---- a direction

module _ (file : List ℕ) (axis : ℕ) where
  pub direction_refused : (r : Refused) → header file ≡ refused (refusal_of r) → vector_answered (Err r) ≡ direction_call file axis
  direction_refused r e = sym (ap (direction_in axis) e)

  module _ {s : Said} (w : Says file space_directions s) where
    pub direction_outside : s.axes ≤ axis → no_vector (refusal bad_coordinates) ≡ direction_call file axis
    direction_outside h = rw (w.is, le-ltb axis (dimension_of w.fields) (omega (arith, h, w.axes_are)))

    pub direction_none : axis < s.axes → s.field ≡ None → vector_answered (Ok None) ≡ direction_call file axis
    direction_none h q = rw (w.is, lt-ltb axis (dimension_of w.fields) (omega (arith, h, w.axes_are)), absent file space_directions w.fields w.field_is q)

    pub direction_given : axis < s.axes → {x : Field} → s.field ≡ Some x → {v : Column} → v ≡ direction_told x.size (get_or (vector_words (part x.from x.to file)) axis [])
        → vector_answered (Ok (Some v)) ≡ direction_call file axis
    unfolding directions_of may_describe
    direction_given h {x} q e =
        let l = lies w.field_is q in
        let n = space_size_of w.fields in
        let k = dimension_of w.fields in
        let a : axis < k = omega (arith, h, w.axes_are) in
        let c = there (directions_said k n l.descriptor) l.described in
        let s = said (direction_said n) k (vector_words l.descriptor) c.value c.is in
        rw (e, l.size_is, w.is, l.text, lt-ltb axis k a, l.given, c.is) (direction_told_lem n (get_or (vector_words l.descriptor) axis []) (get_or c.value axis without) (s.each axis without a))

-- ---- the frame

module _ (file : List ℕ) where
  pub frame_refused : (r : Refused) → header file ≡ refused (refusal_of r) → matrix [] ≡ frame_call file
  frame_refused r e = sym (ap frame_in e)

  module _ {s : Said} (w : Says file measurement_frame s) where
    pub frame_none : s.field ≡ None → matrix [] ≡ frame_call file
    unfolding frame_of
    frame_none q = rw (w.is, absent file measurement_frame w.fields w.field_is q)

    pub frame_given : {x : Field} → s.field ≡ Some x → frame_said x.size (part x.from x.to file) ≡ frame_call file
    unfolding frame_of may_describe
    frame_given {x} q =
        let l = lies w.field_is q in
        let n = space_size_of w.fields in
        let c = there (vectors_said n n l.descriptor) l.described in
        rw (l.size_is, w.is, l.text, l.given, c.is) (frame_of_lem n n l.descriptor c.value c.is)

-- ---- in lent bytes

-- the decimals ds stored, or 22; r is the refusal of the header
abbrev stored : Refusal → List Decimal → List ℕ → CountAnswer × List ℕ
stored r ds list =
    if ltb (length list / 16) (length ds) then (no_samples (refusal lent_too_short), list)
    else (record { refusal = r; count = length ds }, over (decimals_bytes ds) list)

-- so the answer is made of n decimals
pub record Stores (r : Refusal) (ds : List Decimal) (n : ℕ) (list : List ℕ) (answer : CountAnswer × List ℕ) : Type 0 where
  pub many : length ds ≡ n
  pub is : stored r ds list ≡ answer

-- the lent bytes are too short, or they are not
module _ {r : Refusal} {ds : List Decimal} {n : ℕ} {list : List ℕ} {answer : CountAnswer × List ℕ} (w : Stores r ds n list answer) where
  pub lent_short : length list / 16 < n → ◌≡◌ {A = CountAnswer × List ℕ} (no_samples (refusal lent_too_short), list) answer
  lent_short h = rw (← w.is, lt-ltb (length list / 16) (length ds) (omega (arith, w.many)))

  pub lent_enough : n ≤ length list / 16 → (after : List ℕ) → after ≡ sets list 0 (decimals_bytes ds) → ◌≡◌ {A = CountAnswer × List ℕ} (record { refusal = r; count = n }, after) answer
  lent_enough h after q =
      rw (
        ← w.is,
        le-ltb (length list / 16) (length ds) (omega (arith, w.many)),
        q,
        ← w.many,
        sets-eq (decimals_bytes ds) list 0 (omega (arith, w.many, length_decimals ds)),
        zero-add,
      )

stored_none : (r : Refusal) (list : List ℕ) → stored r [] list ≡ (no_samples r, list)
unfolding decimals_bytes
stored_none r list = rw (le-ltb (length list / 16) 0 (omega arith))

-- ---- the origin in lent bytes

module _ (file list : List ℕ) where
  origin_parts : (o : Outcome) → header file ≡ o
      → ((origin_in o).count ≤ 8) × (length (origin_in o).parts ≡ 8) × (stored (origin_in o).refusal (take (origin_in o).count (origin_in o).parts) list ≡ origin_listed list o)
  unfolding origin_of
  origin_parts (refused r) e = (omega arith, length_eight nought [], stored_none r list)
  origin_parts (accepted es gs ls) e = go (descriptor_of space_origin gs) refl
    where
      o : Outcome
      o = accepted es gs ls

      go : (d : Option (List ℕ)) → descriptor_of space_origin gs ≡ d
          → ((origin_in o).count ≤ 8) × (length (origin_in o).parts ≡ 8) × (stored (origin_in o).refusal (take (origin_in o).count (origin_in o).parts) list ≡ origin_listed list o)
      go none q = rw q (omega arith, length_eight nought [], refl)
      go (some t) q =
          let ds = origin_of gs in
          let few = origin_few file e in
          let first : take (length ds) (column ds) ≡ ds = take_eight nought ds (length ds) refl few in
          let g : is_some (descriptor_of space_origin gs) ≡ true = rw q in
          rw g (few, length_eight nought ds, rw first)

  module _ (v : VectorAnswer) (e : v ≡ origin_call file) where
    parts : (v.count ≤ 8) × (length v.parts ≡ 8) × (stored v.refusal (take v.count v.parts) list ≡ origin_entry file list)
    parts = rw e (origin_parts (header file) refl)

    -- no component, nothing stored
    pub origin_nothing : v.count ≡ 0 → ◌≡◌ {A = CountAnswer × List ℕ} (no_samples v.refusal, list) (origin_entry file list)
    origin_nothing z = sym (stored_none v.refusal list) ∙ (ap (λ (n : ℕ). stored v.refusal (take n v.parts) list) (sym z) ∙ parts.2)

    pub origin_fits : v.count ≤ 8
    origin_fits = parts.0

    pub origin_stores : Stores v.refusal (take v.count v.parts) v.count list (origin_entry file list)
    origin_stores = record { many = length-take-le v.count v.parts (omega (arith, parts.0, parts.1)); is = parts.2 }

-- ---- directions in lent bytes

direction_eight : (o : Option Direction) → length (direction_parts o) ≡ 8
direction_eight none = length_eight nought []
direction_eight (some without) = length_eight nought (marked no_direction ∷ [])
direction_eight (some (along ds)) = length_eight nought ds

-- n decimals for each word
pub direction_long : (n : ℕ) (ws : List (List ℕ)) → n ≤ 8 → (i : ℕ) → length (take n (direction_parts (direction_said n (get_or ws i [])))) ≡ n
direction_long n ws h i = length-take-le n (direction_parts (direction_said n (get_or ws i []))) (omega (arith, direction_eight (direction_said n (get_or ws i []))))

module _ (file list : List ℕ) where
  pub directions_refused : (r : Refused) → header file ≡ refused (refusal_of r) → ◌≡◌ {A = CountAnswer × List ℕ} (no_samples (refusal_of r), list) (directions_entry file list)
  directions_refused r e = sym (ap (directions_listed list) e)

  module _ {s : Said} (w : Says file space_directions s) where
    pub directions_none : s.field ≡ None → ◌≡◌ {A = CountAnswer × List ℕ} (no_samples fine, list) (directions_entry file list)
    unfolding directions_of flat_map
    directions_none q = sym (stored_none fine list) ∙ rw (w.is, absent file space_directions w.fields w.field_is q)

    module _ {x : Field} (q : s.field ≡ Some x) where
      directions_field : Lies file space_directions w.fields x
      directions_field = lies w.field_is q

      abbrev directions_told : List Decimal
      directions_told = directions_in x.size (vector_words (part x.from x.to file)) s.axes

      directions_stored : stored fine directions_told list ≡ directions_entry file list
      unfolding directions_of may_describe joined flat_map field_at
      directions_stored =
          let n = space_size_of w.fields in
          let k = dimension_of w.fields in
          let t = directions_field.descriptor in
          let ws = vector_words t in
          let c = there (directions_said k n t) directions_field.described in
          let s = said (direction_said n) k ws c.value c.is in
          let g : List ℕ → List Decimal = λ u. take n (direction_parts (direction_said n u)) in
          let all : directions_in n ws k ≡ flat_map (direction_decimals n) c.value =
          joined_flat g ws [] k (omega (arith, s.words)) ∙ ap (flat_map g) (take_all k ws (omega (arith, s.words)))
          ∙ said_flat (direction_said n) g (direction_decimals n) (λ u b h. direction_taken n u b (directions_field.not_flat refl) (space_few file w.is) h) k ws c.value c.is
          in
          rw (directions_field.size_is, w.axes_are, w.is, directions_field.text, directions_field.given, c.is, all)

      directions_many : length directions_told ≡ x.size * s.axes
      directions_many =
          let n = x.size in
          let ws = vector_words (part x.from x.to file) in
          joined_length (λ i. take n (direction_parts (direction_said n (get_or ws i [])))) n s.axes (λ i h. direction_long n ws directions_field.few i)

      pub directions_stores : Stores fine directions_told (x.size * s.axes) list (directions_entry file list)
      directions_stores = record { many = directions_many; is = directions_stored }

-- ---- the frame in lent bytes

-- each column of a matrix has eight entries

abbrev Eights : List (List Decimal) → Type 0
Eights m = (c : ℕ) → c < length m → length (get_or m c []) ≡ 8

eights_set : (m : List (List Decimal)) (i : ℕ) (ds : List Decimal) → Eights m → Eights (set m i (column ds))
eights_set m i ds h c l = go (eqb c i) refl
  where
    within : c < length m
    within = omega (arith, l, length-set m i (column ds))

    go : (b : Bool) → eqb c i ≡ b → length (get_or (set m i (column ds)) c []) ≡ 8
    go true e = let q = eqb-true c i e in rw (q, get_or-set_same m i (column ds) [] (omega (arith, within, q))) (length_eight nought ds)
    go false e = rw (get_or-set_other m i c (column ds) [] (eqb-false c i e)) (h c within)

eights_sets : (cs m : List (List Decimal)) (i : ℕ) → Eights m → Eights (sets m i (map column cs))
eights_sets [] m i h = h
eights_sets (ds ∷ cs) m i h = eights_sets cs (set m i (column ds)) (suc i) (eights_set m i ds h)

matrix_columns : (cs : List (List Decimal)) → Columns (matrix cs)
unfolding eight
matrix_columns cs c l =
    eights_sets cs (replicate 8 (column [])) 0 (λ i h. rw (get_or-replicate 8 i (column []) [] h) (length_eight nought [])) c (omega (arith, l, length-sets (replicate 8 (column [])) 0 (map column cs)))

pub frame_columns : (n : ℕ) (t : List ℕ) (m : List (List Decimal)) → m ≡ frame_said n t → Columns m
frame_columns n t m e = rw e (matrix_columns (map (λ w. or_default [] (vector_said n w)) (vector_words t)))

flat_columns : (n : ℕ) (v : List ℕ → List Decimal) (ws : List (List ℕ)) → flat_map (take n) (map column (map v ws)) ≡ flat_map (λ w. take n (column (v w))) ws
unfolding flat_map
flat_columns n v [] = refl
flat_columns n v (w ∷ ws) = rw (flat_columns n v ws)

module _ (file list : List ℕ) where
  pub frame_not_stored : (r : Refused) → header file ≡ refused (refusal_of r) → ◌≡◌ {A = CountAnswer × List ℕ} (no_samples (refusal_of r), list) (frame_entry file list)
  frame_not_stored r e = sym (ap (frame_listed list) e)

  module _ {s : Said} (w : Says file measurement_frame s) where
    pub frame_nothing : s.field ≡ None → ◌≡◌ {A = CountAnswer × List ℕ} (no_samples fine, list) (frame_entry file list)
    unfolding frame_of flat_map
    frame_nothing q = sym (stored_none fine list) ∙ rw (w.is, absent file measurement_frame w.fields w.field_is q)

    module _ {x : Field} (q : s.field ≡ Some x) where
      frame_field : Lies file measurement_frame w.fields x
      frame_field = lies w.field_is q

      abbrev frame_told : List (List Decimal)
      frame_told = frame_said x.size (part x.from x.to file)

      frame_stored : stored fine (columns_in x.size frame_told x.size) list ≡ frame_entry file list
      unfolding frame_of may_describe joined flat_map
      frame_stored =
          let n = space_size_of w.fields in
          let t = frame_field.descriptor in
          let ws = vector_words t in
          let c = there (vectors_said n n t) frame_field.described in
          let s = said (vector_said n) n ws c.value c.is in
          let v : List ℕ → List Decimal = λ u. or_default [] (vector_said n u) in
          let few = space_few file w.is in
          let long : length (map column (map v ws)) ≡ n = length-map (map v ws) column ∙ length-map ws v ∙ s.words in
          let all : columns_in n (frame_said n t) n ≡ flat_map (λ u. u) c.value =
          joined_flat (take n) (frame_said n t) [] n (omega (arith, length_matrix (map v ws)))
          ∙ ap (flat_map (take n)) (take_eight (column []) (map column (map v ws)) n long few)
          ∙ flat_columns n v ws
          ∙ said_flat (vector_said n) (λ u. take n (column (v u))) (λ u. u) (λ u b h. vector_taken n u b few h) n ws c.value c.is
          in
          rw (frame_field.size_is, w.is, frame_field.text, frame_field.given, c.is, all)

      frame_many : length (columns_in x.size frame_told x.size) ≡ x.size * x.size
      frame_many =
          let n = x.size in
          let few = frame_field.few in
          let long = frame_columns n (part x.from x.to file) frame_told refl in
          joined_length (λ c. take n (get_or frame_told c [])) n n (λ c h. length-take-le n (get_or frame_told c []) (omega (arith, few, long c (omega (arith, h, few)))))

      pub frame_stores : Stores fine (columns_in x.size frame_told x.size) (x.size * x.size) list (frame_entry file list)
      frame_stores = record { many = frame_many; is = frame_stored }
