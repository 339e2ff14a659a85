-- Vectors, frames and directions that are written: what is read from their text, exactly.
-- Assumes nothing.
use Rattle.std.specs.Prelude.{if◌then◌else◌}
use Prim.Native.Nat.{ℕ, zero, suc, ◌≤◌}
use native.Mathlib.Omega.{arith}
use mathlib.Core.Path.{◌≡◌, refl, ap, ◌∙◌}
use mathlib.Core.Bool.{Bool, true, false, ◌&&◌, and-true}
use mathlib.Core.List.{List, [], ◌∷◌, ◌++◌, map}
use mathlib.Core.Option.{Option, none, some}
use lib.Dec.{eqb, ltb}
use lib.ListN.{length, length-map}
use borrow.Author.Tests.{lt-ltb, eqb-true, ne_eqb}
use Rattle.format.specs.declared.Decimal.{Decimal}
use Rattle.format.specs.Bytes.{bytes, alike, CLOSE, COMMA}
use Rattle.format.specs.Words.{trim_front, trim_end}
use Rattle.format.specs.Decimals.{digits_of, after_digits, numeral_value, component}
use Rattle.format.specs.Vectors.{without, along, part_or_join, vector_words, closed, enclosed, comma_parts, cons_said, all_said, said_by, component_in, vector_said, along_said, direction_said, vectors_said, directions_said}
use Rattle.format.specs.HeaderWriter.{component_text, joined, vector_text, direction_text, origin_text, frame_text, directions_text}
use Rattle.format.proofs.Bytes.{and_left, and_right, and_both}
use Rattle.theorem_orientation.specs.ReadBack.{kept, each, each_of, kept_vector, kept_direction, meant, meant_direction, ReadsBack}
use Rattle.theorem_orientation.proofs.Components.{Exactly, Itself, Keeping, reads_back, component_exactly, kept_itself, component_taken}
use Rattle.theorem_orientation.proofs.Taken.{nothing}
use Rattle.theorem_orientation.proofs.Joined.{comma_parts_lem, trimmed, vector_words_lem, direction_words}

-- ---- lists of texts

-- where each is kept, each means itself
pub each_itself : {A : Type 0} (keeps : A → Bool) (means : A → A) → Itself keeps means → Itself (each keeps) (map means)
unfolding each
each_itself keeps means same [] h = refl
each_itself keeps means same (a ∷ as') h =
    rw (same a (and_left (keeps a) (each keeps as') h), each_itself keeps means same as' (and_right (keeps a) (each keeps as') h))

module _ {A : Type 0} (text : A → List ℕ) (said : List ℕ → Option A) (keeps : A → Bool) (means : A → A) where
  -- each of the texts that are written
  cons_if : (s t : Bool) (a : A) (as' : List A)
      → cons_said (if s then some a else none) (if t then some as' else none) ≡ (if s && t then some (a ∷ as') else none)
  cons_if true true a as' = refl
  cons_if true false a as' = refl
  cons_if false t a as' = refl

  all_exactly : Exactly text said keeps means → (as' : List A)
      → all_said said (map text as') ≡ (if each keeps (map means as') then some (map means as') else none)
  unfolding all_said each
  all_exactly exact [] = refl
  all_exactly exact (a ∷ as') = rw (exact a, all_exactly exact as') (cons_if (keeps (means a)) (each keeps (map means as')) (means a) (map means as'))

  -- where there are n
  by_exactly : (n : ℕ) → Exactly text said keeps means → (as' : List A)
      → said_by n said (map text as') ≡ (if each_of n keeps (map means as') then some (map means as') else none)
  unfolding said_by
  by_exactly n exact as' = rw (length-map, length-map, all_exactly exact as') (go (eqb (length as') n))
    where
      go : (t : Bool) → (if t then (if each keeps (map means as') then some (map means as') else none) else none)
          ≡ (if t && each keeps (map means as') then some (map means as') else none)
      go true = refl
      go false = refl

  of_itself : (n : ℕ) → Itself keeps means → Itself (each_of n keeps) (map means)
  of_itself n same as' h = each_itself keeps means same as' (and_right (eqb (length as') n) (each keeps as') h)

-- a list of which what it means is kept has as many entries
pub count_kept : {A : Type 0} (keeps : A → Bool) (means : A → A) (n : ℕ) (as' : List A) → each_of n keeps (map means as') ≡ true → length as' ≡ n
count_kept keeps means n as' h =
    let e = and_left (eqb (length (map means as')) n) (each keeps (map means as')) h in
    eqb-true (length as') n (rw length-map at e)

module _ {A : Type 0} (said : List ℕ → Option A) (keeps : A → Bool) (taken : Keeping said keeps) where
  -- what is read from each of the texts
  all_taken : (ws : List (List ℕ)) (as' : List A) → all_said said ws ≡ some as' → (each keeps as' ≡ true) × (length as' ≡ length ws)
  unfolding all_said each
  all_taken [] as' h = let e : as' ≡ [] = cc in rw e (refl, refl)
  all_taken (w ∷ ws) as' h = go (said w) (all_said said ws) refl refl h (λ bs. all_taken ws bs)
    where
      go : (o : Option A) (p : Option (List A)) → said w ≡ o → all_said said ws ≡ p → cons_said o p ≡ some as'
          → ((bs : List A) → all_said said ws ≡ some bs → (each keeps bs ≡ true) × (length bs ≡ length ws))
          → (each keeps as' ≡ true) × (length as' ≡ length (w ∷ ws))
      go none p i j k on = absurd (nothing k)
      go (some a) none i j k on = absurd (nothing k)
      go (some a) (some bs) i j k on =
          let e : as' ≡ a ∷ bs = cc in
          let r = on bs j in
          rw e (and_both (keeps a) (each keeps bs) (taken w a i) r.0, ap suc r.1)

  -- as many as there are texts
  by_taken : (n : ℕ) (ws : List (List ℕ)) (as' : List A) → said_by n said ws ≡ some as' → (each_of n keeps as' ≡ true) × (length ws ≡ n)
  unfolding said_by
  by_taken n ws as' h = go (eqb (length ws) n) refl
    where
      go : (t : Bool) → eqb (length ws) n ≡ t → (each_of n keeps as' ≡ true) × (length ws ≡ n)
      go true q =
          let r = all_taken ws as' (rw q at h) in
          (and_both (eqb (length as') n) (each keeps as') (rw r.1 q) r.0, eqb-true (length ws) n q)
      go false q = absurd (nothing (rw q at h))

-- ---- a vector

closed_end : (s : List ℕ) → closed (s ++ CLOSE ∷ []) ≡ some s
unfolding closed
closed_end [] = refl
closed_end (b ∷ []) = refl
closed_end (b ∷ c ∷ s) = rw (closed_end (c ∷ s))

component_in_lem : Exactly component_text component_in kept meant
component_in_lem d = ap component (trimmed d) ∙ component_exactly d

-- without components nothing is kept, and nothing is read
none_kept : (n : ℕ) → kept_vector n [] ≡ false
unfolding each
none_kept zero = refl
none_kept (suc n) = rw (lt-ltb 0 (suc n) (omega arith), ne_eqb 0 (suc n) (λ e. omega arith))

-- with one or more the dimension is not 0
some_kept : (n : ℕ) (d : Decimal) (ds : List Decimal) → kept_vector n (d ∷ ds) ≡ each_of n kept (d ∷ ds)
some_kept zero d ds = rw (ne_eqb (suc (length ds)) 0 (λ e. omega arith))
some_kept (suc n) d ds = rw (lt-ltb 0 (suc n) (omega arith))

pub empty_vector : (n : ℕ) → vector_said n (vector_text []) ≡ none
unfolding vector_said vector_text joined closed comma_parts said_by all_said trim_front trim_end component alike digits_of after_digits numeral_value
empty_vector n = go (eqb 1 n)
  where
    go : (t : Bool) → ◌≡◌ {A = Option (List Decimal)} (if t then none else none) none
    go true = refl
    go false = refl

pub vector_exactly : (n : ℕ) → Exactly vector_text (vector_said n) (kept_vector n) (map meant)
unfolding vector_said vector_text
vector_exactly n [] = rw (none_kept n) (empty_vector n)
vector_exactly n (d ∷ ds) =
    rw (
      closed_end (joined COMMA (map component_text (d ∷ ds))),
      comma_parts_lem d ds,
      by_exactly component_text component_in kept meant n component_in_lem (d ∷ ds),
      some_kept n (meant d) (map meant ds),
    )

pub vector_itself : (n : ℕ) → Itself (kept_vector n) (map meant)
vector_itself n ds h = of_itself component_text component kept meant n kept_itself ds (and_right (ltb 0 n) (each_of n kept ds) h)

-- there is always a part
part_there : (s : List ℕ) → 1 ≤ length (comma_parts s)
unfolding comma_parts
part_there [] = omega arith
part_there (b ∷ s) = go (eqb b COMMA) (comma_parts s)
  where
    go : (t : Bool) (ps : List (List ℕ)) → 1 ≤ length (part_or_join t b ps)
    go true ps = omega arith
    go false [] = omega arith
    go false (p ∷ ps) = omega arith

pub vector_taken : (n : ℕ) → Keeping (vector_said n) (kept_vector n)
unfolding vector_said
vector_taken n w ds h = go (enclosed w) refl
  where
    go : (o : Option (List ℕ)) → enclosed w ≡ o → kept_vector n ds ≡ true
    go none q = absurd (nothing (rw q at h))
    go (some s) q =
        let r = by_taken component_in kept (λ p d i. component_taken (trim_end (trim_front p)) d i) n (comma_parts s) ds (rw q at h) in
        and_both (ltb 0 n) (each_of n kept ds) (lt-ltb 0 n (omega (arith, part_there s, r.1))) r.0

pub vector_back : (n : ℕ) → ReadsBack vector_text (vector_said n) (kept_vector n) (map meant)
vector_back n = reads_back vector_text (vector_said n) (kept_vector n) (map meant) (vector_exactly n) (vector_itself n) (vector_taken n)

-- ---- frames

pub frame_exactly : (k n : ℕ) → Exactly frame_text (vectors_said k n) (each_of k (kept_vector n)) (map (map meant))
frame_exactly k n cs = rw (vector_words_lem cs) (by_exactly vector_text (vector_said n) (kept_vector n) (map meant) k (vector_exactly n) cs)

pub frame_back : (k n : ℕ) → ReadsBack frame_text (vectors_said k n) (each_of k (kept_vector n)) (map (map meant))
frame_back k n =
    reads_back frame_text (vectors_said k n) (each_of k (kept_vector n)) (map (map meant)) (frame_exactly k n)
    (of_itself vector_text (vector_said n) (kept_vector n) (map meant) k (vector_itself n))
    (λ t cs h. (by_taken (vector_said n) (kept_vector n) (vector_taken n) k (vector_words t) cs h).0)

-- an origin is read as a frame of one vector
pub origin_exactly : (n : ℕ) (ds : List Decimal) → vectors_said 1 n (origin_text ds) ≡ (if kept_vector n (map meant ds) then some (map meant ds ∷ []) else none)
unfolding joined each
origin_exactly n ds = frame_exactly 1 n (ds ∷ []) ∙ rw (and-true (kept_vector n (map meant ds)))

-- ---- directions

direction_exactly : (n : ℕ) → Exactly direction_text (direction_said n) (kept_direction n) meant_direction
unfolding direction_said alike vector_text
direction_exactly n without = refl
direction_exactly n (along ds) = rw (vector_exactly n ds) (go (kept_vector n (map meant ds)))
  where
    go : (t : Bool) → along_said (if t then some (map meant ds) else none) ≡ (if t then some (along (map meant ds)) else none)
    go true = refl
    go false = refl

direction_itself : (n : ℕ) → Itself (kept_direction n) meant_direction
direction_itself n without h = refl
direction_itself n (along ds) h = ap along (vector_itself n ds h)

direction_taken : (n : ℕ) → Keeping (direction_said n) (kept_direction n)
unfolding direction_said
direction_taken n w without h = refl
direction_taken n w (along ds) h = go (alike w (bytes "none")) refl (vector_said n w) refl
  where
    go : (t : Bool) → alike w (bytes "none") ≡ t → (o : Option (List Decimal)) → vector_said n w ≡ o → kept_vector n ds ≡ true
    go true q o i = let e : some without ≡ some (along ds) = rw q at h in cc
    go false q none i = absurd (nothing (rw (q, i) at h))
    go false q (some es) i =
        let e : some (along es) ≡ some (along ds) = rw (q, i) at h in
        let f : es ≡ ds = cc in
        vector_taken n w ds (i ∙ ap some f)

pub directions_exactly : (k n : ℕ) → Exactly directions_text (directions_said k n) (each_of k (kept_direction n)) (map meant_direction)
directions_exactly k n ds =
    rw (direction_words ds) (by_exactly direction_text (direction_said n) (kept_direction n) meant_direction k (direction_exactly n) ds)

pub directions_back : (k n : ℕ) → ReadsBack directions_text (directions_said k n) (each_of k (kept_direction n)) (map meant_direction)
directions_back k n =
    reads_back directions_text (directions_said k n) (each_of k (kept_direction n)) (map meant_direction) (directions_exactly k n)
    (of_itself direction_text (direction_said n) (kept_direction n) meant_direction k (direction_itself n))
    (λ t ds h. (by_taken (direction_said n) (kept_direction n) (direction_taken n) k (vector_words t) ds h).0)
