-- Laws of one vector: its brackets, and what is left of it after i components.
-- Assumes nothing.
use Rattle.std.specs.Prelude.{if◌then◌else◌}
use Prim.Native.Nat.{ℕ, zero, suc, ◌+◌, ◌-◌, ◌≤◌, ◌<◌}
use native.Mathlib.Numerals.{add-one}
use native.Mathlib.Omega.{arith}
use mathlib.Core.Path.{◌≡◌, refl, sym, ap, ◌∙◌}
use mathlib.Core.Bool.{Bool, true, false, ◌&&◌, false≢true}
use mathlib.Core.List.{List, [], ◌∷◌}
use mathlib.Core.Option.{Option, none, some}
use lib.Dec.{eqb, leb, ltb}
use lib.ListN.{length, take, drop, get_or, set, drop_of_length-le}
use lib.Seq.{sets, drop-drop}
use borrow.Author.Tests.{leb-true, leb-false, ltb-true, ltb-false, le-leb, lt-leb}
use Rattle.format.specs.declared.Decimal.{Decimal}
use Rattle.format.specs.Bytes.{bytes, alike, is_some, onto, OPEN, CLOSE, COMMA}
use Rattle.format.specs.Words.{join_first, trim_front, trim_end}
use Rattle.format.specs.Vectors.{part_or_join, closed, enclosed, comma_parts, cons_said, said_by, component_in, vector_said, Direction, without, along, along_said, direction_said}
use Rattle.format.proofs.Descriptors.{take_trimmed}
use Rattle.read_text.specs.Places.{before}
use Rattle.read_text.proofs.Places.{drop_next}
use Rattle.std.specs.Prelude.{Option as Maybe}
use Rattle.std.specs.Prelude.{Some, None}
use Rattle.format.specs.Decimals.{marked, no_direction}
use Rattle.read_decimals.specs.Components.{component_told}
use Rattle.read_vectors.specs.declared.vector.Vector.{Vector}
use Rattle.format.specs.Columns.{eight, column}
use Rattle.read_vectors.specs.Answers.{vector_answer, direction_answer, vector_column, direction_column}
use Rattle.read_text.proofs.Said.{said_done, said_short, said_long, said_cons}
use Rattle.read_vectors.proofs.WordLaws.{all_after, drop_leading}

-- ---- a component

-- its text, as it is cut out of what stands between two commas
pub part_text : (p : List ℕ) (from n : ℕ) → from ≡ length p - length (trim_front p) → n ≡ length (trim_end (take (length p - from) (drop from p)))
    → take (from + n - from) (drop from p) ≡ trim_end (trim_front p)
part_text p from n e i =
    let d : drop from p ≡ trim_front p = rw e (drop_leading p) in
    let j : n ≡ length (trim_end (trim_front p)) = rw (all_after p from, d) at i in
    let k : from + n - from ≡ n = omega arith in
    rw (k, d, j) (take_trimmed (trim_front p))

-- what its answer tells
component_some : (o : Option Decimal) (d : Decimal) → Some d ≡ component_told o → o ≡ some d
component_some none d e = cc
component_some (some x) d e = cc

component_none : (o : Option Decimal) → None ≡ component_told o → o ≡ none
component_none none e = refl
component_none (some d) e = cc

-- ---- what commas part

-- the parts after the first, from where the first ends
abbrev rest : List ℕ → List (List ℕ)
rest [] = []
rest (b ∷ s) = comma_parts s

first_comma : (s : List ℕ) → comma_parts s ≡ take (before COMMA s) s ∷ rest (drop (before COMMA s) s)
unfolding comma_parts before
first_comma [] = refl
first_comma (b ∷ s) = go (eqb b COMMA) (first_comma s)
  where
    k : ℕ
    k = before COMMA s

    go : (x : Bool) → comma_parts s ≡ take k s ∷ rest (drop k s)
        → part_or_join x b (comma_parts s) ≡ take (if x then 0 else suc k) (b ∷ s) ∷ rest (drop (if x then 0 else suc k) (b ∷ s))
    go true h = refl
    go false h = ap (join_first b) h

-- the parts from the place `at` on, where one starts; none past the end
unfoldable pub parts_at : List ℕ → ℕ → List (List ℕ)
parts_at s at = if leb at (length s) then comma_parts (drop at s) else []

module _ (s : List ℕ) where
  pub parts_start : parts_at s 0 ≡ comma_parts s
  unfolding parts_at
  parts_start = rw (le-leb 0 (length s) (omega arith))

  rest_at : (e : ℕ) → rest (drop e s) ≡ parts_at s (e + 1)
  unfolding parts_at
  rest_at e = go (ltb e (length s)) refl
    where
      go : (x : Bool) → ltb e (length s) ≡ x → rest (drop e s) ≡ (if leb (e + 1) (length s) then comma_parts (drop (e + 1) s) else [])
      go true q =
          let h : e < length s = ltb-true e (length s) q in
          rw (drop_next s e h, le-leb (e + 1) (length s) (omega arith))
      go false q =
          let h : length s ≤ e = ltb-false e (length s) q in
          rw (drop_of_length-le s h, lt-leb (e + 1) (length s) (omega arith))

  parts_end : (at : ℕ) → length s < at → parts_at s at ≡ []
  unfolding parts_at
  parts_end at h = rw (lt-leb at (length s) h)

  module _ (at : ℕ) (h : at ≤ length s) where
    parts_open : parts_at s at ≡ comma_parts (drop at s)
    unfolding parts_at
    parts_open = rw (le-leb at (length s) h)

    pub parts_more : (k : ℕ) → k ≡ before COMMA (take (length s - at) (drop at s)) → parts_at s at ≡ take (at + k - at) (drop at s) ∷ parts_at s (at + k + 1)
    parts_more k e =
        let f : k ≡ before COMMA (drop at s) = rw all_after at e in
        let d : at + k - at ≡ k = omega arith in
        let g : comma_parts (drop at s) ≡ take k (drop at s) ∷ rest (drop k (drop at s)) = rw f (first_comma (drop at s)) in
        let r : rest (drop k (drop at s)) ≡ parts_at s (at + k + 1) = rw (drop-drop k at s) (rest_at (at + k)) in
        rw d (parts_open ∙ g ∙ ap (λ (ps : List (List ℕ)). take k (drop at s) ∷ ps) r)

-- ---- the vector, whose components are stored in the array a from i on

abbrev pub stored : List Decimal → ℕ → Option (List Decimal) → Maybe (List Decimal)
stored a i none = None
stored a i (some ds) = Some (sets a i ds)

pub stored_start : (a : List Decimal) (o : Option (List Decimal)) → a ≡ column [] → vector_column o ≡ stored a 0 o
unfolding eight
stored_start a none e = refl
stored_start a (some ds) e = rw e

stored_next : (a : List Decimal) (i : ℕ) (d : Decimal) (o : Option (List Decimal)) → stored a i (cons_said (some d) o) ≡ stored (set a i d) (i + 1) o
stored_next a i d none = refl
stored_next a i d (some ds) = rw add-one

module _ (s : List ℕ) (a : List Decimal) (n i at : ℕ) where
  -- the vector by what is left of it
  abbrev pub Left : Maybe (List Decimal)
  Left = stored a i (said_by (n - i) component_in (parts_at s at))

  module _ (h : i < n) where
    -- no component more
    pub vector_short : length s < at → None ≡ Left
    vector_short e = rw (parts_end s at e, said_short component_in (n - i) (omega arith))

    module _ (p : List ℕ) (ps : List (List ℕ)) (q : parts_at s at ≡ p ∷ ps) where
      left_cons : Left ≡ stored a i (cons_said (component_in p) (said_by (n - (i + 1)) component_in ps))
      left_cons =
          let e : n - i - 1 ≡ n - (i + 1) = omega arith in
          rw (q, said_cons component_in (n - i) p ps (omega arith), e)

      -- a component that is none
      pub vector_wrong : None ≡ component_told (component_in p) → None ≡ Left
      vector_wrong r = sym (left_cons ∙ rw (component_none (component_in p) r))

      -- one component more
      pub vector_more : (d : Decimal) → Some d ≡ component_told (component_in p) → Left ≡ stored (set a i d) (i + 1) (said_by (n - (i + 1)) component_in ps)
      vector_more d r = left_cons ∙ rw (component_some (component_in p) d r) (stored_next a i d (said_by (n - (i + 1)) component_in ps))

  module _ (h : n ≤ i) where
    -- a component too many
    pub vector_long : at ≤ length s → None ≡ Left
    vector_long e =
        let z : n - i ≡ 0 = omega arith in
        let q = parts_more s at e (before COMMA (take (length s - at) (drop at s))) refl in
        rw (q, z, said_long component_in)

    pub vector_done : length s < at → Some a ≡ Left
    vector_done e = let z : n - i ≡ 0 = omega arith in rw (parts_end s at e, z, said_done component_in)

-- ---- brackets

closed_end : (s : List ℕ) (k : ℕ) → length s ≡ suc k → closed s ≡ (if eqb (get_or s k 0) CLOSE then some (take k s) else none)
unfolding closed
closed_end [] k h = absurd (omega arith)
closed_end (b ∷ []) zero h = refl
closed_end (b ∷ []) (suc k) h = absurd (omega arith)
closed_end (b ∷ c ∷ s) zero h = absurd (omega arith)
closed_end (b ∷ c ∷ s) (suc k) h = go (eqb (get_or (c ∷ s) k 0) CLOSE) (closed_end (c ∷ s) k (omega arith))
  where
    go : (x : Bool) → closed (c ∷ s) ≡ (if x then some (take k (c ∷ s)) else none)
        → onto b (closed (c ∷ s)) ≡ (if x then some (b ∷ take k (c ∷ s)) else none)
    go true e = rw e
    go false e = rw e

-- what stands between the brackets
abbrev between : List ℕ → List ℕ
between w = take (length w - 1 - 1) (drop 1 w)

enclosed_ends : (w : List ℕ) → 2 ≤ length w
    → enclosed w ≡ (if eqb (get_or w 0 0) OPEN && eqb (get_or w (length w - 1) 0) CLOSE then some (between w) else none)
enclosed_ends [] h = absurd (omega arith)
enclosed_ends (b ∷ []) h = absurd (omega arith)
enclosed_ends (b ∷ c ∷ s) h =
    let e : suc (suc (length s)) - 1 ≡ suc (length s) = omega arith in
    let f : suc (length s) - 1 ≡ length s = omega arith in
    rw (e, f) (go (eqb b OPEN) (closed_end (c ∷ s) (length s) refl))
  where
    go : (x : Bool) → closed (c ∷ s) ≡ (if eqb (get_or (c ∷ s) (length s) 0) CLOSE then some (take (length s) (c ∷ s)) else none)
        → (if x then closed (c ∷ s) else none) ≡ (if x && eqb (get_or (c ∷ s) (length s) 0) CLOSE then some (take (length s) (c ∷ s)) else none)
    go true e = e
    go false e = refl

pub enclosed_short : (w : List ℕ) → length w < 2 → enclosed w ≡ none
unfolding closed
enclosed_short [] h = refl
enclosed_short (b ∷ []) h = go (eqb b OPEN)
  where
    go : (x : Bool) → ◌≡◌ {A = Option (List ℕ)} (if x then none else none) none
    go true = refl
    go false = refl
enclosed_short (b ∷ c ∷ s) h = absurd (omega arith)

pub enclosed_test : (w : List ℕ) → 2 ≤ length w → (eqb (get_or w 0 0) OPEN && eqb (get_or w (length w - 1) 0) CLOSE) ≡ is_some (enclosed w)
enclosed_test w h = rw (enclosed_ends w h) (go (eqb (get_or w 0 0) OPEN && eqb (get_or w (length w - 1) 0) CLOSE))
  where
    go : (x : Bool) → x ≡ is_some (if x then some (between w) else none)
    go true = refl
    go false = refl

pub enclosed_some : (w : List ℕ) → is_some (enclosed w) ≡ true → (2 ≤ length w) × (enclosed w ≡ some (between w))
enclosed_some w e = go (leb 2 (length w)) refl
  where
    inner : (x : Bool) → x ≡ true → (if x then some (between w) else none) ≡ some (between w)
    inner true e = refl
    inner false e = absurd (false≢true e)

    go : (x : Bool) → leb 2 (length w) ≡ x → (2 ≤ length w) × (enclosed w ≡ some (between w))
    go true q =
        let h : 2 ≤ length w = leb-true 2 (length w) q in
        (h, enclosed_ends w h ∙ inner (eqb (get_or w 0 0) OPEN && eqb (get_or w (length w - 1) 0) CLOSE) (enclosed_test w h ∙ e))
    go false q =
        let h : length w < 2 = leb-false 2 (length w) q in
        absurd (false≢true (ap is_some (sym (enclosed_short w h)) ∙ e))

-- a word that is not enclosed is no vector, and one that is says what stands between its brackets
pub vector_open : (n : ℕ) (w : List ℕ) → is_some (enclosed w) ≡ false → vector_said n w ≡ none
unfolding vector_said
vector_open n w e = rw (not_some (enclosed w) e)
  where
    not_some : (o : Option (List ℕ)) → is_some o ≡ false → o ≡ none
    not_some none e = refl
    not_some (some s) e = absurd (false≢true (sym e))

pub vector_enclosed : (n : ℕ) (w : List ℕ) → is_some (enclosed w) ≡ true → vector_said n w ≡ said_by n component_in (comma_parts (between w))
unfolding vector_said
vector_enclosed n w e = rw (enclosed_some w e).1

-- ---- a direction

module _ (n : ℕ) (w : List ℕ) where
  pub direction_without : alike w (bytes "none") ≡ true → direction_said n w ≡ some without
  unfolding direction_said
  direction_without e = rw e

  pub direction_along : alike w (bytes "none") ≡ false → direction_said n w ≡ along_said (vector_said n w)
  unfolding direction_said
  direction_along e = rw e

pub along_column : (o : Option (List Decimal)) → vector_column o ≡ direction_column (along_said o)
along_column none = refl
along_column (some ds) = refl

-- ---- the same with a flag

pub vector_flagged : (o : Option (List Decimal)) (ds : List Decimal) → Some ds ≡ vector_column o → record { fine = true; parts = ds } ≡ vector_answer o
vector_flagged none ds e = cc
vector_flagged (some es) ds e = let f : ds ≡ column es = cc in rw f

pub vector_flagged_none : (o : Option (List Decimal)) → None ≡ vector_column o → vector_answer none ≡ vector_answer o
vector_flagged_none none e = refl
vector_flagged_none (some es) e = cc

pub direction_flagged : (o : Option Direction) (ds : List Decimal) → Some ds ≡ direction_column o → record { fine = true; parts = ds } ≡ direction_answer o
direction_flagged none ds e = cc
direction_flagged (some without) ds e = let f : ds ≡ column (marked no_direction ∷ []) = cc in rw f
direction_flagged (some (along es)) ds e = let f : ds ≡ column es = cc in rw f

pub direction_flagged_none : (o : Option Direction) → None ≡ direction_column o → vector_answer none ≡ direction_answer o
direction_flagged_none none e = refl
direction_flagged_none (some without) e = cc
direction_flagged_none (some (along es)) e = cc
