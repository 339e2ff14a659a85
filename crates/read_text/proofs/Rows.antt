-- Laws of texts that are alike, of names in tables, and of the rows that they stand in.
-- Assumes nothing.
use Rattle.std.specs.Prelude.{if◌then◌else◌}
use Prim.Native.Nat.{ℕ, suc, ◌+◌, ◌-◌, ◌≤◌, ◌<◌}
use Prim.Native.String.{String}
use mathlib.Core.Path.{◌≡◌, refl, sym, ap, ◌∙◌}
use mathlib.Core.Bool.{Bool, true, false, ◌&&◌, ◌||◌, false≢true}
use mathlib.Core.List.{List, [], ◌∷◌, ◌++◌}
use mathlib.Core.Option.{Option, none, some}
use native.Mathlib.Nat.{add-zero}
use native.Mathlib.Omega.{arith}
use Rattle.std.specs.List.{list_all, zip}
use lib.Dec.{eqb, ltb, leb}
use lib.ListN.{length, take, drop, get_or, length-append, length-drop, drop_of_length-le}
use lib.Seq.{drop-drop, get_or-drop, take_at, drop_at}
use borrow.Author.Tests.{le-leb, lt-ltb}
use Rattle.format.specs.Bytes.{bytes, small, alike, is_any, row_from, row_of}
use Rattle.std.specs.Prelude.{Option as Maybe}
use Rattle.std.specs.Prelude.{Some, None}
use Rattle.read_text.specs.Rows.{Name, name, packed, row_among, row_answer}

-- ---- texts that are alike

-- two bytes are alike
abbrev pub bytes_alike : ℕ × ℕ → Bool
bytes_alike p = eqb (small p.0) (small p.1)

-- texts of other lengths are not alike, and others are where all their bytes are
pub alike_lengths : (a b : List ℕ) → (length a ≡ length b → ⊥) → alike a b ≡ false
unfolding alike
alike_lengths [] [] h = absurd (h refl)
alike_lengths [] (c ∷ t) h = refl
alike_lengths (b ∷ s) [] h = refl
alike_lengths (b ∷ s) (c ∷ t) h = go (eqb (small b) (small c)) (alike_lengths s t (λ e. h (ap suc e)))
  where
    go : (x : Bool) {y : Bool} → y ≡ false → (x && y) ≡ false
    go true e = e
    go false e = refl

pub alike_is : (a b : List ℕ) → length a ≡ length b → list_all bytes_alike (zip a b) ≡ alike a b
unfolding alike
alike_is [] [] h = refl
alike_is [] (c ∷ t) h = absurd (omega arith)
alike_is (b ∷ s) [] h = absurd (omega arith)
alike_is (b ∷ s) (c ∷ t) h = ap (λ (r : Bool). eqb (small b) (small c) && r) (alike_is s t (omega arith))

-- ---- the names of a table

-- The name at `at`, of which the table holds `ns` from there on.
record NameAt (table : List ℕ) (at : ℕ) (ns : List Name) : Type 0 where
  row : ℕ
  word : List ℕ
  later : List Name
  is : ns ≡ name row word ∷ later
  number : get_or table (at + 1) 0 ≡ row
  part : take (at + 2 + get_or table at 0 - (at + 2)) (drop (at + 2) table) ≡ word
  rest : drop (at + 2 + get_or table at 0) table ≡ packed later
  within : at + 2 + get_or table at 0 ≤ length table

name_at : (table : List ℕ) (at : ℕ) (ns : List Name) → at < length table → drop at table ≡ packed ns → NameAt table at ns
unfolding packed
name_at table at [] h e =
    let l : length (drop at table) ≡ 0 = rw e in
    absurd (omega (arith, length-drop at table))
name_at table at (name i w ∷ ns) h e =
    let n : get_or table at 0 ≡ length w = rw (← add-zero at, ← get_or-drop at table 0 0, e) in
    let d : drop (at + 2) table ≡ w ++ packed ns = rw (← drop-drop 2 at table, e) in
    let m : at + 2 + get_or table at 0 - (at + 2) ≡ length w = omega arith in
    let l : length (drop at table) ≡ suc (suc (length (w ++ packed ns))) = ap length e in
    record {
      row = i;
      word = w;
      later = ns;
      is = refl;
      number = rw (← get_or-drop at table 1 0, e);
      part = rw (m, d, take_at w (packed ns) (length w) refl);
      rest = rw (n, ← drop-drop (length w) (at + 2) table, d, drop_at w (packed ns) (length w) refl);
      within = omega (arith, length-drop at table, length-append w (packed ns));
    }

-- what is left of the names of a table from `at` on, of which s is none before
abbrev pub Passed : List ℕ → List ℕ → ℕ → Type 0
Passed table s at =
    (ns : List Name) → table ≡ packed ns → (rest : List Name) × (drop at table ≡ packed rest) × (row_among s ns ≡ row_among s rest)

module _ (table s : List ℕ) (at : ℕ) (p : Passed table s at) where
  -- no name is left
  pub passed_all : length table ≤ at → (ns : List Name) → table ≡ packed ns → None ≡ row_answer (row_among s ns)
  unfolding row_among packed
  passed_all h ns e = go (p ns e).0 (p ns e).1 (p ns e).2
    where
      go : (rest : List Name) → drop at table ≡ packed rest → row_among s ns ≡ row_among s rest → None ≡ row_answer (row_among s ns)
      go [] d q = rw q
      go (name i w ∷ rest) d q = cc (d, drop_of_length-le table h)

  -- a name is left
  module _ (h : at < length table) where
    left : (ns : List Name) (e : table ≡ packed ns) → NameAt table at (p ns e).0
    left ns e = name_at table at (p ns e).0 h (p ns e).1

    -- it lies in the table
    pub name_within : (ns : List Name) → table ≡ packed ns → at + 2 + get_or table at 0 ≤ length table
    name_within ns e = (left ns e).within

    module _ {same : Bool} (q : same ≡ alike s (take (at + 2 + get_or table at 0 - (at + 2)) (drop (at + 2) table))) where
      -- s is that name
      pub passed_here : same ≡ true → (ns : List Name) → table ≡ packed ns → Some (get_or table (at + 1) 0) ≡ row_answer (row_among s ns)
      unfolding row_among
      passed_here t ns e = let l = left ns e in rw ((p ns e).2, l.is, ← l.part, ← q, t, l.number)

      -- s is not that name
      pub passed_on : same ≡ false → Passed table s (at + 2 + get_or table at 0)
      unfolding row_among
      passed_on t ns e = let l = left ns e in (l.later, l.rest, rw ((p ns e).2, l.is, ← l.part, ← q, t))

-- ---- rows of names

-- at least a, and less than z
abbrev pub in_range : ℕ → ℕ → ℕ → Bool
in_range a z n = leb a n && ltb n z

pub in_range_lem : (a z : ℕ) {n : ℕ} → a ≤ n → n < z → in_range a z n ≡ true
in_range_lem a z {n} h k = simp (le-leb a n h, lt-ltb n z k)

-- The names whose length p holds of.
module _ (p : ℕ → Bool) where
  abbrev keep : Bool → Name → List Name → List Name
  keep true n ns = n ∷ ns
  keep false n ns = ns

  -- those of a row of the number i, and others after them
  unfoldable pub row_names : ℕ → List String → List Name → List Name
  row_names i [] ns = ns
  row_names i (n ∷ r) ns = keep (p (length (bytes n))) (name i (bytes n)) (row_names i r ns)

  -- those of rows, of which the first has the number i
  unfoldable pub names_from : ℕ → List (List String) → List Name
  names_from i [] = []
  names_from i (r ∷ rs) = row_names i r (names_from (i + 1) rs)

  -- s is none of the names that are left out, since its length is another
  module _ (s : List ℕ) (h : p (length s) ≡ true) where
    in_row : (i : ℕ) (r : List String) (ns : List Name)
        → row_among s (row_names i r ns) ≡ (if is_any s r then some i else row_among s ns)
    unfolding row_among row_names is_any
    in_row i [] ns = refl
    in_row i (n ∷ r) ns = go (p (length (bytes n))) refl (alike s (bytes n)) refl (in_row i r ns)
      where
        go : (k : Bool) → p (length (bytes n)) ≡ k → (x : Bool) → alike s (bytes n) ≡ x
            → row_among s (row_names i r ns) ≡ (if is_any s r then some i else row_among s ns)
            → row_among s (keep k (name i (bytes n)) (row_names i r ns)) ≡ (if x || is_any s r then some i else row_among s ns)
        go true q true e f = rw e
        go true q false e f = rw e f
        go false q false e f = f
        go false q true e f =
            absurd (false≢true (sym (alike_lengths s (bytes n) (λ (l : length s ≡ length (bytes n)). false≢true (sym q ∙ rw (← l) h))) ∙ e))

    rows_from : (i : ℕ) (rs : List (List String)) → row_among s (names_from i rs) ≡ row_from i s rs
    unfolding row_among names_from row_from
    rows_from i [] = refl
    rows_from i (r ∷ rs) = in_row i r (names_from (i + 1) rs) ∙ rw (rows_from (i + 1) rs)

    -- The row of s in a table of these names is its row among all.
    pub row_named : (rs : List (List String)) {table : List ℕ} {r : Maybe ℕ}
        → ((ns : List Name) → table ≡ packed ns → r ≡ row_answer (row_among s ns)) → table ≡ packed (names_from 0 rs)
        → r ≡ row_answer (row_of s rs)
    row_named rs f e = f (names_from 0 rs) e ∙ ap row_answer (rows_from 0 rs)

-- ---- the answers of the look-ups

pub row_is : (o : Option ℕ) (n : ℕ) → Some n ≡ row_answer o → o ≡ some n
row_is none n e = cc
row_is (some m) n e = cc

pub row_unknown : (o : Option ℕ) → None ≡ row_answer o → o ≡ none
row_unknown none e = refl
row_unknown (some m) e = cc
