-- The line table moved with the lines.
-- Assumes nothing.
use Prim.Native.Nat.{ℕ, zero, suc, ◌+◌, ◌-◌, ◌≤◌, ◌<◌}
use native.Mathlib.Nat.{zero-add, add-zero, sub-zero, le_step, ne_of_lt}
use native.Mathlib.Omega.{arith}
use mathlib.Core.Path.{◌≡◌, refl, sym, ap, ◌∙◌}
use mathlib.Core.Bool.{Bool, true, false, ◌&&◌}
use mathlib.Core.List.{List, [], ◌∷◌, ◌++◌, map}
use lib.Dec.{eqb, ltb, leb}
use lib.ListN.{length, get_or, set, take, drop, length-map, length-take, take-append-drop}
use lib.Seq.{sets, sets-eq, get_or-set_other, set-set, drop-cons}
use borrow.Author.Tests.{lt-ltb, le-ltb, ltb-true, ltb-false, eqb-true}
use Rattle.format.specs.Bytes.{same, over}
use Rattle.format.specs.Lines.{Line, size, unlines, starts}
use Rattle.format.specs.Settings.{table_fine}
use Rattle.format.proofs.Bytes.{and_left, and_right, same_true}
use Rattle.format.proofs.Stores.{set_sets}
use Rattle.format.proofs.Lines.{starts_at, length_unlines_append}
use Rattle.read_table.specs.Shifts.{moved_by, shifted}

-- ---- one entry

pub moved_below : (to front x : ℕ) → x < to → moved_by to front x ≡ x
unfolding moved_by
moved_below to front x h = rw (lt-ltb x to h)

pub moved_above : (to front x : ℕ) → to ≤ x → moved_by to front x ≡ front + (x - to)
unfolding moved_by
moved_above to front x h = rw (le-ltb x to h)

pub moved_within : (to front x bytes limit : ℕ) → x ≤ bytes → bytes ≤ limit → front + (bytes - to) ≤ limit → moved_by to front x ≤ limit
moved_within to front x bytes limit h g w = go (ltb x to) refl
  where
    go : (t : Bool) → ltb x to ≡ t → moved_by to front x ≤ limit
    go true e = omega (arith, moved_below to front x (ltb-true x to e))
    go false e = omega (arith, ltb-false x to e, moved_above to front x (ltb-false x to e))

-- ---- the starts of lines

pub cons : {x y : ℕ} {xs ys : List ℕ} → x ≡ y → xs ≡ ys → x ∷ xs ≡ y ∷ ys
cons p q = λ i. p i ∷ q i

-- of lines that come after the edit
pub starts_moved : (ls : List Line) (to front old new : ℕ) → to ≤ old → new ≡ front + (old - to)
    → starts new ls ≡ map (moved_by to front) (starts old ls)
unfolding starts
starts_moved [] to front old new h e = refl
starts_moved (l ∷ ls) to front old new h e =
    cons (e ∙ sym (moved_above to front old h)) (starts_moved ls to front (old + size l) (new + size l) (omega arith) (omega arith))

-- no line starts past the bytes of all
pub start_within : (ls : List Line) (k : ℕ) → k < length ls → get_or (starts 0 ls) k 0 ≤ length (unlines ls)
start_within ls k h =
    let e : length (unlines (take k ls ++ drop k ls)) ≡ length (unlines ls) = ap (λ m. length (unlines m)) (take-append-drop k ls) in
    omega (arith, starts_at 0 k ls h, length_unlines_append (take k ls) (drop k ls), e)

-- ---- a table that was accepted

module _ (table : List ℕ) (count : ℕ) (ss : List ℕ) (fine : table_fine table count ss ≡ true) where
  pub fine_many : count ≡ length ss
  unfolding table_fine
  fine_many = eqb-true count (length ss) (and_left (eqb count (length ss)) (leb count (length table) && same (take count table) ss) fine)

  pub fine_is : take count table ≡ ss
  unfolding table_fine
  fine_is =
      same_true (take count table) ss
      (and_right (leb count (length table)) (same (take count table) ss)
      (and_right (eqb count (length ss)) (leb count (length table) && same (take count table) ss) fine))

-- ---- the turns of the loop. l is the table where the loop begins, d as it is now.

get_d_below : (vs l : List ℕ) (i k : ℕ) → k < i → get_or (sets l i vs) k 0 ≡ get_or l k 0
get_d_below [] l i k h = refl
get_d_below (v ∷ vs) l i k h = get_d_below vs (set l i v) (suc i) k (le_step h) ∙ get_or-set_other l i k v 0 (ne_of_lt h)

module _ (f : ℕ → ℕ) (l d : List ℕ) (more n k : ℕ) (e : d ≡ sets l (more + k) (map f (take (n - k) (drop k l)))) where
  module _ (h : 0 < k) where
    pub entry_here : get_or d (k - 1) 0 ≡ get_or l (k - 1) 0
    entry_here = ap (λ r. get_or r (k - 1) 0) e ∙ get_d_below (map f (take (n - k) (drop k l))) l (more + k) (k - 1) (omega arith)

    pub entry_turn : k ≤ n → n ≤ length l → (a : ℕ) → a ≡ f (get_or d (k - 1) 0)
        → set d (more + (k - 1)) a ≡ sets l (more + (k - 1)) (map f (take (n - (k - 1)) (drop (k - 1) l)))
    entry_turn g w a q =
        let i : ℕ = k - 1 in
        let b : ℕ = f (get_or l i 0) in
        let s : List ℕ = map f (take (n - k) (drop k l)) in
        let e₁ : more + k ≡ suc (more + i) = omega arith in
        let e₂ : n - i ≡ suc (n - k) = omega arith in
        let e₃ : suc i ≡ k = omega arith in
        let grown : map f (take (n - i) (drop i l)) ≡ b ∷ s =
        ap (λ r. map f (take (n - i) r)) (drop-cons l i 0 (omega arith))
        ∙ ap (λ m. map f (take m (get_or l i 0 ∷ drop (suc i) l))) e₂
        ∙ ap (λ m. b ∷ map f (take (n - k) (drop m l))) e₃ in
        ap (set d (more + i)) (q ∙ ap f entry_here)
        ∙ ap (λ r. set r (more + i) b) (e ∙ ap (λ m. sets l m s) e₁)
        ∙ set_sets s l (more + i) (suc (more + i)) b (omega arith)
        ∙ ap (sets l (more + i)) (sym grown)

  pub entries_done : k ≤ 0 → d ≡ sets l more (map f (take n l))
  entries_done h =
      let z : k ≡ 0 = omega arith in
      e ∙ ap (λ j. sets l (more + j) (map f (take (n - j) (drop j l)))) z ∙ simp (add-zero, sub-zero)

-- ---- after the loop

module _ (from to front : ℕ) where
  abbrev f : ℕ → ℕ
  f = moved_by to front

  -- as many lines as before
  pub shifted_same : (t : List ℕ) (count : ℕ) → count ≤ length t
      → sets t 0 (map f (take count t)) ≡ over (shifted from to front 0 (take count t)) t
  unfolding shifted
  shifted_same t count h =
      let m : List ℕ = map f (take count t) in
      let n : length m ≡ count = simp (length-map, length-take) (omega arith) in
      sets-eq m t 0 (omega arith) ∙ ap (λ j. m ++ drop j t) (zero-add (length m))

  -- a new line 2
  pub shifted_more : (t : List ℕ) (count : ℕ) → 0 < count → count + 1 ≤ length t
      → set (sets t 1 (map f (take count t))) 1 from ≡ over (shifted from to front 1 (take count t)) t
  unfolding shifted
  shifted_more t zero h g = absurd (omega arith)
  shifted_more [] (suc c) h g = absurd (omega arith)
  shifted_more (x ∷ t) (suc c) h g =
      let m : List ℕ = map f (take c t) in
      let l : List ℕ = x ∷ t in
      let n : length m ≡ c = simp (length-map, length-take) (omega arith) in
      let e : 1 + length (from ∷ m) ≡ suc (suc (length m)) = omega arith in
      set_sets m (set l 1 (f x)) 1 2 from (omega arith)
      ∙ ap (λ r. sets r 2 m) (set-set l 1 (f x) from)
      ∙ sets-eq (from ∷ m) l 1 (omega arith)
      ∙ ap (λ j. x ∷ from ∷ m ++ drop j l) e
