-- Laws of vectors that are said: how many there are, how long they are, and each of them by its word.
-- Assumes nothing.
use Rattle.std.specs.Prelude.{if◌then◌else◌}
use Prim.Native.Nat.{ℕ, zero, suc, ◌-◌, ◌≤◌, ◌<◌}
use native.Mathlib.Nat.{zero-add}
use native.Mathlib.Omega.{arith}
use mathlib.Core.Path.{◌≡◌, refl, sym, ap}
use mathlib.Core.Bool.{Bool, true, false, false≢true}
use mathlib.Core.List.{List, [], ◌∷◌, ◌++◌, flat_map}
use mathlib.Core.Option.{Option, none, some, some-injective, none-ne-some}
use lib.Dec.{eqb}
use lib.ListN.{length, take, drop, get_or, replicate}
use lib.Seq.{sets-eq, take_at, length-sets}
use borrow.Author.Tests.{eqb-true}
use Rattle.format.specs.declared.Decimal.{Decimal}
use Rattle.format.specs.Bytes.{bytes, alike, is_some, or_default}
use Rattle.format.specs.Decimals.{marked, no_direction, nought}
use Rattle.format.specs.Vectors.{Direction, without, along, along_said, cons_said, all_said, said_by, enclosed, comma_parts, component_in, components_in, vector_said, direction_said}
use Rattle.format.specs.Columns.{eight, column}
use Rattle.format.specs.Orientation.{direction_decimals, direction_given}
use Rattle.std.specs.Prelude.{Some}
use Rattle.read_vectors.specs.Answers.{direction_column}
use Rattle.std.specs.Option.{unwrap_or}
use Rattle.read_orientation.specs.Told.{direction_parts, direction_told, vector_found}

module _ {A : Type 0} where
  -- what is there
  pub record There (o : Option A) : Type 0 where
    pub value : A
    pub is : o ≡ some value

  pub there : (o : Option A) → is_some o ≡ true → There o
  there none e = absurd (false≢true e)
  there (some a) e = record { value = a; is = refl }

  -- ---- each of the texts

  -- the list as is what the texts ws say
  pub record Said (f : List ℕ → Option A) (k : ℕ) (ws : List (List ℕ)) (as' : List A) : Type 0 where
    pub words : length ws ≡ k
    pub many : length as' ≡ k
    pub each : (i : ℕ) (z : A) → i < k → f (get_or ws i []) ≡ some (get_or as' i z)

  module _ (f : List ℕ → Option A) where
    all_said_lem : (ws : List (List ℕ)) (as' : List A) → all_said f ws ≡ some as' → Said f (length ws) ws as'
    unfolding all_said
    all_said_lem [] as' e = record { words = refl; many = sym (ap length (some-injective [] as' e)); each = λ i z h. absurd (omega arith) }
    all_said_lem (w ∷ ws) as' e = go (f w) refl (all_said f ws) refl e (all_said_lem ws)
      where
        go : (a : Option A) → f w ≡ a → (o : Option (List A)) → all_said f ws ≡ o → cons_said a o ≡ some as'
            → ((bs : List A) → all_said f ws ≡ some bs → Said f (length ws) ws bs) → Said f (suc (length ws)) (w ∷ ws) as'
        go none p o q e r = absurd (none-ne-some _ e)
        go (some a) p none q e r = absurd (none-ne-some _ e)
        go (some a) p (some bs) q e r =
            let s = r bs q in
            let h = some-injective (a ∷ bs) as' e in
            rw (← h) (record { words = refl; many = ap suc s.many; each = at s })
          where
            at : Said f (length ws) ws bs → (i : ℕ) (z : A) → i < suc (length ws) → f (get_or (w ∷ ws) i []) ≡ some (get_or (a ∷ bs) i z)
            at s zero z l = p
            at s (suc i) z l = s.each i z (omega arith)

    pub said : (k : ℕ) (ws : List (List ℕ)) (as' : List A) → said_by k f ws ≡ some as' → Said f k ws as'
    unfolding said_by
    said k ws as' = go (eqb (length ws) k) refl
      where
        go : (x : Bool) → eqb (length ws) k ≡ x → (if x then all_said f ws else none) ≡ some as' → Said f k ws as'
        go true p e = rw (← eqb-true (length ws) k p) (all_said_lem ws as' e)
        go false p e = absurd (none-ne-some _ e)

    -- where g of a text is h of what it says, so it is of all of them
    module _ (g : List ℕ → List Decimal) (h : A → List Decimal) (same : (w : List ℕ) (a : A) → f w ≡ some a → g w ≡ h a) where
      all_flat : (ws : List (List ℕ)) (as' : List A) → all_said f ws ≡ some as' → flat_map g ws ≡ flat_map h as'
      unfolding all_said flat_map
      all_flat [] as' e = rw (← some-injective [] as' e)
      all_flat (w ∷ ws) as' e = go (f w) refl (all_said f ws) refl e (all_flat ws)
        where
          go : (a : Option A) → f w ≡ a → (o : Option (List A)) → all_said f ws ≡ o → cons_said a o ≡ some as'
              → ((bs : List A) → all_said f ws ≡ some bs → flat_map g ws ≡ flat_map h bs) → g w ++ flat_map g ws ≡ flat_map h as'
          go none p o q e r = absurd (none-ne-some _ e)
          go (some a) p none q e r = absurd (none-ne-some _ e)
          go (some a) p (some bs) q e r = rw (← some-injective (a ∷ bs) as' e, same w a p, r bs q)

      pub said_flat : (k : ℕ) (ws : List (List ℕ)) (as' : List A) → said_by k f ws ≡ some as' → flat_map g ws ≡ flat_map h as'
      unfolding said_by
      said_flat k ws as' = go (eqb (length ws) k)
        where
          go : (x : Bool) → (if x then all_said f ws else none) ≡ some as' → flat_map g ws ≡ flat_map h as'
          go true e = all_flat ws as' e
          go false e = absurd (none-ne-some _ e)

-- ---- arrays of eight

pub length_eight : {A : Type 0} (z : A) (xs : List A) → length (eight z xs) ≡ 8
unfolding eight
length_eight z xs = length-sets (replicate 8 z) 0 xs

pub take_eight : {A : Type 0} (z : A) (xs : List A) (n : ℕ) → length xs ≡ n → n ≤ 8 → take n (eight z xs) ≡ xs
unfolding eight
take_eight z xs n e h = rw (sets-eq xs (replicate 8 z) 0 (omega arith), zero-add) (take_at xs (drop (length xs) (replicate 8 z)) n e)

take_replicate : {A : Type 0} (z : A) (k n : ℕ) → k ≤ n → take k (replicate n z) ≡ replicate k z
take_replicate z zero n h = refl
take_replicate z (suc k) zero h = absurd (omega arith)
take_replicate z (suc k) (suc n) h = rw (take_replicate z k n (omega arith))

-- ---- a vector and a direction

-- a column of zeros for no direction
pub parts_or : (o : Option Direction) → unwrap_or (direction_column o) (column []) ≡ direction_parts o
parts_or none = refl
parts_or (some without) = refl
parts_or (some (along ds)) = refl

-- a vector has as many components as were asked for
pub vector_length : (n : ℕ) (w : List ℕ) (ds : List Decimal) → vector_said n w ≡ some ds → length ds ≡ n
unfolding vector_said
vector_length n w ds = go (enclosed w)
  where
    go : (o : Option (List ℕ)) → components_in n o ≡ some ds → length ds ≡ n
    go none e = absurd (none-ne-some _ e)
    go (some s) e = (said component_in n (comma_parts s) ds e).many

pub vector_taken : (n : ℕ) (w : List ℕ) (ds : List Decimal) → n ≤ 8 → vector_said n w ≡ some ds → take n (column (or_default [] (vector_said n w))) ≡ ds
vector_taken n w ds h e = rw e (take_eight nought ds n (vector_length n w ds e) h)

-- an axis without a direction: a mark and zeros
without_taken : (n : ℕ) → 1 ≤ n → n ≤ 8 → take n (column (marked no_direction ∷ [])) ≡ direction_decimals n without
unfolding eight
without_taken zero l h = absurd (omega arith)
without_taken (suc k) l h = let e : suc k - 1 ≡ k = omega arith in rw (e, take_replicate nought k 7 (omega arith))

-- by what the word is: none, or a vector
module _ (n : ℕ) (w : List ℕ) (P : Direction → Type 0) (bare : alike w (bytes "none") ≡ true → direction_said n w ≡ some without → P without)
    (full : alike w (bytes "none") ≡ false → (ds : List Decimal) → direction_said n w ≡ some (along ds) → length ds ≡ n → P (along ds)) where
  direction_cases : (d : Direction) → direction_said n w ≡ some d → P d
  unfolding direction_said
  direction_cases d e = go (alike w (bytes "none")) refl (vector_said n w) refl e
    where
      go : (x : Bool) → alike w (bytes "none") ≡ x → (o : Option (List Decimal)) → vector_said n w ≡ o → (if x then some without else along_said o) ≡ some d → P d
      go true p o q e = rw (← some-injective without d e) (bare p (rw p))
      go false p none q e = absurd (none-ne-some _ e)
      go false p (some ds) q e = rw (← some-injective (along ds) d e) (full p ds (rw (p, q)) (vector_length n w ds q))

pub direction_taken : (n : ℕ) (w : List ℕ) (d : Direction) → 1 ≤ n → n ≤ 8 → direction_said n w ≡ some d → take n (direction_parts (direction_said n w)) ≡ direction_decimals n d
direction_taken n w d l h =
    direction_cases n w (λ d. take n (direction_parts (direction_said n w)) ≡ direction_decimals n d) (λ p e. rw e (without_taken n l h))
    (λ p ds e q. rw e (take_eight nought ds n q h)) d

pub direction_told_lem : (n : ℕ) (w : List ℕ) (d : Direction) → direction_said n w ≡ some d → vector_found (Some (direction_told n w)) ≡ direction_given d
direction_told_lem n w d =
    direction_cases n w (λ d. vector_found (Some (direction_told n w)) ≡ direction_given d) (λ p e. rw (p, e)) (λ p ds e q. rw (p, e, q)) d
