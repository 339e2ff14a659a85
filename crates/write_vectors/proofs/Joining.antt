-- Laws of texts with a byte between each two, and of the loops that store them: before each text but the first goes the byte.
-- Assumes nothing.
use mathlib.Core.Path.{◌≡◌, refl, sym, ap, ◌∙◌}
use mathlib.Core.List.{List, [], ◌∷◌, ◌++◌, map, append-nil}
use Prim.Native.Nat.{ℕ, ◌+◌, ◌≤◌, ◌<◌}
use native.Mathlib.Omega.{arith}
use borrow.Author.Tests.{ne_eqb}
use lib.ListN.{length, get_or, take, drop}
use lib.Seq.{sets}
use Rattle.format.specs.HeaderWriter.{joined}
use Rattle.write_parts.proofs.Runs.{Putting, putting_none, putting_more, putting_done, putting_end}
use Rattle.write_vectors.specs.Stored.{gap_text}
use Rattle.write_vectors.proofs.Entries.{entry_next, entry_over}
use Rattle.write_vectors.proofs.Pieces.{Put, put_is}

-- ---- what a loop stores of the entries xs, the first of which is entry i

module _ {A : Type 0} (f : A → List ℕ) (b : ℕ) where
  unfoldable pub joined_from : ℕ → List A → List ℕ
  joined_from i [] = []
  joined_from i (x ∷ xs) = gap_text b i ++ (f x ++ joined_from (i + 1) xs)

  gap_later : (i : ℕ) → 1 ≤ i → gap_text b i ≡ b ∷ []
  gap_later i h = rw (ne_eqb i 0 (λ e. omega arith))

  -- after the first one, which entry it is makes no difference
  later : (xs : List A) (i j : ℕ) → 1 ≤ i → 1 ≤ j → joined_from i xs ≡ joined_from j xs
  unfolding joined_from
  later [] i j h k = refl
  later (x ∷ xs) i j h k = rw (gap_later i h, gap_later j k, later xs (i + 1) (j + 1) (omega arith) (omega arith))

  -- the texts with the byte between each two: one text, then the byte and the text for each further one
  pub joined_is : (xs : List A) → joined b (map f xs) ≡ joined_from 0 xs
  unfolding joined joined_from
  joined_is [] = refl
  joined_is (x ∷ []) = sym (append-nil (f x))
  joined_is (x ∷ y ∷ xs) = ap (λ (s : List ℕ). f x ++ b ∷ s) (joined_is (y ∷ xs) ∙ ap (λ (s : List ℕ). f y ++ s) (later xs 1 2 (omega arith) (omega arith)))

-- ---- a loop over the first n entries of l: the buffer d as it is where entry i goes to place o

pub record Joining {A : Type 0} (f : A → List ℕ) (b : ℕ) (l : List A) (n : ℕ) (d₀ : List ℕ) (at : ℕ) (d : List ℕ) (o i : ℕ) : Type 0 where
  pub few : i ≤ n
  pub within : n ≤ length l
  pub putting : Putting (joined b (map f (take n l))) d₀ at d o (joined_from f b i (drop i (take n l)))

module _ {A : Type 0} (f : A → List ℕ) (b : ℕ) (l : List A) (n : ℕ) (d₀ : List ℕ) (at : ℕ) where
  pub joining_none : n ≤ length l → Joining f b l n d₀ at d₀ at 0
  joining_none h = record {
    few = omega arith;
    within = h;
    putting = putting_none (joined b (map f (take n l))) d₀ at (joined_from f b 0 (take n l)) (sym (joined_is f b (take n l)));
  }

module _ {A : Type 0} {f : A → List ℕ} {b : ℕ} {l : List A} {n : ℕ} {d₀ : List ℕ} {at : ℕ} {d : List ℕ} {o i : ℕ} (p : Joining f b l n d₀ at d o i) where
  -- the byte and the text of entry i are stored
  pub joining_more : (z : A) → i < n → (d' d'' : List ℕ) (from o' : ℕ) → d' ≡ sets d o (gap_text b i) → from ≡ o + length (gap_text b i)
      → d'' ≡ sets d' from (f (get_or l i z)) → o' ≡ from + length (f (get_or l i z)) → Joining f b l n d₀ at d'' o' (i + 1)
  unfolding joined_from
  joining_more z h d' d'' from o' e q e' q' = record {
    few = omega arith;
    within = p.within;
    putting = putting_more (putting_more p.putting (gap_text b i) (f (get_or l i z) ++ rest) next d' from e q) (f (get_or l i z)) rest refl d'' o' e' q';
  }
    where
      rest : List ℕ
      rest = joined_from f b (i + 1) (drop (i + 1) (take n l))

      next : joined_from f b i (drop i (take n l)) ≡ gap_text b i ++ (f (get_or l i z) ++ rest)
      next = ap (joined_from f b i) (entry_next l n i p.within z h)

  -- none is left
  pub joining_done : n ≤ i → Put d₀ at (joined b (map f (take n l))) d o
  unfolding joined_from
  joining_done h = (putting_end p.putting left, putting_done p.putting left)
    where
      left : joined_from f b i (drop i (take n l)) ≡ []
      left = ap (joined_from f b i) (entry_over l n i p.within h)

-- the same where the texts are f of what g makes of each entry
map_twice : {A B : Type 0} (f : B → List ℕ) (g : A → B) (xs : List A) → map (λ x. f (g x)) xs ≡ map f (map g xs)
map_twice f g [] = refl
map_twice f g (x ∷ xs) = ap (λ (ys : List (List ℕ)). f (g x) ∷ ys) (map_twice f g xs)

module _ {A B : Type 0} (f : B → List ℕ) (g : A → B) where
  pub joining_done_of : {b : ℕ} {l : List A} {n : ℕ} {d₀ : List ℕ} {at : ℕ} {d : List ℕ} {o i : ℕ} → Joining (λ x. f (g x)) b l n d₀ at d o i → n ≤ i → Put d₀ at (joined b (map f (map g (take n l)))) d o
  joining_done_of {b} {l} {n} {d₀} {at} p h = let put = joining_done p h in put_is d₀ at (ap (joined b) (map_twice f g (take n l))) put.0 put.1
