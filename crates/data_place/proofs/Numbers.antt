-- Laws of the number of a sample: coordinates by index, and the number is below the product of the sizes.
-- Assumes nothing.
use Prim.Native.Nat.{ℕ, suc, ◌+◌, ◌*◌, ◌<◌, ◌≤◌}
use native.Mathlib.Nat.{mul-suc, mul-le-mul_left, mul-le-mul_right}
use native.Mathlib.Omega.{arith}
use mathlib.Core.Path.{◌≡◌, refl, ap, subst₂}
use mathlib.Core.Bool.{Bool, true, false, ◌&&◌, false≢true}
use mathlib.Core.List.{List, [], ◌∷◌}
use lib.Dec.{ltb}
use lib.ListN.{length, take, drop, get_or, length-drop, drop_of_length-le}
use borrow.Author.Tests.{ltb-true, lt-ltb, le-ltb}
use Rattle.format.specs.declared.Reading.{Reading}
use Rattle.format.specs.declared.ReadAnswer.{ReadAnswer}
use Rattle.format.specs.Limits.{max_extent}
use Rattle.format.specs.Descriptors.{product}
use Rattle.format.specs.Header.{Outcome, refused, accepted, header}
use Rattle.format.specs.Axes.{inside, sample_number}
use Rattle.format.specs.Calls.{reading_of, read_answer, read_header_call, sample_number_call}
use Rattle.format.proofs.Bytes.{and_left, and_right}
use Rattle.format.proofs.Named.{product_few}
use Rattle.format.proofs.Numbered.{NumberedOutcome, header_numbered}
use Rattle.read_text.proofs.Places.{drop_next}
use Rattle.data_place.specs.Places.{Inside, number_in}
use Rattle.data_place.proofs.Headers.{header_axes, header_sizes}

-- ---- coordinates by index

pub inside_lengths : (a b : List ℕ) → (length a ≡ length b → ⊥) → inside a b ≡ false
unfolding inside
inside_lengths [] [] h = absurd (h refl)
inside_lengths [] (c ∷ b) h = refl
inside_lengths (s ∷ a) [] h = refl
inside_lengths (s ∷ a) (c ∷ b) h = go (ltb c s) (inside_lengths a b (λ e. h (ap suc e)))
  where
    go : (x : Bool) → inside a b ≡ false → (x && inside a b) ≡ false
    go true e = e
    go false e = refl

pub inside_end : (a b : List ℕ) (i : ℕ) → length a ≤ i → length b ≤ i → inside (drop i a) (drop i b) ≡ true
unfolding inside
inside_end a b i h k = rw (drop_of_length-le a h, drop_of_length-le b k)

module _ (a b : List ℕ) (i : ℕ) (h : i < length a) (k : i < length b) where
  pub inside_on : get_or b i 0 < get_or a i 0 → inside (drop i a) (drop i b) ≡ inside (drop (i + 1) a) (drop (i + 1) b)
  unfolding inside
  inside_on l = rw (drop_next a i h, drop_next b i k, lt-ltb (get_or b i 0) (get_or a i 0) l)

  pub inside_no : get_or a i 0 ≤ get_or b i 0 → inside (drop i a) (drop i b) ≡ false
  unfolding inside
  inside_no l = rw (drop_next a i h, drop_next b i k, le-ltb (get_or b i 0) (get_or a i 0) l)

-- ---- the number is below the product

under : (c s r p : ℕ) → c < s → r < p → c + s * r < s * p
under c s r p a b = omega (arith, mul-le-mul_left s b, mul-suc s r)

module _ (s c : ℕ) (ss cs : List ℕ) (e : inside (s ∷ ss) (c ∷ cs) ≡ true) where
  first : c < s
  unfolding inside
  first = ltb-true c s (and_left (ltb c s) (inside ss cs) e)

  others : inside ss cs ≡ true
  unfolding inside
  others = and_right (ltb c s) (inside ss cs) e

below : (ss cs : List ℕ) → inside ss cs ≡ true → sample_number ss cs < product ss
unfolding inside sample_number product
below [] [] h = omega arith
below [] (c ∷ cs) h = absurd (false≢true h)
below (s ∷ ss) [] h = absurd (false≢true h)
below (s ∷ ss) (c ∷ cs) h = under c s (sample_number ss cs) (product ss) (first s c ss cs h) (below ss cs (others s c ss cs h))

same_length : (ss cs : List ℕ) → inside ss cs ≡ true → length ss ≡ length cs
unfolding inside
same_length [] [] h = refl
same_length [] (c ∷ cs) h = absurd (false≢true h)
same_length (s ∷ ss) [] h = absurd (false≢true h)
same_length (s ∷ ss) (c ∷ cs) h = ap suc (same_length ss cs (others s c ss cs h))

module _ (s c : ℕ) (ss cs : List ℕ) (g : Inside (s ∷ ss) (c ∷ cs)) where
  fewer : Inside ss cs
  unfolding product
  fewer =
      let h = first s c ss cs g.all in
      record {
        all = others s c ss cs g.all;
        few = omega (arith, mul-le-mul_right {m = 1} {n = s} (product ss) (omega arith), g.few);
      }

  fits : c + s * sample_number ss cs ≤ max_extent
  unfolding product
  fits =
      let b = below ss cs (others s c ss cs g.all) in
      omega (arith, under c s (sample_number ss cs) (product ss) (first s c ss cs g.all) b, g.few)

-- at an axis of two lists
module _ (ss cs : List ℕ) (i : ℕ) (h : i < length ss) (g : Inside (drop i ss) (drop i cs)) where
  pub in_coords : i < length cs
  in_coords = omega (arith, same_length (drop i ss) (drop i cs) g.all, length-drop i ss, length-drop i cs)

  apart : Inside (get_or ss i 0 ∷ drop (i + 1) ss) (get_or cs i 0 ∷ drop (i + 1) cs)
  apart = subst₂ Inside (drop_next ss i h) (drop_next cs i in_coords) g

  pub inside_next : Inside (drop (i + 1) ss) (drop (i + 1) cs)
  inside_next = fewer (get_or ss i 0) (get_or cs i 0) (drop (i + 1) ss) (drop (i + 1) cs) apart

  pub number_next : sample_number (drop i ss) (drop i cs) ≡ get_or cs i 0 + get_or ss i 0 * sample_number (drop (i + 1) ss) (drop (i + 1) cs)
  unfolding sample_number
  number_next = rw (drop_next ss i h, drop_next cs i in_coords)

  pub number_fits : get_or cs i 0 + get_or ss i 0 * sample_number (drop (i + 1) ss) (drop (i + 1) cs) ≤ max_extent
  number_fits = fits (get_or ss i 0) (get_or cs i 0) (drop (i + 1) ss) (drop (i + 1) cs) apart

-- no axis is left
pub number_end : (ss cs : List ℕ) (i : ℕ) → length ss ≤ i → sample_number (drop i ss) (drop i cs) ≡ 0
unfolding sample_number
number_end ss cs i h = rw (drop_of_length-le ss h)

-- ---- the call

-- the reading's axes: it has a size for each, and their product is within the limit
pub record Axes (file coords : List ℕ) (x : Reading) : Type 0 where
  pub many : x.dimension ≤ length x.sizes
  pub few : product (take x.dimension x.sizes) ≤ max_extent
  pub number : number_in (take x.dimension x.sizes) coords ≡ sample_number_call file coords

module _ (file coords : List ℕ) (a : ReadAnswer) (is : a ≡ read_header_call file) where
  -- the reading is accepted
  pub number_axes : a.refusal.number ≡ 0 → Axes file coords a.reading
  unfolding reading_of
  number_axes z = go (header file) refl is (header_numbered file)
    where
      go : (o : Outcome) → header file ≡ o → a ≡ read_answer o → NumberedOutcome o → Axes file coords a.reading
      go (refused r) p q n = absurd (let g : ⊥ = omega (arith, ap (λ (x : ReadAnswer). x.refusal.number) q) in g)
      go (accepted es gs ls) p q n =
          record {
            many = rw q (header_axes file p);
            few = rw (q, header_sizes file p) (product_few file p);
            number = rw (q, header_sizes file p, p);
          }
