-- What is looked up among the fields that a written header gives: `looked`, and the dimensions that descriptors are read by.
-- Assumes nothing.
use Rattle.std.specs.Prelude.{if◌then◌else◌}
use Prim.Native.Nat.{ℕ}
use mathlib.Core.Path.{◌≡◌, refl, ap, ◌∙◌}
use mathlib.Core.Bool.{Bool, true, false, not, ◌&&◌, ◌||◌}
use mathlib.Core.List.{List}
use mathlib.Core.Option.{Option, none, some}
use lib.Dec.{eqb}
use borrow.Author.Tests.{eqb-true}
use Rattle.format.specs.Bytes.{is_some, or_default}
use Rattle.format.specs.Fields.{Given, descriptor_of, is_given, needs_dimension, needs_space, in_order, dimension, space, space_dimension}
use Rattle.format.specs.Descriptors.{meaning, number_said, dimension_of, no_space, space_of, space_size_of}
use Rattle.format.specs.Spaces.{space_size, space_named}
use Rattle.format.specs.Writer.{decimal}
use Rattle.format.specs.HeaderWriter.{space_text}
use Rattle.format.proofs.Bytes.{and_right}
use Rattle.format.proofs.Writer.{number_of_decimal}
use Rattle.theorem_headers.specs.HeadersBack.{mapped, size_by, has_space}
use Rattle.theorem_headers.proofs.Lined.{with_given, If}

-- ---- a field that may be given

pub mapped_some : {A B : Type 0} (f : A → B) (o : Option A) → is_some (mapped f o) ≡ is_some o
mapped_some f none = refl
mapped_some f (some a) = refl

-- what is looked up for the field g: the text of what is given where it is f, and else what `rest` has
abbrev pub or_field : {A : Type 0} → ℕ → (A → List ℕ) → Option A → (ℕ → Option (List ℕ)) → ℕ → Option (List ℕ)
or_field f show o rest g = if eqb g f then mapped show o else rest g

module _ {A : Type 0} (f : ℕ) (show : A → List ℕ) (o : Option A) (gs : List Given) (rest : ℕ → Option (List ℕ)) where
  -- the fields are those of `rest`, where f is new
  pub looked : ((g : ℕ) → descriptor_of g gs ≡ rest g) → rest f ≡ none → (g : ℕ) → descriptor_of g (with_given f show o gs) ≡ or_field f show o rest g
  unfolding descriptor_of
  looked h new g = go o (eqb g f) refl
    where
      go : (o : Option A) (x : Bool) → eqb g f ≡ x → descriptor_of g (with_given f show o gs) ≡ (if x then mapped show o else rest g)
      go none true q = h g ∙ ap rest (eqb-true g f q) ∙ new
      go none false q = h g
      go (some a) true q = rw q
      go (some a) false q = rw q (h g)

-- ---- the dimensions that descriptors are read by

pub record Dimensions (axes : ℕ) (i size : Option ℕ) (gs : List Given) : Type 0 where
  pub of_axes : descriptor_of dimension gs ≡ some (decimal axes)
  pub of_space : descriptor_of space gs ≡ mapped space_text i
  pub of_size : descriptor_of space_dimension gs ≡ mapped decimal size

module _ {axes : ℕ} {i size : Option ℕ} {gs : List Given} (d : Dimensions axes i size gs) where
  pub axes_are : dimension_of gs ≡ axes
  axes_are = rw (d.of_axes, number_of_decimal axes)

  pub space_is : If i (λ k. space_named (space_text k) ≡ some k) → space_of gs ≡ or_default no_space i
  space_is h = rw d.of_space (go i h)
    where
      go : (i : Option ℕ) → If i (λ k. space_named (space_text k) ≡ some k) → meaning no_space (number_said space) (mapped space_text i) ≡ or_default no_space i
      go none h = refl
      go (some k) h = rw h

  pub size_is : If i (λ k. space_named (space_text k) ≡ some k) → space_size_of gs ≡ size_by i size
  size_is h = rw (space_is h, d.of_space, d.of_size) (go i size)
    where
      go : (i size : Option ℕ)
          → (if is_some (mapped space_text i) then space_size (or_default no_space i) else meaning 0 (number_said space_dimension) (mapped decimal size)) ≡ size_by i size
      go (some k) size = refl
      go none (some n) = rw (number_of_decimal n)
      go none none = refl

  -- a field that lies in a space may come here exactly where there is one
  there_is : (is_given space gs || is_given space_dimension gs) ≡ has_space i size
  there_is = rw (d.of_space, d.of_size, mapped_some space_text i, mapped_some decimal size)

  pub order_on : (f : ℕ) → has_space i size ≡ true → in_order f gs ≡ true
  unfolding in_order
  order_on f h = rw (d.of_axes, there_is, h) (go (needs_dimension f) (needs_space f))
    where
      go : (a b : Bool) → ((not a || true) && (not b || true)) ≡ true
      go true true = refl
      go true false = refl
      go false true = refl
      go false false = refl

  pub order_of : (f : ℕ) → needs_space f ≡ true → in_order f gs ≡ true → has_space i size ≡ true
  unfolding in_order
  order_of f n h =
      let k = and_right (not (needs_dimension f) || is_given dimension gs) (not (needs_space f) || (is_given space gs || is_given space_dimension gs)) h in
      rw (n, there_is) at k
