-- Laws of the decimals before the first that is none: what a loop has passed, and what is left.
-- Assumes nothing.
use mathlib.Core.Path.{◌≡◌, refl, ap, ◌∙◌}
use mathlib.Core.List.{List, [], ◌∷◌, ◌++◌, append-nil, append_assoc}
use Prim.Native.Nat.{ℕ, ◌+◌, ◌≤◌, ◌<◌}
use native.Mathlib.Omega.{arith}
use borrow.Author.Tests.{ne_eqb}
use lib.ListN.{length, get_or, take, drop}
use Rattle.format.specs.declared.Decimal.{Decimal}
use Rattle.format.specs.Bytes.{bytes}
use Rattle.format.specs.HeaderWriter.{vector_text, direction_text}
use Rattle.format.proofs.Stores.{take_more}
use Rattle.format.specs.HeaderWriter.{is_none, until_none, vector_of, starts_none, direction_of}
use Rattle.write_vectors.proofs.Entries.{entry_next, entry_over}

-- none of the first i of v is none
pub record Passed (v : List Decimal) (n i : ℕ) : Type 0 where
  pub few : i ≤ n
  pub within : n ≤ length v
  pub left : vector_of n v ≡ take i v ++ until_none (drop i (take n v))

pub passed_none : (v : List Decimal) (n : ℕ) → n ≤ length v → Passed v n 0
passed_none v n h = record { few = omega arith; within = h; left = refl }

module _ {v : List Decimal} {n i : ℕ} (p : Passed v n i) where
  module _ (z : Decimal) (h : i < n) where
    next : vector_of n v ≡ take i v ++ until_none (get_or v i z ∷ drop (i + 1) (take n v))
    next = p.left ∙ ap (λ (s : List Decimal). take i v ++ until_none s) (entry_next v n i p.within z h)

    pub passed_more : ((get_or v i z).kind ≡ 4 → ⊥) → Passed v n (i + 1)
    unfolding until_none
    passed_more e = record {
      few = omega arith;
      within = p.within;
      left = next ∙ rw (ne_eqb (get_or v i z).kind 4 e, take_more v i z (omega (arith, p.within)), append_assoc (take i v) (get_or v i z ∷ []) (until_none (drop (i + 1) (take n v))));
    }

    pub passed_all : (get_or v i z).kind ≡ 4 → vector_of n v ≡ take i v
    unfolding until_none
    passed_all e = next ∙ rw (e, append-nil (take i v))

  pub passed_over : n ≤ i → vector_of n v ≡ take i v
  unfolding until_none
  passed_over h = p.left ∙ ap (λ (s : List Decimal). take i v ++ until_none s) (entry_over v n i p.within h) ∙ append-nil (take i v)

-- what the first decimal says of a direction
starts : (v : List Decimal) (z : Decimal) → 1 ≤ length v → starts_none v ≡ is_none (get_or v 0 z)
starts [] z h = absurd (omega arith)
starts (d ∷ v) z h = refl

module _ (v : List Decimal) (n : ℕ) (z : Decimal) (h : 1 ≤ length v) where
  pub none_is : (get_or v 0 z).kind ≡ 4 → bytes "none" ≡ direction_text (direction_of n v)
  none_is e = rw (starts v z h, e)

  pub along_is : ((get_or v 0 z).kind ≡ 4 → ⊥) → vector_text (vector_of n v) ≡ direction_text (direction_of n v)
  along_is e = rw (starts v z h, ne_eqb (get_or v 0 z).kind 4 e)
