-- Laws of printing: one text after the other, and what is left to print in a loop.
-- Assumes nothing.
use Prim.Native.Nat.{ℕ, ◌+◌, ◌≤◌}
use native.Mathlib.Omega.{arith}
use mathlib.Core.Path.{◌≡◌, refl, sym, ap, ◌∙◌}
use mathlib.Core.List.{List, [], ◌∷◌, ◌++◌}
use lib.ListN.{length, length-append}
use lib.Seq.{sets, length-sets, set_out}
use Rattle.format.proofs.Stores.{sets_then}
use Rattle.listing_print.specs.Printed.{Printed}

-- ---- a text

-- a byte past the end of the buffer
pub byte_past : (d : List ℕ) (at b : ℕ) → length d ≤ at → Printed 1 d at (b ∷ []) d (at + 1)
byte_past d at b h = record { place = refl; stored = sym (set_out d at b h); long = omega arith }

-- nothing
pub printed_none : (m : ℕ) (d : List ℕ) (at : ℕ) → Printed m d at [] d at
printed_none m d at = record { place = omega arith; stored = refl; long = omega arith }

module _ {m : ℕ} {d : List ℕ} {at : ℕ} {u d' : List ℕ} {a : ℕ} (p : Printed m d at u d' a) where
  -- and a text after it
  pub printed_then : {n : ℕ} {v d'' : List ℕ} {b : ℕ} → Printed n d' a v d'' b → Printed (m + n) d at (u ++ v) d'' b
  printed_then {n} {v} {d''} {b} q =
      record {
        place = omega (arith, p.place, q.place, length-append u v);
        stored = q.stored ∙ ap (λ (x : List ℕ). sets x a v) p.stored ∙ sets_then d u v at a p.place;
        long = omega (arith, p.long, q.long);
      }

  -- by a larger bound
  pub printed_more : (n : ℕ) → m ≤ n → Printed n d at u d' a
  printed_more n h = record { place = p.place; stored = p.stored; long = omega (arith, p.long) }

  -- by the length of the text
  pub printed_short : (n : ℕ) → length u ≤ n → Printed n d at u d' a
  printed_short n h = record { place = p.place; stored = p.stored; long = omega (arith, p.place) }

  -- the text by another name
  pub printed_is : {v : List ℕ} → u ≡ v → Printed m d at v d' a
  printed_is e = record { place = p.place ∙ ap (λ (x : List ℕ). at + length x) e; stored = p.stored ∙ ap (sets d at) e; long = p.long }

-- ---- a loop that prints `run` from `at` on: `rest` is left, and goes to the buffer d from o on

pub record Printing (d₀ : List ℕ) (at : ℕ) (run d : List ℕ) (o : ℕ) (rest : List ℕ) : Type 0 where
  pub place : at + length run ≡ o + length rest
  pub stored : sets d₀ at run ≡ sets d o rest
  pub kept : length d ≡ length d₀

pub printing_start : (d : List ℕ) (at : ℕ) (run : List ℕ) → Printing d at run d at run
printing_start d at run = record { place = refl; stored = refl; kept = refl }

module _ {d₀ : List ℕ} {at : ℕ} {run d : List ℕ} {o : ℕ} {rest : List ℕ} (p : Printing d₀ at run d o rest) where
  -- the next text is printed
  pub printing_more : {m : ℕ} {u d' : List ℕ} {o' : ℕ} (rest' : List ℕ) → rest ≡ u ++ rest' → Printed m d o u d' o'
      → Printing d₀ at run d' o' rest'
  printing_more {m} {u} {d'} {o'} rest' e q =
      record {
        place = omega (arith, p.place, q.place, ap length e, length-append u rest');
        stored =
            p.stored ∙ ap (sets d o) e ∙ sym (ap (λ (x : List ℕ). sets x o' rest') q.stored ∙ sets_then d u rest' o o' q.place);
        kept = ap length q.stored ∙ length-sets d o u ∙ p.kept;
      }

  -- nothing is left
  pub printing_done : (m : ℕ) → rest ≡ [] → o ≤ at + m → Printed m d₀ at run d o
  printing_done m e h =
      record {
        place = omega (arith, p.place, ap length e);
        stored = sym (p.stored ∙ ap (sets d o) e);
        long = h;
      }
