-- Laws of `sets l i vs`, the list l with vs stored from index i, and of the loops that store: what is left to store after each turn.
-- Assumes nothing.
use Rattle.std.specs.Prelude.{if◌then◌else◌}
use mathlib.Core.Path.{◌≡◌, refl, sym, ap, ◌∙◌}
use mathlib.Core.Bool.{Bool, true, false}
use mathlib.Core.List.{List, [], ◌∷◌, ◌++◌, reverse, reverse-cons}
use Prim.Native.Nat.{ℕ, suc, ◌+◌, ◌-◌, ◌/◌, ◌%◌, ◌≤◌, ◌<◌}
use native.Mathlib.Nat.{add-zero, sub-zero}
use native.Mathlib.Numerals.{add-one}
use native.Mathlib.Omega.{arith}
use lib.Dec.{eqb}
use lib.ListN.{length, get_or, set, take, drop, length-append, length-set, length-reverse}
use lib.Seq.{sets, sets-eq, take_at, length-sets, set-set, drop-cons}
use Rattle.format.specs.Descriptors.{big}
use Rattle.format.specs.Samples.{to_bytes, ordered}
use Rattle.format.proofs.Samples.{length_to_bytes}
use Rattle.format.proofs.Stores.{sets_then, sets_before}

module _ {ℓ} {A : Type ℓ} where
  -- one element, and a run after it
  pub set_then : (l v : List A) (i : ℕ) (a : A) → sets (set l i a) (i + 1) v ≡ sets l i (a ∷ v)
  set_then l v i a = ap (λ (k : ℕ). sets (set l i a) k v) (add-one i)

  -- a run of at least one element takes the place of what was stored where it begins
  pub set_under : (l v : List A) (i : ℕ) (a : A) → 1 ≤ length v → sets (set l i a) i v ≡ sets l i v
  set_under l [] i a h = absurd (omega arith)
  set_under l (b ∷ v) i a h = ap (λ (m : List A). sets m (suc i) v) (set-set l i a b)

-- what stands at the front of a list where a run was stored
pub stored_front : (x l run : List ℕ) (n : ℕ) → x ≡ sets l 0 run → n ≡ length run → n ≤ length l → take n x ≡ run
stored_front x l run n e q h =
    let k : 0 + length run ≤ length l = omega arith in
    ap (take n) (e ∙ sets-eq run l 0 k) ∙ take_at run (drop (0 + length run) l) n (sym q)

-- ---- the elements of zs from i on

pub drop_next : {A : Type 0} (zs : List A) (i : ℕ) (z : A) → i < length zs → drop i zs ≡ get_or zs i z ∷ drop (i + 1) zs
drop_next zs i z h = rw add-one (drop-cons zs i z h)

-- ---- a loop that stores `run` piece by piece: d as it is where `rest`, what is left of it, goes to place o

pub record Putting (run d₀ : List ℕ) (at : ℕ) (d : List ℕ) (o : ℕ) (rest : List ℕ) : Type 0 where
  pub long : length d ≡ length d₀
  pub room : o + length rest ≡ at + length run
  pub left : sets d₀ at run ≡ sets d o rest

pub putting_none : (run d₀ : List ℕ) (at : ℕ) (rest : List ℕ) → rest ≡ run → Putting run d₀ at d₀ at rest
putting_none run d₀ at rest e = record { long = refl; room = ap (λ (r : List ℕ). at + length r) e; left = ap (sets d₀ at) (sym e) }

module _ {run d₀ : List ℕ} {at : ℕ} {d : List ℕ} {o : ℕ} {rest : List ℕ} (p : Putting run d₀ at d o rest) where
  module _ (u v : List ℕ) (e : rest ≡ u ++ v) where
    -- there is room for the next piece
    pub putting_room : o + length u ≤ at + length run
    putting_room = omega (arith, p.room, ap length e, length-append u v)

    -- it is stored
    pub putting_more : (d' : List ℕ) (o' : ℕ) → d' ≡ sets d o u → o' ≡ o + length u → Putting run d₀ at d' o' v
    putting_more d' o' q k = record {
      long = ap length q ∙ length-sets d o u ∙ p.long;
      room = omega (arith, p.room, ap length e, length-append u v);
      left = p.left ∙ ap (sets d o) e ∙ sym (sets_then d u v o o' k) ∙ ap (λ (r : List ℕ). sets r o' v) (sym q);
    }

  module _ (e : rest ≡ []) where
    pub putting_done : d ≡ sets d₀ at run
    putting_done = sym (p.left ∙ ap (sets d o) e)

    pub putting_end : o ≡ at + length run
    putting_end = omega (arith, p.room, ap length e)
