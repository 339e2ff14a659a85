-- Laws of raw samples after raw samples.
-- Assumes nothing.
use Rattle.std.specs.Prelude.{if◌then◌else◌}
use Prim.Native.Nat.{ℕ, zero, suc, ◌+◌, ◌*◌, ◌≤◌}
use native.Mathlib.Nat.{suc-mul}
use native.Mathlib.Omega.{arith}
use mathlib.Core.Path.{◌≡◌, refl, sym, ap, ◌∙◌}
use mathlib.Core.Bool.{Bool, true, false}
use mathlib.Core.List.{List, ◌∷◌, ◌++◌}
use lib.Dec.{eqb}
use borrow.Author.Tests.{eqb-true, eqb-false, ne_eqb}
use lib.IntN.{ℤ}
use lib.ListN.{length, take, drop, length-drop, take-append-drop}
use lib.Seq.{drop-drop, drop-append-le, take-append-le, length-take-le}
use Rattle.format.specs.Refusals.{bad_sample}
use Rattle.format.specs.Descriptors.{NumberKind}
use Rattle.format.specs.Samples.{Decoded, raw_samples, with_sample, stopped, sample_value, in_type}

-- what a comes to, and then b where nothing of a is refused
abbrev pub joined : Decoded → Decoded → Decoded
joined a b = if eqb a.number 0 then record { number = b.number; seen = a.seen ++ b.seen } else a

-- where the first samples are refused, all are
pub joined_bad : (a b : Decoded) → (a.number ≡ 0 → ⊥) → (joined a b).number ≡ a.number
joined_bad a b f = rw (ne_eqb a.number 0 f)

pub joined_good : (a b : Decoded) → a.number ≡ 0 → joined a b ≡ record { number = b.number; seen = a.seen ++ b.seen }
joined_good a b z = rw z

-- where nothing is refused, nothing of the first is
pub joined_first : (a b : Decoded) → (joined a b).number ≡ 0 → a.number ≡ 0
joined_first a b z = go (eqb a.number 0) refl
  where
    go : (t : Bool) → eqb a.number 0 ≡ t → a.number ≡ 0
    go true q = eqb-true a.number 0 q
    go false q = sym (joined_bad a b (eqb-false a.number 0 q)) ∙ z

-- one sample before
pub then_joined : (z : ℤ) (t : Bool) (a b : Decoded) → (if t then with_sample z (joined a b) else stopped bad_sample) ≡ joined (if t then with_sample z a else stopped bad_sample) b
then_joined z false a b = refl
then_joined z true a b = go (eqb a.number 0)
  where
    go : (t : Bool) → with_sample z (if t then record { number = b.number; seen = a.seen ++ b.seen } else a) ≡ (if t then record { number = b.number; seen = z ∷ a.seen ++ b.seen } else with_sample z a)
    go true = refl
    go false = refl

module _ (k : NumberKind) (w e : ℕ) where
  pub raw_then : (n m : ℕ) (s : List ℕ) → raw_samples k w e (n + m) s ≡ joined (raw_samples k w e n s) (raw_samples k w e m (drop (n * w) s))
  unfolding raw_samples
  raw_then zero m s =
      let z : zero + m ≡ m = omega arith in
      let y : zero * w ≡ 0 = omega arith in
      rw (z, y)
  raw_then (suc n) m s =
      let z : suc n + m ≡ suc (n + m) = omega arith in
      let y : w + n * w ≡ suc n * w = omega (arith, suc-mul n w) in
      rw (z, raw_then n m (drop w s), drop-drop (n * w) w s, y) (then_joined (sample_value k e (take w s)) (in_type k w (sample_value k e (take w s))) (raw_samples k w e n (drop w s)) (raw_samples k w e m (drop (suc n * w) s)))

  -- only the bytes of the samples count
  raw_append : (n : ℕ) (s t : List ℕ) → n * w ≤ length s → raw_samples k w e n (s ++ t) ≡ raw_samples k w e n s
  unfolding raw_samples
  raw_append zero s t h = refl
  raw_append (suc n) s t h =
      let l : w ≤ length s = omega (arith, suc-mul n w) in
      rw (take-append-le w s t l, drop-append-le w s t l, raw_append n (drop w s) t (omega (arith, suc-mul n w, length-drop w s)))

  pub raw_front : (n : ℕ) (s t : List ℕ) → n * w ≤ length s → n * w ≤ length t → take (n * w) s ≡ take (n * w) t → raw_samples k w e n s ≡ raw_samples k w e n t
  raw_front n s t h g p = sym (front s h) ∙ ap (raw_samples k w e n) p ∙ front t g
    where
      front : (x : List ℕ) → n * w ≤ length x → raw_samples k w e n (take (n * w) x) ≡ raw_samples k w e n x
      front x l =
          let q : length (take (n * w) x) ≡ n * w = length-take-le (n * w) x l in
          sym (raw_append n (take (n * w) x) (drop (n * w) x) (omega arith)) ∙ ap (raw_samples k w e n) (take-append-drop (n * w) x)

  -- n samples are told, where none is refused
  pub raw_all : (n : ℕ) (s : List ℕ) → (raw_samples k w e n s).number ≡ 0 → length (raw_samples k w e n s).seen ≡ n
  unfolding raw_samples
  raw_all zero s z = refl
  raw_all (suc n) s z = go (in_type k w (sample_value k e (take w s))) z (λ q. raw_all n (drop w s) q)
    where
      go : (t : Bool) → (if t then with_sample (sample_value k e (take w s)) (raw_samples k w e n (drop w s)) else stopped bad_sample).number ≡ 0
          → ((raw_samples k w e n (drop w s)).number ≡ 0 → length (raw_samples k w e n (drop w s)).seen ≡ n)
          → length (if t then with_sample (sample_value k e (take w s)) (raw_samples k w e n (drop w s)) else stopped bad_sample).seen ≡ suc n
      go true q f = ap suc (f q)
      go false q f = absurd (omega arith)
