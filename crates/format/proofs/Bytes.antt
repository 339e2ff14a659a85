-- Laws of the tests on bytes and texts.
-- Assumes nothing.
use mathlib.Core.Path.{◌≡◌, refl, sym, ap, ◌∙◌}
use Prim.Native.Nat.{ℕ, zero, suc, ◌+◌, ◌<◌, ◌≤◌}
use native.Mathlib.Omega.{arith}
use mathlib.Core.Bool.{Bool, true, false, ◌&&◌, ◌||◌, false≢true}
use mathlib.Core.List.{List, [], ◌∷◌, ◌++◌}
use mathlib.Core.Option.{Option, none, some}
use lib.Dec.{eqb}
use lib.ListN.{length, take, get_or}
use borrow.Author.Tests.{eqb-true, eqb-false, eq-eqb}
use Rattle.format.specs.Bytes.{every, every_below, same, each, onto}

-- ---- two tests at once

pub and_left : (a b : Bool) → (a && b) ≡ true → a ≡ true
and_left true b h = refl
and_left false b h = h

pub and_right : (a b : Bool) → (a && b) ≡ true → b ≡ true
and_right true b h = h
and_right false b h = absurd (false≢true h)

pub and_both : (a b : Bool) → a ≡ true → b ≡ true → (a && b) ≡ true
and_both true b h i = i
and_both false b h i = h

pub neither : (a b : Bool) → a ≡ false → b ≡ false → (a || b) ≡ false
neither a b p q = rw (p, q)

pub or-false : (a b : Bool) → (a || b) ≡ false → (a ≡ false) × (b ≡ false)
or-false true b h = absurd (false≢true (sym h))
or-false false b h = (refl, h)

-- ---- a test of every number below n holds of each

pub every_below_lem : (p : ℕ → Bool) (n : ℕ) → every_below p n ≡ true → (i : ℕ) → i < n → p i ≡ true
unfolding every_below
every_below_lem p zero h i l = absurd (omega arith)
every_below_lem p (suc n) h i l = go (eqb i n) refl (λ k. every_below_lem p n (and_right (p n) (every_below p n) h) i k)
  where
    go : (x : Bool) → eqb i n ≡ x → (i < n → p i ≡ true) → p i ≡ true
    go true q on = rw (eqb-true i n q) (and_left (p n) (every_below p n) h)
    go false q on = on (omega (arith, eqb-false i n q))

-- ---- `same` is equality

pub same_refl : (a : List ℕ) → same a a ≡ true
unfolding same
same_refl [] = refl
same_refl (b ∷ a) = and_both (eqb b b) (same a a) (eq-eqb b b refl) (same_refl a)

pub same_true : (a c : List ℕ) → same a c ≡ true → a ≡ c
unfolding same
same_true [] [] h = refl
same_true [] (d ∷ c) h = absurd (false≢true h)
same_true (b ∷ a) [] h = absurd (false≢true h)
same_true (b ∷ a) (d ∷ c) h =
    let p : b ≡ d = eqb-true b d (and_left (eqb b d) (same a c) h) in
    let q : a ≡ c = same_true a c (and_right (eqb b d) (same a c) h) in
    cc

pub same_false : (a c : List ℕ) → same a c ≡ false → a ≡ c → ⊥
same_false a c h e = false≢true (sym h ∙ rw e (same_refl c))

-- the order of the two texts does not matter
pub same_comm : (a c : List ℕ) → same a c ≡ same c a
same_comm a c = go (same a c) refl (same c a) refl
  where
    go : (x : Bool) → same a c ≡ x → (y : Bool) → same c a ≡ y → x ≡ y
    go true e true f = refl
    go true e false f = absurd (same_false c a f (sym (same_true a c e)))
    go false e true f = absurd (same_false a c e (sym (same_true c a f)))
    go false e false f = refl

pub same_swap : (a c : List ℕ) → same a c ≡ false → same c a ≡ false
same_swap a c h = same_comm c a ∙ h

-- ---- a test of every byte

module _ (p : ℕ → Bool) where
  pub every_append : (a c : List ℕ) → every p a ≡ true → every p c ≡ true → every p (a ++ c) ≡ true
  unfolding every
  every_append [] c h i = i
  every_append (b ∷ a) c h i =
      and_both (p b) (every p (a ++ c)) (and_left (p b) (every p a) h) (every_append a c (and_right (p b) (every p a) h) i)

  pub every_left : (a c : List ℕ) → every p (a ++ c) ≡ true → every p a ≡ true
  unfolding every
  every_left [] c h = refl
  every_left (b ∷ a) c h =
      and_both (p b) (every p a) (and_left (p b) (every p (a ++ c)) h) (every_left a c (and_right (p b) (every p (a ++ c)) h))

  pub every_right : (a c : List ℕ) → every p (a ++ c) ≡ true → every p c ≡ true
  unfolding every
  every_right [] c h = h
  every_right (b ∷ a) c h = every_right a c (and_right (p b) (every p (a ++ c)) h)

-- a test that another one implies
pub every_weaker : (p q : ℕ → Bool) → ((b : ℕ) → p b ≡ true → q b ≡ true) → (s : List ℕ)
    → every p s ≡ true → every q s ≡ true
unfolding every
every_weaker p q w [] h = refl
every_weaker p q w (b ∷ s) h =
    and_both (q b) (every q s) (w b (and_left (p b) (every p s) h)) (every_weaker p q w s (and_right (p b) (every p s) h))

-- ---- lists by number

module _ {A : Type 0} (v : ℕ → A) where
  pub length_each : (i n : ℕ) → length (each v i n) ≡ n
  unfolding each
  length_each i zero = refl
  length_each i (suc n) = rw (length_each (i + 1) n)

  -- the first k of n
  pub take_each : (i k n : ℕ) → k ≤ n → take k (each v i n) ≡ each v i k
  unfolding each
  take_each i zero n l = refl
  take_each i (suc k) zero l = absurd (omega arith)
  take_each i (suc k) (suc n) l = rw (take_each (i + 1) k n (omega arith))

  -- the one after k others
  pub each_from : (d : A) (i n k : ℕ) → k < n → get_or (each v i n) k d ≡ v (i + k)
  unfolding each
  each_from d i zero k l = absurd (omega arith)
  each_from d i (suc n) zero l = ap v (omega arith)
  each_from d i (suc n) (suc k) l = each_from d (i + 1) n k (omega arith) ∙ ap v (omega arith)

-- two that say the same of each number
pub each_same : {A : Type 0} (v w : ℕ → A) (i n : ℕ) → ((k : ℕ) → i ≤ k → k < i + n → v k ≡ w k) → each v i n ≡ each w i n
unfolding each
each_same v w i zero h = refl
each_same v w i (suc n) h = rw (h i (omega arith) (omega arith), each_same v w (i + 1) n (λ k l m. h k (omega arith) (omega arith)))

-- ---- answers that may be missing

-- where a byte stands in front of what is there, something is there
pub onto_some : (b : ℕ) (o : Option (List ℕ)) (s : List ℕ) → onto b o ≡ some s → (u : List ℕ) × (o ≡ some u) × (s ≡ b ∷ u)
onto_some b none s h = ([], cc, cc)
onto_some b (some u) s h = (u, refl, cc)
