-- The words nan, inf, infinity after a sign: what `component` says of them.
-- Assumes nothing.
use Rattle.std.specs.Prelude.{if◌then◌else◌}
use Prim.Native.Nat.{ℕ, ◌+◌, ◌≤◌}
use native.Mathlib.Omega.{arith}
use mathlib.Core.Path.{◌≡◌, refl}
use mathlib.Core.Bool.{Bool, true, false, ◌||◌, false≢true}
use mathlib.Core.List.{List, [], ◌∷◌, ◌++◌}
use mathlib.Core.Option.{some}
use lib.Dec.{eqb}
use borrow.Author.Tests.{eqb-true, ne_eqb}
use Rattle.format.specs.Bytes.{bytes, between, small, alike}
use Rattle.format.specs.Decimals.{marked, nan, inf, minus_inf, component}
use Rattle.format.proofs.Bytes.{and_left}
use Rattle.theorem_orientation.specs.Meaning.{Sign, bare, plus, minus, sign_text, infinite, is_nan, is_inf}
use Rattle.theorem_orientation.proofs.Forms.{negative, Begins, minus_read, after_sign_lem}

-- ---- the first letter of a word in any case

record First (c : ℕ) (w : List ℕ) : Type 0 where
  pub first : ℕ
  pub others : List ℕ
  pub is : w ≡ first ∷ others
  pub letter : small first ≡ small c

first_of : (w : List ℕ) (c : ℕ) (cs : List ℕ) → alike w (c ∷ cs) ≡ true → First c w
unfolding alike
first_of [] c cs h = absurd (false≢true h)
first_of (b ∷ w) c cs h =
    record { first = b; others = w; is = refl; letter = eqb-true (small b) (small c) (and_left (eqb (small b) (small c)) (alike w cs) h) }

-- a small letter is at most 32 above
small_near : (b : ℕ) → (b ≤ small b) × (small b ≤ b + 32)
small_near b = go (between 65 90 b)
  where
    go : (t : Bool) → (b ≤ (if t then b + 32 else b)) × ((if t then b + 32 else b) ≤ b + 32)
    go true = (omega arith, omega arith)
    go false = (omega arith, omega arith)

-- it is no sign
first_begins : {c : ℕ} (w : List ℕ) → 78 ≤ small c → First c w → Begins (small c) w
first_begins {c} w h f =
    let n = small_near f.first in
    record { first = f.first; others = f.others; is = f.is; low = omega (arith, n.1, f.letter); high = omega (arith, n.0, f.letter) }

-- and begins no word that begins otherwise
no_other : {c : ℕ} (w : List ℕ) → First c w → (e : ℕ) (es : List ℕ) → (small c ≡ small e → ⊥) → alike w (e ∷ es) ≡ false
unfolding alike
no_other {c} w f e es h = rw (f.is, f.letter, ne_eqb (small c) (small e) h)

-- ---- the words

pub nan_said : (s : Sign) (w : List ℕ) → is_nan w ≡ true → component (sign_text s ++ w) ≡ some (marked nan)
unfolding component
nan_said s w h =
    let b = first_begins w (omega arith) (first_of w 110 (97 ∷ 110 ∷ []) h) in
    rw (after_sign_lem s w b, h)

inf_first : (w : List ℕ) → is_inf w ≡ true → First 105 w
inf_first w h = go (alike w (bytes "inf")) refl h
  where
    go : (t : Bool) → alike w (bytes "inf") ≡ t → (t || alike w (bytes "infinity")) ≡ true → First 105 w
    go true q i = first_of w 105 (110 ∷ 102 ∷ []) q
    go false q i = first_of w 105 (110 ∷ 102 ∷ 105 ∷ 110 ∷ 105 ∷ 116 ∷ 121 ∷ []) i

pub inf_kind : (s : Sign) → (if negative s then minus_inf else inf) ≡ infinite s
inf_kind bare = refl
inf_kind plus = refl
inf_kind minus = refl

pub inf_said : (s : Sign) (w : List ℕ) → is_inf w ≡ true → component (sign_text s ++ w) ≡ some (marked (infinite s))
unfolding component
inf_said s w h =
    let f = inf_first w h in
    let b = first_begins w (omega arith) f in
    rw (minus_read s w b, after_sign_lem s w b, no_other w f 110 (97 ∷ 110 ∷ []) (λ q. omega arith), h, inf_kind s)
