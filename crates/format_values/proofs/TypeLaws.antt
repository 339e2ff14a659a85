-- Laws of the types by their numbers, and of the widths and bounds of samples.
-- Assumes nothing.
use Rattle.std.specs.Prelude.{if◌then◌else◌}
use Prim.Native.Nat.{ℕ, zero, suc, ◌-◌, ◌^◌, ◌/◌, ◌≤◌, ◌<◌}
use native.Mathlib.Omega.{arith}
use mathlib.Core.Path.{◌≡◌, refl, sym, ap, ◌∙◌}
use mathlib.Core.Logic.{inl, inr}
use mathlib.Core.Bool.{Bool, true, false, ◌&&◌, false≢true}
use mathlib.Core.List.{[]}
use lib.Dec.{eqb, ltb, leb, lit≤, lit<}
use lib.ListN.{get_or-eq_default}
use borrow.Author.Tests.{ltb-true, ltb-false, le-leb}
use Rattle.format.specs.Descriptors.{SampleType, sample_type, types, NumberKind, signed, unsigned, floating, type_at, sample_bytes, bytes_of_type, number_kind, number_kind_type, is_floating, is_signed}
use Rattle.format.specs.Samples.{lowest, highest}
use Rattle.std.specs.Prelude.{Result, Ok, Err, MatchResult}
use Rattle.std.specs.Result.{result_unwrap_or}
use Rattle.format.specs.Codes.{type_code}
use Rattle.format.specs.declared.codes.NotListed.{NotListed}
use Rattle.format.specs.declared.codes.SampleType.TheVariants.{Int8}
use Rattle.format.specs.Widths.{Width, width_by, kind_by}

-- ---- a rule of every sample type, from its ten cases

pub below_10 : (P : ℕ → Type 0) → P 0 → P 1 → P 2 → P 3 → P 4 → P 5 → P 6 → P 7 → P 8 → P 9 → (t : ℕ) → t < 10 → P t
below_10 P a b c d e f g h i j zero l = a
below_10 P a b c d e f g h i j (suc zero) l = b
below_10 P a b c d e f g h i j (suc (suc zero)) l = c
below_10 P a b c d e f g h i j (suc (suc (suc zero))) l = d
below_10 P a b c d e f g h i j (suc (suc (suc (suc zero)))) l = e
below_10 P a b c d e f g h i j (suc (suc (suc (suc (suc zero))))) l = f
below_10 P a b c d e f g h i j (suc (suc (suc (suc (suc (suc zero)))))) l = g
below_10 P a b c d e f g h i j (suc (suc (suc (suc (suc (suc (suc zero))))))) l = h
below_10 P a b c d e f g h i j (suc (suc (suc (suc (suc (suc (suc (suc zero)))))))) l = i
below_10 P a b c d e f g h i j (suc (suc (suc (suc (suc (suc (suc (suc (suc zero))))))))) l = j
below_10 P a b c d e f g h i j (suc (suc (suc (suc (suc (suc (suc (suc (suc (suc t)))))))))) l = absurd (omega arith)

-- and from the stand-in past the list
pub type_past : (t : ℕ) → 10 ≤ t → type_at t ≡ sample_type "int8" 1 signed []
unfolding type_at
type_past t h = get_or-eq_default types (sample_type "int8" 1 signed []) h

-- a number stands for the type that it names, and else for the first
module _ (t : ℕ) where
  pub bytes_or_first : (named : Result _ NotListed) → MatchResult named (λ e. type_code e ≡ t) (λ _. 10 ≤ t)
      → sample_bytes (type_code (result_unwrap_or named Int8)) ≡ sample_bytes t
  unfolding type_at
  bytes_or_first (Ok e) h = ap sample_bytes h
  bytes_or_first (Err e) h = sym (ap bytes_of_type (type_past t h))

  pub kind_or_first : (named : Result _ NotListed) → MatchResult named (λ e. type_code e ≡ t) (λ _. 10 ≤ t)
      → number_kind (type_code (result_unwrap_or named Int8)) ≡ number_kind t
  unfolding type_at
  kind_or_first (Ok e) h = ap number_kind h
  kind_or_first (Err e) h = sym (ap number_kind_type (type_past t h))

pub every_type : (P : SampleType → Type 0) → P (type_at 0) → P (type_at 1) → P (type_at 2) → P (type_at 3) → P (type_at 4) → P (type_at 5) → P (type_at 6) → P (type_at 7) → P (type_at 8)
    → P (type_at 9) → P (sample_type "int8" 1 signed []) → (t : ℕ) → P (type_at t)
every_type P a b c d e f g h i j s t = go (ltb t 10) refl
  where
    go : (x : Bool) → ltb t 10 ≡ x → P (type_at t)
    go true q = below_10 (λ t. P (type_at t)) a b c d e f g h i j t (ltb-true t 10 q)
    go false q = rw (type_past t (ltb-false t 10 q)) s

-- ---- bytes

pub type_width : (t : ℕ) → Width (sample_bytes t)
unfolding type_at
type_width =
    every_type (λ x. Width (bytes_of_type x)) (inl refl) (inl refl) (inr (inl refl)) (inr (inl refl)) (inr (inr (inl refl))) (inr (inr (inl refl))) (inr (inr (inr refl))) (inr (inr (inr refl)))
    (inr (inr (inl refl))) (inr (inr (inr refl))) (inl refl)

-- a sample has a byte or more
pub type_bytes : (t : ℕ) → 1 ≤ sample_bytes t
unfolding type_at
type_bytes = every_type (λ x. 1 ≤ bytes_of_type x) (lit≤ tt) (lit≤ tt) (lit≤ tt) (lit≤ tt) (lit≤ tt) (lit≤ tt) (lit≤ tt) (lit≤ tt) (lit≤ tt) (lit≤ tt) (lit≤ tt)

-- ---- kinds

pub floating_is : (t : ℕ) → (leb 8 t && ltb t 10) ≡ is_floating (number_kind t)
unfolding type_at
floating_is t = go (ltb t 10) refl
  where
    go : (x : Bool) → ltb t 10 ≡ x → (leb 8 t && ltb t 10) ≡ is_floating (number_kind t)
    go true q = below_10 (λ t. (leb 8 t && ltb t 10) ≡ is_floating (number_kind t)) refl refl refl refl refl refl refl refl refl refl t (ltb-true t 10 q)
    go false q =
        let h : 10 ≤ t = ltb-false t 10 q in
        rw (type_past t h, q, le-leb 8 t (omega arith))

-- the kind of an integer type by its sign
pub kind_by_lem : (k : NumberKind) → is_floating k ≡ false → kind_by (is_signed k) ≡ k
kind_by_lem signed e = refl
kind_by_lem unsigned e = refl
kind_by_lem floating e = absurd (false≢true (sym e))

-- ---- widths

pub width_by_lem : (w : ℕ) → Width w → width_by w ≡ w
width_by_lem w (inl e) = rw e
width_by_lem w (inr (inl e)) = rw e
width_by_lem w (inr (inr (inl e))) = rw e
width_by_lem w (inr (inr (inr e))) = rw e

-- what holds of each width holds of the one that a number stands for
by_tests : (P : ℕ → Type 0) → P 1 → P 2 → P 4 → P 8 → (w : ℕ) → P (width_by w)
by_tests P a b c d w = go (eqb w 1) (eqb w 2) (eqb w 4)
  where
    go : (x y z : Bool) → P (if x then 1 else if y then 2 else if z then 4 else 8)
    go true y z = a
    go false true z = b
    go false false true = c
    go false false false = d

-- ---- bounds

module _ {h : ℕ} (w : ℕ) (e : h ≡ 256 ^ width_by w / 2) where
  pub half_pos : 1 ≤ h
  half_pos = rw e (by_tests (λ w. 1 ≤ 256 ^ w / 2) (lit≤ tt) (lit≤ tt) (lit≤ tt) (lit≤ tt) w)

  -- the greatest value
  pub highest_signed : h - 1 ≡ highest signed (width_by w)
  highest_signed = rw e

-- both bounds fit the largest sample
pub lowest_most : (b : Bool) (w : ℕ) → lowest (kind_by b) (width_by w) ≤ 2 ^ 63
lowest_most true w = by_tests (λ w. lowest signed w ≤ 2 ^ 63) (lit≤ tt) (lit≤ tt) (lit≤ tt) (lit≤ tt) w
lowest_most false w = lit≤ tt

pub highest_most : (b : Bool) (w : ℕ) → highest (kind_by b) (width_by w) < 2 ^ 63
highest_most true w = by_tests (λ w. highest signed w < 2 ^ 63) (lit< tt) (lit< tt) (lit< tt) (lit< tt) w
highest_most false w = by_tests (λ w. highest unsigned w < 2 ^ 63) (lit< tt) (lit< tt) (lit< tt) (lit< tt) w
