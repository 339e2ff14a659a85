-- Laws of decimals in lent bytes: of one decimal by its parts, and of several, one after the other.
-- Assumes nothing.
use Prim.Native.Nat.{ℕ, ◌+◌, ◌*◌, ◌-◌, ◌≤◌, ◌<◌}
use native.Mathlib.Omega.{arith}
use mathlib.Core.Path.{◌≡◌, sym, ap, ◌∙◌}
use mathlib.Core.List.{List, [], ◌∷◌, ◌++◌, append-nil, append_assoc}
use lib.IntN.{ℤ}
use lib.ListN.{length, take, drop, get_or, length-append, length-drop}
use lib.Seq.{sets, drop-drop, drop_at, take-add, take_all, take-take, drop-length, length-take-le}
use Rattle.format.specs.declared.Decimal.{Decimal}
use Rattle.format.specs.Bytes.{over}
use Rattle.format.specs.Descriptors.{signed, little}
use Rattle.format.specs.Samples.{from_bytes, to_bytes, to_signed, from_signed, value_bytes}
use Rattle.format.specs.Boundary.{decimal_bytes, decimal_of, decimals_bytes, decimals_lent}
use Rattle.format.proofs.Samples.{length_to_bytes}
use Rattle.format.proofs.Stores.{sets_then, take_more}
use Rattle.format.proofs.Boundary.{decimals_flat, flat_append, length_decimals, length_lent, lent_at}
use Rattle.lent_numbers.specs.Bits.{Bits}
use Rattle.lent_numbers.proofs.Halves.{sample_is}

-- ---- a decimal by its parts

-- n elements from k on, of the w elements at a place
pub part_of {ℓ} : {A : Type ℓ} (s : List A) (at w k n : ℕ) → at + w ≤ length s → k + n ≤ w → take n (drop k (take w (drop at s))) ≡ take n (drop (at + k) s)
part_of s at w k n h l =
    let t = drop at s in
    let e : w ≡ k + (w - k) = omega arith in
    ap (λ (j : ℕ). take n (drop k (take j t))) e
    ∙ ap (λ u. take n (drop k u)) (take-add k (w - k) t)
    ∙ ap (take n) (drop_at (take k t) (take (w - k) (drop k t)) k (length-take-le k t (omega (arith, length-drop at s))))
    ∙ take-take n (w - k) (drop k t) (omega arith)
    ∙ ap (take n) (drop-drop k at s)

-- the decimal at a place
module _ (s : List ℕ) (at : ℕ) (h : at + 16 ≤ length s) {x y z : ℕ} {n p : ℤ} where
  pub decimal_read : Bits 8 (from_bytes (take 8 (drop at s))) x → n ≡ to_signed 8 x
      → Bits 4 (from_bytes (take 4 (drop (at + 8) s))) y → p ≡ to_signed 4 y
      → Bits 4 (from_bytes (take 4 (drop (at + 12) s))) z → ◌≡◌ {A = Decimal} (record { number = n; power = p; kind = z }) (decimal_of (take 16 (drop at s)))
  unfolding decimal_of
  decimal_read a i b j c =
      rw (
        take-take 8 16 (drop at s) (omega arith),
        part_of s at 16 8 4 h (omega arith),
        part_of s at 16 12 4 h (omega arith),
        sample_is s at 8 (omega arith) signed little,
        sample_is s (at + 8) 4 (omega arith) signed little,
        i,
        j,
        a.is,
        b.is,
        c.is,
      )

-- a decimal stored at a place
pub decimal_stored : (d : List ℕ) (at : ℕ) (x : Decimal) {b c : ℕ} {d₁ d₂ d₃ : List ℕ} → b ≡ from_signed 8 x.number → c ≡ from_signed 4 x.power
    → d₁ ≡ sets d at (to_bytes 8 b) → d₂ ≡ sets d₁ (at + 8) (to_bytes 4 c) → d₃ ≡ sets d₂ (at + 12) (to_bytes 4 x.kind) → d₃ ≡ sets d at (decimal_bytes x)
unfolding decimal_bytes value_bytes
decimal_stored d at x {b} {c} i j f g h =
    let u = to_bytes 8 b in
    let v = to_bytes 4 c in
    let w = to_bytes 4 x.kind in
    h
    ∙ ap (λ (l : List ℕ). sets l (at + 12) w) (g ∙ ap (λ (l : List ℕ). sets l (at + 8) v) f)
    ∙ ap (λ (l : List ℕ). sets l (at + 12) w) (sets_then d u v at (at + 8) (omega (arith, length_to_bytes 8 b)))
    ∙ sets_then d (u ++ v) w at (at + 12) (omega (arith, length-append u v, length_to_bytes 8 b, length_to_bytes 4 c))
    ∙ rw (i, j, append_assoc (to_bytes 8 (from_signed 8 x.number)) (to_bytes 4 (from_signed 4 x.power)) w)

-- ---- several decimals

decimals_more : (ds : List Decimal) (x : Decimal) → decimals_bytes (ds ++ (x ∷ [])) ≡ decimals_bytes ds ++ decimal_bytes x
unfolding decimals_bytes
decimals_more ds x =
    decimals_flat (ds ++ (x ∷ [])) ∙ flat_append decimal_bytes ds (x ∷ []) ∙ rw (← decimals_flat ds, ← decimals_flat (x ∷ []), append-nil (decimal_bytes x))

-- decimal i of v stored after those before it
pub column_stored : (d₀ d : List ℕ) (at i : ℕ) (v : List Decimal) (z : Decimal) {d' : List ℕ} → i < length v → d ≡ sets d₀ at (decimals_bytes (take i v))
    → d' ≡ sets d (at + 16 * i) (decimal_bytes (get_or v i z)) → d' ≡ sets d₀ at (decimals_bytes (take (i + 1) v))
column_stored d₀ d at i v z h e f =
    let u = take i v in
    let x = get_or v i z in
    f
    ∙ ap (λ (l : List ℕ). sets l (at + 16 * i) (decimal_bytes x)) e
    ∙ sets_then d₀ (decimals_bytes u) (decimal_bytes x) at (at + 16 * i) (omega (arith, length_decimals u, length-take-le i v (omega arith)))
    ∙ rw (take_more v i z h, decimals_more u x)

-- the column at a place: how many, and decimal i
module _ (s : List ℕ) (at : ℕ) (h : at + 128 ≤ length s) where
  bytes_there : length (take 128 (drop at s)) ≡ 128
  bytes_there = length-take-le 128 (drop at s) (omega (arith, length-drop at s))

  pub column_length : length (decimals_lent (take 128 (drop at s))) ≡ 8
  column_length = omega (arith, bytes_there, length_lent decimal_of 16 (take 128 (drop at s)))

  pub column_read : (i : ℕ) (z : Decimal) → i < 8 → decimal_of (take 16 (drop (at + 16 * i) s)) ≡ get_or (decimals_lent (take 128 (drop at s))) i z
  column_read i z l =
      sym (lent_at decimal_of 16 (take 128 (drop at s)) i (omega (arith, bytes_there)) z ∙ ap decimal_of (part_of s at 128 (16 * i) 16 h (omega arith)))

-- a whole list, written over one that is as long
pub over_whole {ℓ} : {A : Type ℓ} (u d : List A) (i : ℕ) → length u ≤ i → length u ≡ length d → over (take i u) d ≡ u
over_whole u d i h e =
    ap (λ v. over v d) (take_all i u h) ∙ ap (λ (k : ℕ). u ++ drop k d) e ∙ ap (λ v. u ++ v) (drop-length d) ∙ append-nil u
