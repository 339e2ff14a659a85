-- Laws of axis records in lent bytes: of one record by its four parts, and of several, one after the other.
-- Assumes nothing.
use Prim.Native.Nat.{ℕ, ◌+◌, ◌*◌, ◌≤◌, ◌<◌}
use native.Mathlib.Omega.{arith}
use mathlib.Core.Path.{◌≡◌, ap, ◌∙◌}
use mathlib.Core.List.{List, [], ◌∷◌, ◌++◌, append-nil, append_assoc}
use lib.ListN.{length, take, get_or, length-append}
use lib.Seq.{sets, length-take-le}
use Rattle.format.specs.declared.Axis.{Axis}
use Rattle.format.specs.Bytes.{over}
use Rattle.format.specs.Samples.{to_bytes}
use Rattle.format.specs.AxisRecords.{axis_bytes, axes_bytes}
use Rattle.format.proofs.Samples.{length_to_bytes}
use Rattle.format.proofs.Stores.{sets_then, take_more}
use Rattle.format.proofs.Boundary.{flat_append, length_axis, axes_flat, length_axes}
use Rattle.lent_numbers.proofs.Stores.{over_then}

-- what two stores left, the second right after the first
two_stored : (d : List ℕ) {d₁ d₂ : List ℕ} (u v : List ℕ) (i k : ℕ) → d₁ ≡ sets d i u → d₂ ≡ sets d₁ k v → k ≡ i + length u → d₂ ≡ sets d i (u ++ v)
two_stored d u v i k f g e = g ∙ ap (λ (l : List ℕ). sets l k v) f ∙ sets_then d u v i k e

-- two numbers of 4 bytes, stored side by side
pub pair_stored : (d : List ℕ) (at x y : ℕ) {d₁ d₂ : List ℕ} → d₁ ≡ sets d at (to_bytes 4 x) → d₂ ≡ sets d₁ (at + 4) (to_bytes 4 y)
    → d₂ ≡ sets d at (to_bytes 4 x ++ to_bytes 4 y)
pair_stored d at x y f g = two_stored d (to_bytes 4 x) (to_bytes 4 y) at (at + 4) f g (omega (arith, length_to_bytes 4 x))

length_pair : (x y : ℕ) → length (to_bytes 4 x ++ to_bytes 4 y) ≡ 8
length_pair x y = omega (arith, length-append (to_bytes 4 x) (to_bytes 4 y), length_to_bytes 4 x, length_to_bytes 4 y)

-- a record stored at a place
pub axis_stored : (d : List ℕ) (at : ℕ) (a : Axis) {d₁ d₂ d₃ d₄ : List ℕ} → d₁ ≡ sets d at (to_bytes 8 a.size)
    → d₂ ≡ sets d₁ (at + 8) (to_bytes 4 a.centring ++ to_bytes 4 a.kind)
    → d₃ ≡ sets d₂ (at + 16) (to_bytes 4 a.labelplace ++ to_bytes 4 a.labellength)
    → d₄ ≡ sets d₃ (at + 24) (to_bytes 4 a.unitplace ++ to_bytes 4 a.unitlength) → d₄ ≡ sets d at (axis_bytes a)
unfolding axis_bytes
axis_stored d at a {d₁} {d₂} f g h i =
    let n : List ℕ = to_bytes 8 a.size in
    let c : List ℕ = to_bytes 4 a.centring in
    let k : List ℕ = to_bytes 4 a.kind in
    let p : List ℕ = to_bytes 4 a.labelplace in
    let q : List ℕ = to_bytes 4 a.labellength in
    let u : List ℕ = to_bytes 4 a.unitplace ++ to_bytes 4 a.unitlength in
    two_stored d n ((c ++ k) ++ ((p ++ q) ++ u)) at (at + 8) f
    (two_stored d₁ (c ++ k) ((p ++ q) ++ u) (at + 8) (at + 16) g
    (two_stored d₂ (p ++ q) u (at + 16) (at + 24) h i (omega (arith, length_pair a.labelplace a.labellength)))
    (omega (arith, length_pair a.centring a.kind)))
    (omega (arith, length_to_bytes 8 a.size))
    ∙ rw (append_assoc c k ((p ++ q) ++ u), append_assoc p q u)

axes_more : (xs : List Axis) (a : Axis) → axes_bytes (xs ++ (a ∷ [])) ≡ axes_bytes xs ++ axis_bytes a
unfolding axes_bytes
axes_more xs a =
    axes_flat (xs ++ (a ∷ [])) ∙ flat_append axis_bytes xs (a ∷ []) ∙ rw (← axes_flat xs, ← axes_flat (a ∷ []), append-nil (axis_bytes a))

-- record i of v stored after those before it
pub axes_stored : (d₀ d : List ℕ) (i : ℕ) (v : List Axis) (z : Axis) {d' : List ℕ} → i < length v → 32 * i + 32 ≤ length d₀
    → d ≡ over (axes_bytes (take i v)) d₀ → d' ≡ sets d (32 * i) (axis_bytes (get_or v i z)) → d' ≡ over (axes_bytes (take (i + 1) v)) d₀
axes_stored d₀ d i v z h r e f =
    let u : List Axis = take i v in
    let a : Axis = get_or v i z in
    let k : length (axes_bytes u) ≡ 32 * i = omega (arith, length_axes u, length-take-le i v (omega arith)) in
    f
    ∙ ap (λ (l : List ℕ). sets l (32 * i) (axis_bytes a)) e
    ∙ over_then (axes_bytes u) (axis_bytes a) d₀ (32 * i) k (omega (arith, length_axis a))
    ∙ rw (take_more v i z h, axes_more u a)
