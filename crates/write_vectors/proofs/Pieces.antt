-- Laws of texts stored by pieces: a text by another name, two texts with a byte between them, a text in brackets.
-- Assumes nothing.
use mathlib.Core.Path.{◌≡◌, ap, ◌∙◌}
use mathlib.Core.List.{List, [], ◌∷◌, ◌++◌}
use Prim.Native.Nat.{ℕ, ◌+◌}
use native.Mathlib.Omega.{arith}
use lib.ListN.{length, set, length-append}
use lib.Seq.{sets}
use Rattle.format.specs.Bytes.{OPEN, CLOSE}
use Rattle.format.proofs.Stores.{sets_then}
use Rattle.write_parts.proofs.Runs.{set_then}

-- the text u is stored from place `at` on, the buffer is x and the place after it r
abbrev pub Put : List ℕ → ℕ → List ℕ → List ℕ → ℕ → Type 0
Put d at u x r = (r ≡ at + length u) × (x ≡ sets d at u)

module _ (d : List ℕ) (at : ℕ) where
  pub put_is : {u v x : List ℕ} {r : ℕ} → u ≡ v → r ≡ at + length u → x ≡ sets d at u → Put d at v x r
  put_is e q s = (q ∙ ap (λ (t : List ℕ). at + length t) e, s ∙ ap (sets d at) e)

  -- u, the byte b at place a, and v after it
  pub parted_put : (b : ℕ) {u v u' v' y x : List ℕ} {a r : ℕ} → u ≡ u' → v ≡ v' → a ≡ at + length u → y ≡ sets d at u → r ≡ a + 1 + length v → x ≡ sets (set y a b) (a + 1) v
      → Put d at (u' ++ b ∷ v') x r
  parted_put b {u} {v} {u'} {v'} {y} {x} {a} {r} e f p s q t =
      put_is
      (ap (λ (w : List ℕ). w ++ b ∷ v) e ∙ ap (λ (w : List ℕ). u' ++ b ∷ w) f)
      (omega (arith, p, q, length-append u (b ∷ v)))
      (t ∙ ap (λ (w : List ℕ). sets (set w a b) (a + 1) v) s ∙ set_then (sets d at u) v a b ∙ sets_then d u (b ∷ v) at a p)

  -- u between brackets, the closing one at place e
  pub enclosed_put : (u : List ℕ) {y : List ℕ} {e : ℕ} → e ≡ at + 1 + length u → y ≡ sets (set d at OPEN) (at + 1) u → Put d at (OPEN ∷ u ++ CLOSE ∷ []) (set y e CLOSE) (e + 1)
  enclosed_put u {y} {e} p s = (
    omega (arith, p, length-append u (CLOSE ∷ [])),
    ap (λ (w : List ℕ). set w e CLOSE) (s ∙ set_then d u at OPEN) ∙ sets_then d (OPEN ∷ u) (CLOSE ∷ []) at e (omega (arith, p)),
  )
