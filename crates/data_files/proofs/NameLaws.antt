-- Laws of a name in a lent buffer.
-- Assumes nothing.
use Rattle.std.specs.Prelude.{if◌then◌else◌}
use Prim.Native.Nat.{ℕ, ◌+◌, ◌-◌, ◌≤◌, ◌<◌}
use native.Mathlib.Nat.{zero-add}
use native.Mathlib.Omega.{arith}
use mathlib.Core.Path.{◌≡◌, sym, ap, ◌∙◌}
use mathlib.Core.Bool.{Bool}
use mathlib.Core.List.{List, ◌++◌}
use lib.ListN.{length, replicate, length-append, length-replicate}
use lib.Seq.{sets, sets-eq}
use borrow.Author.Tests.{lt-ltb, le-ltb}
use Rattle.format.specs.declared.WriteAnswer.{WriteAnswer}
use Rattle.format.specs.Bytes.{over, SPACE}
use Rattle.format.specs.Refusals.{lent_too_short, refusal, fine}
use Rattle.format.specs.DataFiles.{pattern}
use Rattle.format.specs.FileNames.{pattern_name}
use Rattle.format.specs.Writer.{decimal}
use Rattle.format.specs.Files.{no_name}
use Rattle.format.proofs.Stores.{sets_then}
use Rattle.data_files.specs.Asked.{stored_name}

-- ---- the buffer is too short for the name, or is not

module _ (name out : List ℕ) where
  pub name_short : length out < length name → ◌≡◌ {A = WriteAnswer × List ℕ} (no_name (refusal lent_too_short), out) (stored_name name out)
  name_short h = rw (lt-ltb (length out) (length name) h)

  pub name_stored : (n : ℕ) → n ≡ length name → length name ≤ length out → (after : List ℕ) → after ≡ sets out 0 name
      → ◌≡◌ {A = WriteAnswer × List ℕ} (record { refusal = fine; length = n }, after) (stored_name name out)
  name_stored n e h after q =
      let o : after ≡ over name out = q ∙ rw zero-add at (sets-eq name out 0 (omega arith)) in rw (le-ltb (length out) (length name) h, o, e)

-- ---- a number between two texts

module _ (before : List ℕ) (zeros : Bool) (width : ℕ) (after : List ℕ) (v digits pad : ℕ) (d : digits ≡ length (decimal v)) (p : pad ≡ width - digits) where
  abbrev pad_byte : ℕ
  pad_byte = if zeros then 48 else SPACE

  pub numbered_length : length before + pad + digits + length after ≡ length (pattern_name (pattern before zeros width after) v)
  numbered_length = simp (length-append, length-replicate) (omega arith)

  -- the four runs are the name
  pub numbered_stored : (out a b c e : List ℕ) (from x first end : ℕ)
      → a ≡ sets out 0 before → from ≡ 0 + length before
      → x ≡ pad_byte → b ≡ sets a from (replicate pad x) → first ≡ from + pad
      → c ≡ sets b first (decimal v) → end ≡ first + length (decimal v)
      → e ≡ sets c end after → e ≡ sets out 0 (pattern_name (pattern before zeros width after) v)
  numbered_stored out a b c e from x first end p₀ q₀ k p₁ q₁ p₂ q₂ p₃ =
      let run : List ℕ = replicate pad pad_byte in
      let l : first ≡ from + length run = rw (length-replicate pad pad_byte) q₁ in
      let m : end ≡ from + length (run ++ decimal v) = q₂ ∙ omega (arith, l, length-append run (decimal v)) in
      let w : width - length (decimal v) ≡ pad = omega arith in
      p₃
      ∙ ap (λ (l : List ℕ). sets l end after) (p₂ ∙ ap (λ (l : List ℕ). sets l first (decimal v)) (p₁ ∙ ap (λ (y : ℕ). sets a from (replicate pad y)) k) ∙ sets_then a run (decimal v) from first l)
      ∙ sets_then a (run ++ decimal v) after from end m
      ∙ ap (λ (l : List ℕ). sets l from ((run ++ decimal v) ++ after)) p₀
      ∙ sets_then out before ((run ++ decimal v) ++ after) 0 from q₀
      ∙ ap (λ (n : ℕ). sets out 0 (before ++ ((replicate n pad_byte ++ decimal v) ++ after))) (sym w)
