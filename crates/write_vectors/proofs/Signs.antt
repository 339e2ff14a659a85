-- Laws of signed numbers: the text that sign and size make.
-- Assumes nothing.
use Prim.Native.Nat.{ℕ, suc, ◌+◌, ◌-◌, ◌<◌, ◌≤◌, ◌^◌}
use native.Mathlib.Omega.{arith}
use mathlib.Core.Path.{◌≡◌, refl, sym, ap, ◌∙◌}
use mathlib.Core.Bool.{Bool, true, false}
use lib.IntN.{ℤ, pos, negsuc, nat_abs}
use lib.ListN.{length}
use lib.Signed.{lt_z}
use borrow.Author.Tests.{le-ltb, ne_eqb}
use mir.Syntax.{Width, w32, w64}
use mir.Val.{SFits, to_z, of_z}
use mir.Facts.{to_z-of_z}
use Rattle.format.specs.Writer.{decimal, signed_decimal}
use Rattle.format.specs.declared.Decimal.{Decimal}
use Rattle.format.specs.HeaderWriter.{number_text, component_text}
use Rattle.format.proofs.Writer.{digits_few}
use Rattle.write_vectors.specs.Stored.{sized_text, mark_text}

-- ---- its text

sized_is : (z : ℤ) → sized_text (lt_z z (pos 0)) (nat_abs z) ≡ signed_decimal z
sized_is (pos n) = rw (le-ltb n 0 (omega arith))
sized_is (negsuc k) = refl

-- the same from its bits
pub sized_back : (w : Width) (z : ℤ) → SFits w z → (n : ℕ) → n ≡ nat_abs (to_z w (of_z w z)) → sized_text (lt_z (to_z w (of_z w z)) (pos 0)) n ≡ signed_decimal z
sized_back w z f n e = ap (sized_text (lt_z (to_z w (of_z w z)) (pos 0))) e ∙ rw (to_z-of_z f) (sized_is z)

-- how many digits the size has
pub number_few : (n : ℕ) → n ≤ 9_223_372_036_854_775_808 → length (decimal n) ≤ 19
number_few n h = digits_few n 18 (omega arith)

pub power_few : (n : ℕ) → n ≤ 2_147_483_648 → length (decimal n) ≤ 10
power_few n h = digits_few n 9 (omega arith)

-- ---- a component, by its kind

module _ (d : Decimal) where
  pub number_is : d.kind ≡ 0 → SFits w64 d.number → SFits w32 d.power
      → number_text (to_z w64 (of_z w64 d.number)) (to_z w32 (of_z w32 d.power)) ≡ component_text d
  unfolding component_text
  number_is e f g = rw (to_z-of_z f, to_z-of_z g, e)

  pub mark_is : (d.kind ≡ 0 → ⊥) → mark_text d.kind ≡ component_text d
  unfolding component_text
  mark_is n = rw (ne_eqb d.kind 0 n)
