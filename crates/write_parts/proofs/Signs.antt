-- Laws of samples as text: from their bits come the sign and the value without it.
-- Assumes nothing.
use Rattle.std.specs.Prelude.{if◌then◌else◌}
use mathlib.Core.Path.{◌≡◌}
use mathlib.Core.Bool.{Bool, true, false}
use mathlib.Core.List.{List, [], ◌∷◌}
use lib.Dec.{ltb}
use Prim.Native.Nat.{ℕ, suc, ◌+◌, ◌-◌, ◌≤◌, ◌<◌}
use native.Mathlib.Nat.{add-zero}
use native.Mathlib.Omega.{arith}
use lib.ListN.{length, set, length-append}
use lib.Seq.{sets}
use lib.IntN.{ℤ, pos, negsuc}
use Rattle.format.specs.Bytes.{LF}
use Rattle.format.specs.Samples.{to_signed}
use Rattle.format.specs.Writer.{decimal, signed_decimal}
use Rattle.format.proofs.Writer.{decimal_not_empty}
use Rattle.write_parts.specs.Stored.{sign_length, absolute, text_line}
use Rattle.write_parts.proofs.Runs.{set_then, set_under}

pub line_length : (z : ℤ) → length (text_line z) ≡ length (signed_decimal z) + 1
line_length z = length-append (signed_decimal z) (LF ∷ [])

pub signed_not_empty : (x : ℕ) → 1 ≤ length (signed_decimal (to_signed 8 x))
signed_not_empty x = go (to_signed 8 x)
  where
    go : (z : ℤ) → 1 ≤ length (signed_decimal z)
    go (pos n) = decimal_not_empty n
    go (negsuc n) = omega arith

-- k bytes of sign, and the value m without it
module _ (x : ℕ) (l : x < 18446744073709551616) where
  module _ (k m : ℕ) (ek : k ≡ sign_length x) (em : m ≡ absolute x) where
    pub sign_few : k ≤ 1
    sign_few = go (ltb x 9223372036854775808) ek
      where
        go : (t : Bool) → k ≡ (if t then 0 else 1) → k ≤ 1
        go true e = omega arith
        go false e = omega arith

    next : 18446744073709551616 - x ≡ suc (18446744073709551615 - x)
    next = omega arith

    pub signed_long : length (signed_decimal (to_signed 8 x)) ≡ k + length (decimal m)
    signed_long = go (ltb x 9223372036854775808) ek em
      where
        go : (t : Bool) → k ≡ (if t then 0 else 1) → m ≡ (if t then x else 18446744073709551616 - x)
            → length (signed_decimal (if t then pos x else negsuc (18446744073709551615 - x))) ≡ k + length (decimal m)
        go true e f = rw (e, f) (omega arith)
        go false e f = rw (e, f, next) (omega arith)

    pub signed_stored : (d : List ℕ) (at : ℕ) → sets (set d at 45) (at + k) (decimal m) ≡ sets d at (signed_decimal (to_signed 8 x))
    signed_stored d at = go (ltb x 9223372036854775808) ek em
      where
        go : (t : Bool) → k ≡ (if t then 0 else 1) → m ≡ (if t then x else 18446744073709551616 - x)
            → sets (set d at 45) (at + k) (decimal m) ≡ sets d at (signed_decimal (if t then pos x else negsuc (18446744073709551615 - x)))
        go true e f = rw (e, f, add-zero at) (set_under d (decimal x) at 45 (decimal_not_empty x))
        go false e f = rw (e, f, next) (set_then d (decimal (suc (18446744073709551615 - x))) at 45)
