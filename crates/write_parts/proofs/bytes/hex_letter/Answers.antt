-- `write_parts::bytes::hex_letter` meets its contract. Assumes nothing.
use Rattle.std.specs.Prelude.{if◌then◌else◌}
use Prim.Native.Nat.{ℕ, ◌+◌, ◌*◌, ◌-◌, ◌/◌, ◌<◌}
use mathlib.Core.Path.{◌≡◌, refl}
use mathlib.Core.Bool.{true, false, Bool}
use native.Mathlib.Omega.{arith}
use borrow.Author.Tests.{ltb-true, ltb-false}
use lib.Dec.{ltb}
use Rattle.format.specs.Writer.{hex_letter}
use Rattle.write_parts.proofs.bytes.hex_letter.Goals as goal

letter_is : (n : ℕ) → n < 16 → 48 + n + 39 * ((n + 6) / 16) ≡ hex_letter n
letter_is n h = go (ltb n 10) refl
  where
    go : (t : Bool) → ltb n 10 ≡ t → 48 + n + 39 * ((n + 6) / 16) ≡ (if t then 48 + n else 97 + (n - 10))
    go true q = omega (arith, ltb-true n 10 q)
    go false q = omega (arith, ltb-false n 10 q)

pub returns : goal.returns
returns c = letter_is c.args.n c.requires
