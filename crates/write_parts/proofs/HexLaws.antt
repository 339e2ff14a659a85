-- Laws of bytes in hex.
-- Assumes nothing.
use mathlib.Core.Path.{◌≡◌, ap}
use mathlib.Core.List.{List, [], ◌++◌}
use Prim.Native.Nat.{ℕ, ◌+◌, ◌≤◌, ◌<◌}
use native.Mathlib.Numerals.{add-one}
use lib.ListN.{length, get_or, drop, drop_of_length-le}
use lib.Seq.{drop-cons}
use Rattle.format.specs.Writer.{hex_of_byte, hex_text}

-- the hex of the bytes from i on
module _ (s : List ℕ) (i : ℕ) where
  pub hex_next : i < length s → hex_text (drop i s) ≡ hex_of_byte (get_or s i 0) ++ hex_text (drop (i + 1) s)
  unfolding hex_text
  hex_next h = rw (add-one i, drop-cons s i 0 h)

  pub hex_over : length s ≤ i → hex_text (drop i s) ≡ []
  unfolding hex_text
  hex_over h = ap hex_text (drop_of_length-le s h)
