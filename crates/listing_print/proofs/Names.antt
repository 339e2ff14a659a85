-- Laws of the lines of a reading: names by their numbers, and sizes one after the other.
-- Assumes nothing.
use Rattle.std.specs.Prelude.{if◌then◌else◌}
use Prim.Native.Nat.{ℕ, ◌+◌, ◌-◌, ◌≤◌, ◌<◌}
use native.Mathlib.Numerals.{add-one}
use native.Mathlib.Omega.{arith}
use mathlib.Core.Path.{◌≡◌, sym, ◌∙◌}
use mathlib.Core.Bool.{Bool, true, false}
use mathlib.Core.List.{List, [], ◌∷◌, ◌++◌, append-nil, append_assoc}
use lib.Dec.{ltb}
use lib.ListN.{length, drop, get_or, length-drop, get_or-eq_default}
use lib.Seq.{drop-cons}
use borrow.Author.Tests.{lt-ltb, le-ltb}
use Rattle.format.specs.Bytes.{SPACE}
use Rattle.format.specs.Descriptors.{types, sample_type, signed, type_at}
use Rattle.format.specs.Writer.{decimal, spaced}
use Rattle.listing_print.specs.Lines.{type_text}

-- ---- names

-- a type past the list stands for the first
pub type_past : (n : ℕ) → 10 ≤ n → type_text 0 ≡ type_text n
unfolding type_at
type_past n h = rw (get_or-eq_default types (sample_type "int8" 1 signed []) h)

-- ---- sizes

-- a size, with a space after it or not
abbrev pub size_text : ℕ → Bool → List ℕ
size_text n more = decimal n ++ (if more then SPACE ∷ [] else [])

pub size_more : (n : ℕ) (more : Bool) → more ≡ true → decimal n ++ (SPACE ∷ []) ≡ size_text n more
size_more n more e = rw e

pub size_last : (n : ℕ) (more : Bool) → more ≡ false → decimal n ≡ size_text n more
size_last n more e = rw e (sym (append-nil (decimal n)))

-- the sizes from i on: that at i, and those after it
pub spaced_next : (ns : List ℕ) (i : ℕ) → i < length ns
    → spaced (drop i ns) ≡ size_text (get_or ns i 0) (ltb (i + 1) (length ns)) ++ spaced (drop (i + 1) ns)
unfolding spaced
spaced_next ns i h = rw (drop-cons ns i 0 h, ← add-one i) (go (drop (i + 1) ns) (length-drop (i + 1) ns))
  where
    n : ℕ
    n = get_or ns i 0

    go : (r : List ℕ) → length r ≡ length ns - (i + 1) → spaced (n ∷ r) ≡ size_text n (ltb (i + 1) (length ns)) ++ spaced r
    go [] e = rw (le-ltb (i + 1) (length ns) (omega arith)) (sym (append-nil (decimal n ++ []) ∙ append-nil (decimal n)))
    go (m ∷ r) e = rw (lt-ltb (i + 1) (length ns) (omega arith)) (sym (append_assoc (decimal n) (SPACE ∷ []) (spaced (m ∷ r))))
