-- How long a file is at most once a key is set.
-- Assumes nothing.
use Rattle.std.specs.Prelude.{if◌then◌else◌}
use mathlib.Core.Bool.{Bool, true, false}
use mathlib.Core.List.{List, [], ◌∷◌, ◌++◌}
use Prim.Native.Nat.{ℕ, ◌+◌, ◌*◌, ◌≤◌}
use native.Mathlib.Omega.{arith}
use lib.Dec.{eqb}
use lib.ListN.{length, length-append}
use Rattle.format.specs.Bytes.{bytes, is_some, LF, BACKSLASH}
use Rattle.format.specs.Lines.{Ending, lf, crlf, eof, line, ending_bytes, unlines}
use Rattle.format.specs.Pairs.{escape}
use Rattle.format.specs.Header.{Entry, entry, lines_of, value_in}
use Rattle.format.specs.Settings.{pair_text, has_key, replaced, inserted, new_lines}
use Rattle.format.proofs.Lines.{length_unlines_cons}
use Rattle.format.proofs.Pairs.{length_pair}

-- a text that is escaped is not shorter, and at most twice as long
pub escape_length : (v : List ℕ) → (length v ≤ length (escape v)) × (length (escape v) ≤ 2 * length v)
unfolding escape
escape_length [] = (omega arith, omega arith)
escape_length (b ∷ v) = go (eqb b LF) (eqb b BACKSLASH) (escape_length v)
  where
    go : (x y : Bool) → (length v ≤ length (escape v)) × (length (escape v) ≤ 2 * length v)
        → let w = if x then bytes "\\n" ++ escape v else if y then bytes "\\\\" ++ escape v else b ∷ escape v in
        (length (b ∷ v) ≤ length w) × (length w ≤ 2 * length (b ∷ v))
    go true y h = (omega arith, omega arith)
    go false true h = (omega arith, omega arith)
    go false false h = (omega arith, omega arith)

ending_short : (e : Ending) → length (ending_bytes e) ≤ 2
ending_short lf = omega arith
ending_short crlf = omega arith
ending_short eof = omega arith

module _ (k t : List ℕ) where
  -- a line that is replaced keeps its ending
  replaced_longer : (es : List Entry) → length (unlines (replaced k t es)) ≤ length t + length (unlines (lines_of es))
  unfolding replaced
  replaced_longer [] = omega arith
  replaced_longer (entry (line u e) i ∷ es) = go (has_key k es) (is_some (value_in k i)) (replaced_longer es)
    where
      go : (x y : Bool) → length (unlines (replaced k t es)) ≤ length t + length (unlines (lines_of es))
          → length (unlines (if x then line u e ∷ replaced k t es else if y then line t e ∷ lines_of es else line u e ∷ lines_of es))
          ≤ length t + length (unlines (line u e ∷ lines_of es))
      go true y h = rw (length_unlines_cons (line u e) (replaced k t es), length_unlines_cons (line u e) (lines_of es)) (omega arith)
      go false true h =
          rw (length_unlines_cons (line t e) (lines_of es), length_unlines_cons (line u e) (lines_of es))
          (omega (arith, length-append t (ending_bytes e), length-append u (ending_bytes e)))
      go false false h = omega arith

  -- a new line takes the ending of line 1
  inserted_longer : (es : List Entry) → length (unlines (inserted t es)) ≤ length t + 2 + length (unlines (lines_of es))
  inserted_longer [] = omega arith
  inserted_longer (entry (line u e) i ∷ es) =
      rw (length_unlines_cons (line u e) (line t e ∷ lines_of es), length_unlines_cons (line t e) (lines_of es), length_unlines_cons (line u e) (lines_of es))
      (omega (arith, length-append t (ending_bytes e), ending_short e))

pub header_grown : (k v : List ℕ) (es : List Entry) → length (unlines (new_lines k v es)) ≤ length (unlines (lines_of es)) + (2 * (length k + length v) + 4)
unfolding new_lines
header_grown k v es = go (has_key k es)
  where
    t : List ℕ
    t = pair_text k v

    short : length t ≤ 2 * (length k + length v) + 2
    short = omega (arith, length_pair k v, (escape_length k).1, (escape_length v).1)

    go : (x : Bool) → length (unlines (if x then replaced k t es else inserted t es)) ≤ length (unlines (lines_of es)) + (2 * (length k + length v) + 4)
    go true = omega (arith, short, replaced_longer k t es)
    go false = omega (arith, short, inserted_longer k t es)
