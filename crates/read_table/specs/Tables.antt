-- Internal to the library. The first lines of a file, whose starts go to a line table.
use Rattle.std.specs.Prelude.{ℕ, ◌+◌, ◌≤◌, List, length, take, drop}
use Rattle.format.specs.Limits.{max_header}
use Rattle.format.specs.Lines.{lines, unlines, starts}

-- there are so many lines from `at` on, and they end within the limit of a header
pub record Lined (file : List ℕ) (at count : ℕ) : Type 0 where
  pub there : count ≤ length (lines (drop at file))
  pub short : at + length (unlines (take count (lines (drop at file)))) ≤ max_header

-- where the first lines start
abbrev pub starts_of : List ℕ → ℕ → List ℕ
starts_of file count = starts 0 (take count (lines file))
