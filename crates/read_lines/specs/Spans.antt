-- Internal to the library. The line at a place of a file, as the reader meets it.
use Rattle.std.specs.Prelude.{ℕ, ◌+◌, ◌-◌, ◌≤◌, ◌<◌, ◌≡◌, List, ◌∷◌, length, take, drop}
use Rattle.format.specs.Limits.{max_header}
use Rattle.format.specs.Lines.{Ending, eof, Line, line, size, lines}
use Rattle.read_lines.specs.declared.LineEnds.{LineEnds}
use Rattle.std.specs.Prelude.{Option}
use Rattle.std.specs.Prelude.{Some, None}

-- the line from `at` on: its text ends at `text_end`, the next line starts at `next`
pub record LineAt (file : List ℕ) (at text_end next : ℕ) : Type 0 where
  pub ending : Ending
  pub cut : lines (drop at file) ≡ line (take (text_end - at) (drop at file)) ending ∷ lines (drop next file)
  pub bytes : at + size (line (take (text_end - at) (drop at file)) ending) ≡ next
  -- it has no ending exactly where its text ends where the next line would start
  pub unended : (text_end ≡ next → ending ≡ eof) × (ending ≡ eof → text_end ≡ next)
  pub from : at ≤ text_end
  pub to : text_end ≤ next
  pub within : next ≤ length file
  pub short : next ≤ max_header
  pub more : at < next

-- the line from `at` on ends past the limit
pub record PastAt (file : List ℕ) (at : ℕ) : Type 0 where
  pub first : Line
  pub rest : List Line
  pub cut : lines (drop at file) ≡ first ∷ rest
  pub long : max_header < at + size first

abbrev pub SpanIs : List ℕ → ℕ → Option LineEnds → Type 0
SpanIs file at (Some ends) = LineAt file at ends.text_end ends.next
SpanIs file at None = PastAt file at
