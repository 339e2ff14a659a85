-- Internal to the library. What the functions on bytes answer in numbers: how many bytes stand before a place.
use Rattle.std.specs.Prelude.{ℕ, suc, List, [], ◌∷◌, ◌==◌, length, if◌then◌else◌}
use Rattle.format.specs.Bytes.{CR}
use Rattle.format.specs.Lines.{Ending, lf, crlf}
use Rattle.format.specs.Pairs.{Marked, unmarked, field_mark, pair_mark, LineKind, empty_line, comment_line, other_line}
use Rattle.read_text.specs.declared.lines.Kind.{Kind}
use Rattle.read_text.specs.declared.lines.Kind.TheVariants.{Empty, Comment, Field, Pair, Neither}

-- how many bytes stand before the first b, or all of them where there is none
unfoldable pub before : ℕ → List ℕ → ℕ
before b [] = 0
before b (c ∷ s) = if c == b then 0 else suc (before b s)

-- without one CR at the end
unfoldable pub without_cr : List ℕ → List ℕ
without_cr [] = []
without_cr (b ∷ []) = if b == CR then [] else b ∷ []
without_cr (b ∷ c ∷ s) = b ∷ without_cr (c ∷ s)

-- the ending of a line whose LF stands right after these bytes: a CR at their end belongs to it
unfoldable pub ending_at : List ℕ → Ending
ending_at [] = lf
ending_at (b ∷ []) = if b == CR then crlf else lf
ending_at (b ∷ c ∷ s) = ending_at (c ∷ s)

-- what a line is, and how many bytes stand before its mark
abbrev pub mark_place : Marked → Kind
mark_place unmarked = Neither
mark_place (field_mark n d) = Field (length n)
mark_place (pair_mark k v) = Pair (length k)

abbrev pub kind_place : LineKind → Kind
kind_place empty_line = Empty
kind_place comment_line = Comment
kind_place (other_line m) = mark_place m
