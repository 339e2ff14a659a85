-- Lines, their endings and their places (rules, "Lines and headers", the first point; "line table").
-- A file is a list of lines. `unlines` gives the bytes back, and `lines` is the only split by the rule: proofs/Lines.antt.
use Rattle.std.specs.Prelude.{ℕ, ◌+◌, List, [], ◌∷◌, ◌++◌, ◌==◌, length, if◌then◌else◌}
use Rattle.format.specs.Bytes.{LF, CR}

-- what ends a line: LF, CR LF, or, for the last line alone, the end of the bytes
pub data Ending : Type 0 where
  lf crlf eof : Ending

-- a line: its text, which has neither LF nor the CR of its ending, and its ending
pub data Line : Type 0 where
  line : List ℕ → Ending → Line

abbrev pub text : Line → List ℕ
text (line t e) = t

abbrev pub ending : Line → Ending
ending (line t e) = e

abbrev pub ending_bytes : Ending → List ℕ
ending_bytes lf = LF ∷ []
ending_bytes crlf = CR ∷ LF ∷ []
ending_bytes eof = []

-- a line's bytes, and how many they are
abbrev pub line_bytes : Line → List ℕ
line_bytes (line t e) = t ++ ending_bytes e

abbrev pub size : Line → ℕ
size l = length (line_bytes l)

-- ---- bytes to lines, from the last byte to the first

-- a byte other than LF before a line: a CR right before the LF joins the ending
abbrev pub extend : ℕ → Line → Line
extend b (line [] lf) = if b == CR then line [] crlf else line (b ∷ []) lf
extend b (line [] crlf) = line (b ∷ []) crlf
extend b (line [] eof) = line (b ∷ []) eof
extend b (line (c ∷ t) e) = line (b ∷ c ∷ t) e

abbrev pub extend_first : ℕ → List Line → List Line
extend_first b [] = line (b ∷ []) eof ∷ []
extend_first b (l ∷ ls) = extend b l ∷ ls

-- a byte before lines: LF is the end of a line before them
abbrev pub with_byte : ℕ → List Line → List Line
with_byte b ls = if b == LF then line [] lf ∷ ls else extend_first b ls

-- the lines of a file; no line starts at its end
unfoldable pub lines : List ℕ → List Line
lines [] = []
lines (b ∷ s) = with_byte b (lines s)

-- ---- lines to bytes

unfoldable pub unlines : List Line → List ℕ
unlines [] = []
unlines (l ∷ ls) = line_bytes l ++ unlines ls

-- where each line starts, the first one at `at`
unfoldable pub starts : ℕ → List Line → List ℕ
starts at [] = []
starts at (l ∷ ls) = at ∷ starts (at + size l) ls
