-- What a line is by its text, and the escapes of key pairs (rules, "Lines and headers", points 3 and 6).
use Rattle.std.specs.Prelude.{ℕ, Bool, true, false, not, ◌||◌, List, [], ◌∷◌, ◌++◌, ◌==◌, if◌then◌else◌}
use Rattle.std.proofs.Math.Option.{Option, none, some}
use Rattle.format.specs.Bytes.{bytes, between, TAB, LF, SPACE, HASH, COLON, EQUALS, BACKSLASH, onto}

-- the bytes that a line other than an empty one or a comment may hold: tab, and 32 to 126 (refusal 5)
abbrev pub plain : ℕ → Bool
plain b = b == TAB || between 32 126 b

-- ---- the mark: the first place of `: ` or `:=` decides

-- what the mark parts: nothing where there is no mark, or what stands before it and what stands after it
pub data Marked : Type 0 where
  unmarked : Marked
  field_mark : List ℕ → List ℕ → Marked
  pair_mark : List ℕ → List ℕ → Marked

-- the mark that a colon makes with what follows it, if it makes one
abbrev pub after_colon : List ℕ → Marked
after_colon [] = unmarked
after_colon (b ∷ s) = if b == SPACE then field_mark [] s else if b == EQUALS then pair_mark [] s else unmarked

-- a byte more before the mark
abbrev pub more_before : ℕ → Marked → Marked
more_before b unmarked = unmarked
more_before b (field_mark n d) = field_mark (b ∷ n) d
more_before b (pair_mark k v) = pair_mark (b ∷ k) v

abbrev pub first_mark : Marked → Marked → Marked
first_mark unmarked m = m
first_mark (field_mark n d) m = field_mark n d
first_mark (pair_mark k v) m = pair_mark k v

-- the first mark of a text
unfoldable pub mark : List ℕ → Marked
mark [] = unmarked
mark (b ∷ s) = first_mark (if b == COLON then after_colon s else unmarked) (more_before b (mark s))

abbrev pub has_mark : Marked → Bool
has_mark unmarked = false
has_mark (field_mark n d) = true
has_mark (pair_mark k v) = true

-- ---- what a line is by its text alone: that counts where no names follow the fields before it (`Descriptors.names_follow`)

-- empty; a comment, whose first byte is `#`; or any other line, by its mark
pub data LineKind : Type 0 where
  empty_line comment_line : LineKind
  other_line : Marked → LineKind

abbrev pub kind_of : List ℕ → LineKind
kind_of [] = empty_line
kind_of (b ∷ s) = if b == HASH then comment_line else other_line (mark (b ∷ s))

-- neither empty nor a comment
abbrev pub is_other : LineKind → Bool
is_other empty_line = false
is_other comment_line = false
is_other (other_line m) = true

-- and without a mark
abbrev pub is_unmarked : LineKind → Bool
is_unmarked empty_line = false
is_unmarked comment_line = false
is_unmarked (other_line m) = not (has_mark m)

-- the texts of its key and its value, if it is that of a pair
abbrev pub pair_texts : LineKind → Option (List ℕ × List ℕ)
pair_texts empty_line = none
pair_texts comment_line = none
pair_texts (other_line unmarked) = none
pair_texts (other_line (field_mark n d)) = none
pair_texts (other_line (pair_mark k v)) = some (k, v)

-- the texts of its name and of what follows its mark, if it is that of a field
abbrev pub field_texts : LineKind → Option (List ℕ × List ℕ)
field_texts empty_line = none
field_texts comment_line = none
field_texts (other_line unmarked) = none
field_texts (other_line (field_mark n d)) = some (n, d)
field_texts (other_line (pair_mark k v)) = none

-- ---- escapes: `\n` means LF and `\\` a backslash, in keys and in values

-- how a text is written in a key or a value
unfoldable pub escape : List ℕ → List ℕ
escape [] = []
escape (b ∷ s) =
    if b == LF then bytes "\\n" ++ escape s
    else if b == BACKSLASH then bytes "\\\\" ++ escape s
    else b ∷ escape s

-- what the text means, or nothing where it has another backslash; the flag: a backslash stands right before the text
unfoldable pub unescape_from : Bool → List ℕ → Option (List ℕ)
unescape_from false [] = some []
unescape_from true [] = none
unescape_from false (b ∷ s) = if b == BACKSLASH then unescape_from true s else onto b (unescape_from false s)
unescape_from true (b ∷ s) =
    if b == 110 then onto LF (unescape_from false s)
    else if b == BACKSLASH then onto BACKSLASH (unescape_from false s)
    else none

abbrev pub unescape : List ℕ → Option (List ℕ)
unescape s = unescape_from false s
