-- The header: what each line is, the walk over the lines with its refusals in order, the reading and the line table
-- (rules, "Lines and headers", "Numbers of refusal", order for reading; the requests: the 11 with line 0, after 14, W1; names under LIST, the 11 after 13 and after 15, W5).
-- The refusals of a reading in their order: 1, 2, then for each line 3, 4 and 5 to 12, then 13, 11 (an empty LIST), 14, 11 (-1 without raw), 15, 11 (the number of files or of axes).
use Rattle.std.specs.Prelude.{ℕ, ◌+◌, ◌-◌, Bool, true, false, not, List, [], ◌∷◌, map, nat_lt, length, if◌then◌else◌}
use Rattle.std.proofs.Math.Option.{Option, none, some}
use Rattle.format.specs.declared.Refusal.{Refusal}
use Rattle.format.specs.Bytes.{bytes, every, same, or_else}
use Rattle.format.specs.Limits.{max_file, max_header, max_lines, max_extent}
use Rattle.format.specs.Refusals.{file_too_long, no_magic, header_too_long, too_many_lines, bad_byte, no_mark, unknown_field, not_in_version, repeated_field, out_of_order, bad_descriptor, bad_backslash, no_end, missing_field, extent_too_large, at_line, refusal}
use Rattle.format.specs.Lines.{Line, line, lf, crlf, eof, text, size, lines, unlines, starts}
use Rattle.format.specs.Pairs.{plain, Marked, unmarked, field_mark, pair_mark, LineKind, empty_line, comment_line, other_line, kind_of, unescape}
use Rattle.format.specs.Fields.{field_named, pairs_since, Given, given, named, is_repeated, in_order}
use Rattle.format.specs.Descriptors.{descriptor, since, may_describe, dimension_of, space_size_of, names_follow, list_empty, has_needed, end_is_raw, extent_of, files_fine, is_detached}

-- ---- what a line is

pub data Item : Type 0 where
  -- line 1, with its version
  magic : ℕ → Item
  comment : Item
  -- a field and its descriptor
  field : ℕ → List ℕ → Item
  -- a key and its value, escapes resolved
  pair : List ℕ → List ℕ → Item
  -- a file's name under LIST: the whole line
  file_name : List ℕ → Item
  -- the empty line that closes the header
  closing : Item

-- Views of an item. Definitions are over these five where they can be, so that a new kind of line costs a clause in each and not in every definition.

-- the key and the value of a pair
abbrev pub pair_of : Item → Option (List ℕ × List ℕ)
pair_of (magic n) = none
pair_of comment = none
pair_of (field f d) = none
pair_of (pair k v) = some (k, v)
pair_of (file_name t) = none
pair_of closing = none

-- what it gives: a field, or a name
abbrev pub given_of : Item → Option Given
given_of (magic n) = none
given_of comment = none
given_of (field f d) = some (given f d)
given_of (pair k v) = none
given_of (file_name t) = some (named t)
given_of closing = none

abbrev pub closes : Item → Bool
closes (magic n) = false
closes comment = false
closes (field f d) = false
closes (pair k v) = false
closes (file_name t) = false
closes closing = true

abbrev pub version_of_item : Item → ℕ
version_of_item (magic n) = n
version_of_item comment = 0
version_of_item (field f d) = 0
version_of_item (pair k v) = 0
version_of_item (file_name t) = 0
version_of_item closing = 0

abbrev pub is_file_name : Item → Bool
is_file_name (magic n) = false
is_file_name comment = false
is_file_name (field f d) = false
is_file_name (pair k v) = false
is_file_name (file_name t) = true
is_file_name closing = false

-- a line of the header, and what it is
pub data Entry : Type 0 where
  entry : Line → Item → Entry

abbrev pub line_of : Entry → Line
line_of (entry l i) = l

abbrev pub item_of : Entry → Item
item_of (entry l i) = i

abbrev pub lines_of : List Entry → List Line
lines_of es = map line_of es

-- ---- line 1: the magic, exactly, with its ending

-- the version of a magic
unfoldable pub magic_version : List ℕ → Option ℕ
magic_version t =
    if same t (bytes "NRRD0001") then some 1
    else if same t (bytes "NRRD00.01") then some 1
    else if same t (bytes "NRRD0002") then some 2
    else if same t (bytes "NRRD0003") then some 3
    else if same t (bytes "NRRD0004") then some 4
    else if same t (bytes "NRRD0005") then some 5
    else none

abbrev pub version_of_line : Line → Option ℕ
version_of_line (line t lf) = magic_version t
version_of_line (line t crlf) = magic_version t
version_of_line (line t eof) = none

-- ---- one line after line 1: what it is, or the number of its refusal; 5 to 12 in order

pub data Judged : Type 0 where
  wrong : ℕ → Judged
  right : Item → Judged

abbrev pub unescaped : Option (List ℕ) → Option (List ℕ) → Judged
unescaped none v = wrong bad_backslash
unescaped (some k) none = wrong bad_backslash
unescaped (some k) (some v) = right (pair k v)

-- a pair of the key and the value as they stand in the line
unfoldable pub on_pair : ℕ → List ℕ → List ℕ → Judged
on_pair version [] v = wrong no_mark
on_pair version (b ∷ k) v =
    if nat_lt version pairs_since then wrong not_in_version
    else unescaped (unescape (b ∷ k)) (unescape v)

-- a field f, or an unknown one, with what follows its mark, after the fields given
unfoldable pub on_field : ℕ → List Given → Option ℕ → List ℕ → Judged
on_field version gs none rest = wrong unknown_field
on_field version gs (some f) rest =
    if nat_lt version (since f (descriptor f rest)) then wrong not_in_version
    else if is_repeated f gs then wrong repeated_field
    else if not (in_order f gs) then wrong out_of_order
    else if not (may_describe (dimension_of gs) (space_size_of gs) f (descriptor f rest)) then wrong bad_descriptor
    else right (field f (descriptor f rest))

abbrev pub on_mark : ℕ → List Given → Marked → Judged
on_mark version gs unmarked = wrong no_mark
on_mark version gs (field_mark name rest) = on_field version gs (field_named name) rest
on_mark version gs (pair_mark k v) = on_pair version k v

-- a line with the text t, by what it is by that text; of a file's lines an empty one always has its ending (law `shape_of_lines`)
abbrev pub on_kind : ℕ → List Given → List ℕ → LineKind → Judged
on_kind version gs t empty_line = right closing
on_kind version gs t comment_line = right comment
on_kind version gs t (other_line m) = if not (every plain t) then wrong bad_byte else on_mark version gs m

-- a line with the text t under LIST: empty it closes the header, else it is a name, whole, whatever it looks like; 5 holds for it
abbrev pub on_name : List ℕ → Judged
on_name [] = right closing
on_name (b ∷ t) = if not (every plain (b ∷ t)) then wrong bad_byte else right (file_name (b ∷ t))

-- a line with the text t, after what the lines before it gave
unfoldable pub judge : ℕ → List Given → List ℕ → Judged
judge version gs t = if names_follow gs then on_name t else on_kind version gs t (kind_of t)

-- ---- the walk over the lines

-- refused; or accepted: the header's lines with what they are, what they give (the last one first), and the lines after the header
pub data Outcome : Type 0 where
  refused : Refusal → Outcome
  accepted : List Entry → List Given → List Line → Outcome

abbrev pub with_entry : Entry → Outcome → Outcome
with_entry e (refused r) = refused r
with_entry e (accepted es gs ls) = accepted (e ∷ es) gs ls

abbrev pub with_field : Option Given → List Given → List Given
with_field none gs = gs
with_field (some g) gs = g ∷ gs

-- what is given once the line is read
abbrev pub after_item : Item → List Given → List Given
after_item i gs = with_field (given_of i) gs

-- the header is at its end, before the lines ls, and n - 1 is its last line but for the closing one: where no name follows LIST, that is LIST's
unfoldable pub complete : ℕ → List Given → List Line → Outcome
complete n gs ls =
    if list_empty gs then refused (at_line bad_descriptor (n - 1))
    else if not (has_needed gs) then refused (refusal missing_field)
    else if not (end_is_raw gs) then refused (refusal bad_descriptor)
    else if nat_lt max_extent (extent_of gs) then refused (refusal extent_too_large)
    else if not (files_fine gs) then refused (refusal bad_descriptor)
    else accepted [] gs ls

abbrev pub on_judged : ℕ → Line → Judged → (Item → Outcome) → Outcome
on_judged n l (wrong w) next = refused (at_line w n)
on_judged n l (right i) next = with_entry (entry l i) (next i)

-- the lines from line n on, which starts at byte `at`, after what the lines before it gave
unfoldable pub walk : ℕ → ℕ → ℕ → List Given → List Line → Outcome
walk version n at gs [] = if is_detached gs then complete n gs [] else refused (refusal no_end)
walk version n at gs (l ∷ ls) =
    if nat_lt max_header (at + size l) then refused (at_line header_too_long n)
    else if nat_lt max_lines n then refused (at_line too_many_lines n)
    else on_judged n l (judge version gs (text l)) λ i. if closes i then complete n gs ls else walk version (n + 1) (at + size l) (after_item i gs) ls

abbrev pub after_magic : Line → Option ℕ → List Line → Outcome
after_magic l none ls = refused (at_line no_magic 1)
after_magic l (some v) ls = with_entry (entry l (magic v)) (walk v 2 (size l) [] ls)

abbrev pub from_first : List Line → Outcome
from_first [] = refused (at_line no_magic 1)
from_first (l ∷ ls) = after_magic l (version_of_line l) ls

-- the header of a file
unfoldable pub header : List ℕ → Outcome
header file = if nat_lt max_file (length file) then refused (refusal file_too_long) else from_first (lines file)

-- ---- the reading: version, form (`is_detached`), each field's descriptor (`descriptor_of`), the names under LIST (`file_names`), each key's value

-- the version is that of line 1
abbrev pub version_of : List Entry → ℕ
version_of [] = 0
version_of (e ∷ es) = version_of_item (item_of e)

-- the value that a pair gives the key k
abbrev pub value_for : List ℕ → Option (List ℕ × List ℕ) → Option (List ℕ)
value_for k none = none
value_for k (some p) = if same k p.0 then some p.1 else none

-- the value that a line gives it
abbrev pub value_in : List ℕ → Item → Option (List ℕ)
value_in k i = value_for k (pair_of i)

-- the value of a key is that of its last pair
unfoldable pub value_of : List ℕ → List Entry → Option (List ℕ)
value_of k [] = none
value_of k (e ∷ es) = or_else (value_of k es) (value_in k (item_of e))

-- ---- the line table, and the header's length

-- where each line of the header starts, the magic and the closing line included
abbrev pub table_of : List Entry → List ℕ
table_of es = starts 0 (lines_of es)

abbrev pub header_length : List Entry → ℕ
header_length es = length (unlines (lines_of es))

-- the lines before the names under LIST; all lines where there are none
unfoldable pub before_names : List Entry → List Entry
before_names [] = []
before_names (e ∷ es) = if is_file_name (item_of e) then [] else e ∷ before_names es

-- how many these are
abbrev pub field_lines : List Entry → ℕ
field_lines es = length (before_names es)
