-- Setting a key (rules, "Setting a key"); lists of settings are in Calls.antt.
-- A setting's refusals in order: 22 (the used length), the reading's, 8, 24, 25, 26, and of the new file 3, 4, 1, 22.
use Rattle.std.specs.Prelude.{ℕ, ◌-◌, max, Bool, not, ◌&&◌, ◌||◌, List, [], ◌∷◌, ◌++◌, ◌==◌, nat_lt, nat_le, length, take, drop, replicate, if◌then◌else◌}
use Rattle.format.specs.declared.Refusal.{Refusal}
use Rattle.format.specs.Bytes.{bytes, between, every, same, is_some, over, TAB, LF}
use Rattle.format.specs.Limits.{max_file, max_header, max_lines}
use Rattle.format.specs.Refusals.{file_too_long, header_too_long, too_many_lines, not_in_version, lent_too_short, bad_key, bad_value, wrong_table, refusal}
use Rattle.format.specs.Lines.{Line, line, ending, unlines, starts}
use Rattle.format.specs.Pairs.{kind_of, is_unmarked, escape}
use Rattle.format.specs.Fields.{pairs_since}
use Rattle.format.specs.Header.{Entry, entry, lines_of, Outcome, refused, accepted, header, version_of, value_in, value_of, table_of}

-- ---- keys and values that a line can hold (24, 25)

-- bytes 9, 10 and 32 to 126
abbrev pub settable : ℕ → Bool
settable b = b == TAB || (b == LF || between 32 126 b)

-- a key that a line can hold: its bytes are settable, and its escaped text is not empty, does not begin with `#`, and has no mark
unfoldable pub key_fine : List ℕ → Bool
key_fine k = every settable k && is_unmarked (kind_of (escape k))

-- a value that a line can hold
unfoldable pub value_fine : List ℕ → Bool
value_fine v = every settable v

-- ---- the lines

-- key, `:=`, value, each escaped
unfoldable pub pair_text : List ℕ → List ℕ → List ℕ
pair_text k v = escape k ++ (bytes ":=" ++ escape v)

abbrev pub has_key : List ℕ → List Entry → Bool
has_key k es = is_some (value_of k es)

-- the last line with the key k gets the text t and keeps its ending
unfoldable pub replaced : List ℕ → List ℕ → List Entry → List Line
replaced k t [] = []
replaced k t (entry l i ∷ es) =
    if has_key k es then l ∷ replaced k t es
    else if is_some (value_in k i) then line t (ending l) ∷ lines_of es
    else l ∷ lines_of es

-- the text t as a new second line, ended as line 1 is; a header always has line 1
abbrev pub inserted : List ℕ → List Entry → List Line
inserted t [] = []
inserted t (entry l i ∷ es) = l ∷ line t (ending l) ∷ lines_of es

-- the header's lines once the key k is set to the value v
unfoldable pub new_lines : List ℕ → List ℕ → List Entry → List Line
new_lines k v es = if has_key k es then replaced k (pair_text k v) es else inserted (pair_text k v) es

-- ---- what is lent, and what it holds afterwards

-- a buffer, its used length, the line table and its count
pub data Lent : Type 0 where
  lent : List ℕ → ℕ → List ℕ → ℕ → Lent

-- a buffer with a file of `used` bytes, once it holds another: what a shorter one vacates becomes 0, bytes past both stay
unfoldable pub refilled : List ℕ → ℕ → List ℕ → List ℕ
refilled buf used file = file ++ (replicate (used - length file) 0 ++ drop (max used (length file)) buf)

-- the lent table and count are those of the file (26): as many entries as lines, all of them lent, each where it should be
unfoldable pub table_fine : List ℕ → ℕ → List ℕ → Bool
table_fine table count expected = count == length expected && (nat_le count (length table) && same (take count table) expected)

-- ---- one setting

pub data Setting : Type 0 where
  setting : List ℕ → List ℕ → Setting

-- refused, and nothing lent changes; or done, with what is lent as it is then
pub data SetOutcome : Type 0 where
  kept : Refusal → SetOutcome
  changed : Lent → SetOutcome

-- the new header's lines ls, before the rest of the file
unfoldable pub store : List ℕ → ℕ → List ℕ → List Line → List ℕ → SetOutcome
store buf used table ls rest =
    if nat_lt max_header (length (unlines ls)) then kept (refusal header_too_long)
    else if nat_lt max_lines (length ls) then kept (refusal too_many_lines)
    else if nat_lt max_file (length (unlines ls ++ rest)) then kept (refusal file_too_long)
    else if nat_lt (length buf) (length (unlines ls ++ rest)) || nat_lt (length table) (length ls) then kept (refusal lent_too_short)
    else changed (lent (refilled buf used (unlines ls ++ rest)) (length (unlines ls ++ rest)) (over (starts 0 ls) table) (length ls))

-- a setting by the reading of the file in the buffer
unfoldable pub set_read : List ℕ → ℕ → List ℕ → ℕ → List ℕ → List ℕ → Outcome → SetOutcome
set_read buf used table count k v (refused r) = kept r
set_read buf used table count k v (accepted es gs ls) =
    if nat_lt (version_of es) pairs_since then kept (refusal not_in_version)
    else if not (key_fine k) then kept (refusal bad_key)
    else if not (value_fine v) then kept (refusal bad_value)
    else if not (table_fine table count (table_of es)) then kept (refusal wrong_table)
    else store buf used table (new_lines k v es) (unlines ls)

-- a setting of what is lent
unfoldable pub set_key : Lent → Setting → SetOutcome
set_key (lent buf used table count) (setting k v) =
    if nat_lt (length buf) used then kept (refusal lent_too_short)
    else set_read buf used table count k v (header (take used buf))
