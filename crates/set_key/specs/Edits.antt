-- Internal to this crate. One setting as an edit of the file's bytes: where the line goes, the numbers of the new file, and what `prepare` and `set_into` answer.
use Rattle.std.specs.Prelude.{ℕ, ◌+◌, ◌-◌, ◌≤◌, ◌≡◌, Bool, not, ◌||◌, List, ◌∷◌, min, nat_lt, length, take, Result, Ok, Err, if◌then◌else◌}
use Rattle.format.specs.declared.SetAnswer.{SetAnswer}
use Rattle.format.specs.declared.reason.Reason.{Reason}
use Rattle.format.specs.declared.reason.Reason.TheVariants.{FileTooLong, HeaderTooLong, TooManyLines, LentTooShort}
use Rattle.format.specs.declared.reason.Refused.{Refused}
use Rattle.format.specs.Bytes.{over}
use Rattle.format.specs.Limits.{max_file, max_header, max_lines}
use Rattle.format.specs.Refusals.{not_in_version, bad_key, bad_value, wrong_table}
use Rattle.format.specs.Reasons.{refusal_of}
use Rattle.format.specs.Lines.{Line, text, size, lines, unlines, starts}
use Rattle.format.specs.Fields.{pairs_since}
use Rattle.format.specs.Header.{Entry, lines_of, header, header_length, table_of}
use Rattle.format.specs.Settings.{pair_text, new_lines, lent, kept, changed, refilled, set_read}
use Rattle.read_table.specs.declared.table.Edit.{Edit}
use Rattle.read_table.specs.Shifts.{shifted, Shiftable, moved_entries}
use Rattle.format.specs.Calls.{set_key_call}
use Rattle.set_splice.specs.Edited.{edited}
use Rattle.set_key.specs.declared.plan.Plan.{Plan}
use Rattle.set_key.specs.declared.plan.Sizes.{Sizes}

-- how long the pair's text is, capped at one more than a header may have
abbrev pub text_length : List ℕ → List ℕ → ℕ
text_length k v = min (length (pair_text k v)) (max_header + 1)

-- a text of m bytes after line 1: a line after it, with its ending, is put in where its text ends
abbrev pub FirstAt : List ℕ → ℕ → Edit → Type 0
FirstAt file m p =
    (l : Line) (ls : List Line) → lines file ≡ l ∷ ls → size l ≤ max_header → p ≡ record { from = size l; to = length (text l); front = size l + m; more = 1 }

-- the text of the pair, of m bytes where that fits a header, makes the new lines of the old ones
pub record Placed (k : List ℕ) (es : List Entry) (m : ℕ) (p : Edit) : Type 0 where
  pub from : p.from ≤ header_length es
  pub to : p.to ≤ header_length es
  pub front : p.front ≡ p.from + m
  pub few : p.more ≤ 1
  pub count : (v : List ℕ) → length (new_lines k v es) ≡ length es + p.more
  pub bytes : (v : List ℕ) → unlines (new_lines k v es) ≡ edited (unlines (lines_of es)) p.from p.to (pair_text k v)
  pub table : (v : List ℕ) → starts 0 (new_lines k v es) ≡ shifted p.from p.to (p.from + length (pair_text k v)) p.more (table_of es)

-- numbers whose sums fit: an edit in a header, by a text of at most one byte more than a header may have
pub record Small (p : Edit) (old : Sizes) : Type 0 where
  pub front : p.front ≤ old.header + (max_header + 1)
  pub to : p.to ≤ old.header
  pub few : p.more ≤ 1
  pub header : old.header ≤ max_header
  pub lines : old.lines ≤ max_lines
  pub within : old.header ≤ old.file
  pub file : old.file ≤ max_file

-- ---- the refusals, in order

-- 8, 24, 25, 26, or 0
unfoldable pub asked_number : ℕ → Bool → Bool → Bool → ℕ
asked_number version key value table =
    if nat_lt version pairs_since then not_in_version
    else if not key then bad_key
    else if not value then bad_value
    else if not table then wrong_table
    else 0

-- 3, 4, 1, 22 of an edit, or the plan, in a buffer of `room` bytes and a table of `slots` entries
unfoldable pub fitted : Edit → Sizes → ℕ → ℕ → Result Plan Reason
fitted p old room slots =
    if nat_lt max_header (p.front + (old.header - p.to)) then Err HeaderTooLong
    else if nat_lt max_lines (old.lines + p.more) then Err TooManyLines
    else if nat_lt max_file (p.front + (old.file - p.to)) then Err FileTooLong
    else if nat_lt room (p.front + (old.file - p.to)) || nat_lt slots (old.lines + p.more) then Err LentTooShort
    else Ok (record { edit = p; length = p.front + (old.file - p.to); count = old.lines + p.more })

-- ---- the plan

-- nothing is refused: the edit can be made, and it is the setting
pub record Ready (file : List ℕ) (room : ℕ) (table : List ℕ) (count : ℕ) (k v : List ℕ) (p : Plan) : Type 0 where
  pub from : p.edit.from ≤ length file
  pub to : p.edit.to ≤ length file
  pub text : p.edit.front ≡ p.edit.from + length (pair_text k v)
  pub long : p.length ≡ p.edit.front + (length file - p.edit.to)
  pub fits : p.length ≤ room
  pub shift : Shiftable table count p.edit.more p.edit.from p.edit.to p.edit.front
  pub answer : (buf : List ℕ) (used : ℕ) → length buf ≡ room
      → let new = edited file p.edit.from p.edit.to (pair_text k v) in
      set_read buf used table count k v (header file) ≡ changed (lent (refilled buf used new) p.length (over (moved_entries p.edit (take count table)) table) p.count)

-- what `prepare` answers of a file in a buffer of `room` bytes: the setting's refusal, or its plan
abbrev pub Planned : List ℕ → ℕ → List ℕ → ℕ → List ℕ → List ℕ → Result Plan Refused → Type 0
Planned file room table count k v (Err r) = (buf : List ℕ) (used : ℕ) → length buf ≡ room → set_read buf used table count k v (header file) ≡ kept (refusal_of r)
Planned file room table count k v (Ok p) = Ready file room table count k v p

-- ---- the answer

-- with a table in cells that hold these entries
abbrev pub set_into : {A : Type 0} → (List A → List ℕ) → (List ℕ → List A → List A) → List ℕ → ℕ → List A → ℕ → List ℕ → List ℕ → SetAnswer × (List ℕ × List A)
set_into entries holding buf used table count k v =
    let a = set_key_call buf used (entries table) count k v in (a.0, (a.1.0, holding a.1.1 table))
