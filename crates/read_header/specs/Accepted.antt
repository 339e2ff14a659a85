-- Internal to the library. An accepted header: how many lines it has, in all and before the names under LIST, and what these were judged to be.
use Rattle.std.specs.Prelude.{ℕ, ◌≡◌, false, List, [], ◌∷◌, length}
use Rattle.format.specs.Lines.{Line, text}
use Rattle.format.specs.Fields.{Given}
use Rattle.format.specs.Descriptors.{names_follow}
use Rattle.format.specs.Header.{Item, Entry, entry, right, judge, accepted, header, field_lines}

-- a file whose header is accepted, with so many lines
pub record Headed (file : List ℕ) (lines : ℕ) : Type 0 where
  pub entries : List Entry
  pub fields : List Given
  pub after : List Line
  pub is : header file ≡ accepted entries fields after
  pub many : lines ≡ length entries

-- the same, with so many lines before the names under LIST, which are all its lines where there are none
pub record Fielded (file : List ℕ) (lines : ℕ) : Type 0 where
  pub entries : List Entry
  pub fields : List Given
  pub after : List Line
  pub is : header file ≡ accepted entries fields after
  pub many : lines ≡ field_lines entries

-- a line with the text t was judged to be the item, after fields that no names follow: its text alone says what it is.
-- An empty line closes the header under LIST too; it is then judged as after no fields.
pub record IsItem (t : List ℕ) (i : Item) : Type 0 where
  pub version : ℕ
  pub before : List Given
  pub judged : judge version before t ≡ right i
  pub no_names : names_follow before ≡ false

abbrev pub Items : List Entry → Type 0
Items [] = Unit {0}
Items (entry l i ∷ es) = IsItem (text l) i × Items es
