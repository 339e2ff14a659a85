-- Names under LIST, and the number of files (W5).
-- Once LIST is given every line is a name or closes the header (`under_cases`): no pair and no field stands there, so keys and fields are looked up in the lines before the names.
-- Assumes nothing.
use Rattle.std.specs.Prelude.{if◌then◌else◌}
use Prim.Native.Nat.{ℕ, zero, suc, ◌+◌, ◌-◌, ◌*◌, ◌%◌, ◌≤◌, ◌<◌}
use native.Mathlib.Nat.{zero-add, suc-add, one-mul, mul-one, mul_assoc, mul-le-mul_left, mul-le-mul_right, mul-mod_left, mod-one, mod-add-div', zero-mul, dvd_of_mod-eq-zero, mod-eq-zero_of_dvd, dvd-mul_left_of_dvd, le_of_dvd}
use native.Mathlib.Omega.{arith}
use mathlib.Core.Path.{◌≡◌, refl, sym, ap, ◌∙◌}
use mathlib.Core.Bool.{Bool, true, false, ◌&&◌, false≢true}
use mathlib.Core.List.{List, [], ◌∷◌, ◌++◌, map, map-append, append_assoc, append-nil}
use mathlib.Core.Option.{Option, none, some}
use lib.Dec.{eqb, ltb, leb}
use lib.ListN.{length, take, drop, get_or, length-append, length-map, drop_of_length-le, get_or-append, get_or-eq_default}
use lib.Seq.{take-append_seam, drop-append_seam, drop-cons}
use borrow.Author.Tests.{eqb-true, eqb-false, ltb-true, ltb-false, leb-true}
use Rattle.format.specs.Bytes.{every_below, is_empty, is_some, or_else}
use Rattle.format.specs.Words.{number, number_in, value_of_number, words, numbers_in}
use Rattle.format.specs.Limits.{max_size, max_extent, max_file_number}
use Rattle.format.specs.Refusals.{fine}
use Rattle.format.specs.Lines.{Line, line, eof, text, size, lines}
use Rattle.format.specs.Pairs.{kind_of, pair_texts, field_texts}
use Rattle.format.specs.Fields.{Given, descriptor_of, file_names, sizes, data_file}
use Rattle.format.specs.DataFiles.{is_list, has_percent, Pattern, pattern_of, Numbering, numbering, count_numbers, with_some, step_said, numbering_said, DataFile, one_file, numbered_files, listed_files, axes_said, listed, numbered, pattern_said, data_file_said, count_numbered, files_said, cover_said}
use Rattle.format.specs.Descriptors.{sample_type, signed, types, type_at, sample_bytes, meaning, may_describe, dimension_of, type_of, sizes_said, sizes_of, product, data_file_of, names_follow, list_empty, file_count_of, cover_of}
use Rattle.format.specs.Header.{Item, magic, comment, field, pair, file_name, closing, pair_of, given_of, closes, is_file_name, Entry, entry, lines_of, right, judge, accepted, after_item, header, value_in, value_of, before_names, field_lines}
use Rattle.format.specs.FileNames.{share}
use Rattle.format.specs.Rules.{Keeps}
use Rattle.format.specs.Settings.{has_key}
use Rattle.format.specs.Laws.{Each}
use Rattle.format.specs.Calls.{no_place, value_place, key_place, field_place}
use Rattle.format.proofs.Bytes.{and_left, and_right, every_below_lem}
use Rattle.format.proofs.Judged.{keeps_judge, judge_keeps, after_cases, names_still, no_names}
use Rattle.format.proofs.Pairs.{escaped_pair, field_in, line_pair, line_field}
use Rattle.format.proofs.Header.{FineBy, Fine, fine_cases, IsHeader, header_sound}
use Rattle.format.proofs.Rules.{accepted_keeps}
use Rattle.format.proofs.Oriented.{within_range, header_described}

-- ---- a line under LIST

module _ (version : ℕ) (gs : List Given) (t : List ℕ) where
  -- a line that keeps the rules of its item is a name or closes the header, where names follow
  kept_cases : (i : Item) (P : Item → Type 0) → Keeps version gs t i → names_follow gs ≡ true → (t ≡ [] → P closing) → (is_empty t ≡ false → P (file_name t)) → P i
  kept_cases (magic v) P k n last name = absurd k
  kept_cases comment P k n last name = absurd (false≢true (sym k.0 ∙ n))
  kept_cases (field f d) P k n last name = absurd (false≢true (sym k.other.no_names ∙ n))
  kept_cases (pair x v) P k n last name = absurd (false≢true (sym k.other.no_names ∙ n))
  kept_cases (file_name u) P k n last name = rw k.whole (name k.filled)
  kept_cases closing P k n last name = last k

  -- what holds of the closing line, where the text is empty, and of the name that the text is, holds of what the line is judged to be, where names follow
  pub under_cases : {i : Item} (P : Item → Type 0) → judge version gs t ≡ right i → names_follow gs ≡ true → (t ≡ [] → P closing) → (is_empty t ≡ false → P (file_name t)) → P i
  under_cases {i} P j n last name = kept_cases i P (judge_keeps version gs t j) n last name

  -- a name stands only where names follow
  pub name_follows : {i : Item} → judge version gs t ≡ right i → is_file_name i ≡ true → names_follow gs ≡ true
  name_follows {i} j h = go i (judge_keeps version gs t j) h
    where
      go : (i : Item) → Keeps version gs t i → is_file_name i ≡ true → names_follow gs ≡ true
      go (magic v) k h = absurd k
      go comment k h = absurd (false≢true h)
      go (field f d) k h = absurd (false≢true h)
      go (pair x v) k h = absurd (false≢true h)
      go (file_name u) k h = k.follows
      go closing k h = absurd (false≢true h)

-- names follow once LIST is given, up to the header's end
pub names_go_on : (version : ℕ) (gs : List Given) (t : List ℕ) {i : Item} → judge version gs t ≡ right i → names_follow gs ≡ true → names_follow (after_item i gs) ≡ true
names_go_on version gs t j n =
    after_cases version gs t (λ gs. names_follow gs ≡ true) j n (λ f d w. absurd (false≢true (sym w.other.no_names ∙ n))) (λ u w. names_still u gs ∙ n)

-- ---- the lines under LIST: no pair and no field

module _ (version : ℕ) (gs' : List Given) (r : List Line) where
  -- what holds at the end of a header, and of a name before lines of which it holds, and of the closing line, holds of the lines under LIST; P is told where they start in the file
  module _ (P : ℕ → List Entry → Type 0) (at_end : (at : ℕ) → P at [])
      (last : (at : ℕ) (l : Line) → text l ≡ [] → P at (entry l closing ∷ []))
      (name : (at : ℕ) (l : Line) (es : List Entry) → is_empty (text l) ≡ false → P (at + size l) es → P at (entry l (file_name (text l)) ∷ es)) where
    pub fine_under : (at : ℕ) (gs : List Given) (es : List Entry) → Fine version gs es gs' r → names_follow gs ≡ true → P at es
    fine_under at gs [] f n = at_end at
    fine_under at gs (entry l i ∷ es) f n = go i f.0 f.1 (λ g m. fine_under (at + size l) (after_item i gs) es g m)
      where
        go : (i : Item) → judge version gs (text l) ≡ right i → FineBy (closes i) gs es gs' (Fine version (after_item i gs) es gs' r)
            → (Fine version (after_item i gs) es gs' r → names_follow (after_item i gs) ≡ true → P (at + size l) es) → P at (entry l i ∷ es)
        go i j =
            under_cases version gs (text l)
            (λ i. FineBy (closes i) gs es gs' (Fine version (after_item i gs) es gs' r)
            → (Fine version (after_item i gs) es gs' r → names_follow (after_item i gs) ≡ true → P (at + size l) es) → P at (entry l i ∷ es)) j n
            (λ e g on. rw g.0 (last at l e)) (λ e g on. name at l es e (on g (names_still (text l) gs ∙ n)))

  pub no_value_under : (k : List ℕ) (gs : List Given) (es : List Entry) → Fine version gs es gs' r → names_follow gs ≡ true → value_of k es ≡ none
  unfolding value_of
  no_value_under k = fine_under (λ at es. value_of k es ≡ none) (λ at. refl) (λ at l e. refl) (λ at l es e p. rw p) 0

  pub no_field_under : (f at : ℕ) (gs : List Given) (es : List Entry) → Fine version gs es gs' r → names_follow gs ≡ true → field_place f at es ≡ no_place fine
  unfolding field_place
  no_field_under f = fine_under (λ at es. field_place f at es ≡ no_place fine) (λ at. refl) (λ at l e. refl) (λ at l es e p. p)

-- ---- the lines before the names, and those from the first name on

-- the lines from the first name under LIST on; none where there are no names
unfoldable pub from_names : List Entry → List Entry
from_names [] = []
from_names (entry l i ∷ es) = if is_file_name i then entry l i ∷ es else from_names es

pub before_split : (es : List Entry) → es ≡ before_names es ++ from_names es
unfolding before_names from_names
before_split [] = refl
before_split (entry l i ∷ es) = go (is_file_name i) (before_split es)
  where
    go : (x : Bool) → es ≡ before_names es ++ from_names es
        → entry l i ∷ es ≡ (if x then [] else entry l i ∷ before_names es) ++ (if x then entry l i ∷ es else from_names es)
    go true h = refl
    go false h = ap (λ (x : List Entry). entry l i ∷ x) h

module _ (es : List Entry) where
  -- the same of the lines themselves
  pub before_lines : lines_of es ≡ lines_of (before_names es) ++ lines_of (from_names es)
  before_lines = ap lines_of (before_split es) ∙ simp map-append

  -- the lines before the names are the first of all
  pub before_few : field_lines es ≤ length es
  before_few = omega (arith, ap length (before_split es), length-append (before_names es) (from_names es))

  pub before_take : take (field_lines es) es ≡ before_names es
  before_take = ap (take (field_lines es)) (before_split es) ∙ take-append_seam (before_names es) (from_names es)

  pub before_drop : drop (field_lines es) es ≡ from_names es
  before_drop = ap (drop (field_lines es)) (before_split es) ∙ drop-append_seam (before_names es) (from_names es)

-- line 1 comes first
pub before_first : {s : List ℕ} {es : List Entry} {gs : List Given} {r : List Line} (x : IsHeader s es gs r) → before_names es ≡ entry x.first (magic x.version) ∷ before_names x.rest
unfolding before_names
before_first x = ap before_names x.entries

-- What holds of lines under LIST with none of them before the names, and of a line that is no name with those after it where it holds of those, holds of a header's lines and those before its names.
-- P is told where the lines start in the file.
module _ (P : ℕ → List Entry → List Entry → Type 0) (at_end : (at : ℕ) → P at [] [])
    (under : (version at : ℕ) (gs : List Given) (es : List Entry) (gs' : List Given) (r : List Line) → Fine version gs es gs' r → names_follow gs ≡ true → P at es [])
    (before : (at : ℕ) (l : Line) (i : Item) (es fs : List Entry) → is_file_name i ≡ false → P (at + size l) es fs → P at (entry l i ∷ es) (entry l i ∷ fs)) where
  pub fine_before : (version at : ℕ) (gs : List Given) (es : List Entry) (gs' : List Given) (r : List Line) → Fine version gs es gs' r → P at es (before_names es)
  unfolding before_names
  fine_before version at gs [] gs' r f = at_end at
  fine_before version at gs (entry l i ∷ es) gs' r f =
      go (is_file_name i) refl
      (fine_cases version gs l i es gs' r (λ es gs'. P (at + size l) es (before_names es)) f (λ s c k. at_end (at + size l)) (λ s c g. fine_before version (at + size l) (after_item i gs) es gs' r g))
    where
      go : (x : Bool) → is_file_name i ≡ x → P (at + size l) es (before_names es) → P at (entry l i ∷ es) (if x then [] else entry l i ∷ before_names es)
      go true h p = under version at gs (entry l i ∷ es) gs' r f (name_follows version gs (text l) f.0 h)
      go false h p = before at l i es (before_names es) h p

  pub header_before : (file : List ℕ) {es : List Entry} {gs : List Given} {r : List Line} → header file ≡ accepted es gs r → P 0 es (before_names es)
  unfolding before_names
  header_before file {es} {gs} {r} e =
      let x = header_sound file e in
      rw x.entries (before 0 x.first (magic x.version) x.rest (before_names x.rest) refl (fine_before x.version (0 + size x.first) [] x.rest gs r x.fine))

-- ---- keys and fields stand before the names

-- one line more
value_more : (k : List ℕ) (l : Line) (i : Item) (es fs : List Entry) → value_of k es ≡ value_of k fs → value_of k (entry l i ∷ es) ≡ value_of k (entry l i ∷ fs)
unfolding value_of
value_more k l i es fs p = rw p

key_more : (k : List ℕ) (at : ℕ) (l : Line) (i : Item) (es fs : List Entry) → value_of k es ≡ value_of k fs → key_place k (at + size l) es ≡ key_place k (at + size l) fs
    → key_place k at (entry l i ∷ es) ≡ key_place k at (entry l i ∷ fs)
unfolding key_place
key_more k at l i es fs p q = rw (p, q)

field_more : (f at : ℕ) (l : Line) (i : Item) (es fs : List Entry) → field_place f (at + size l) es ≡ field_place f (at + size l) fs
    → field_place f at (entry l i ∷ es) ≡ field_place f at (entry l i ∷ fs)
unfolding field_place
field_more f at l i es fs p = rw p

-- no value, no place
key_nowhere : (k : List ℕ) (at : ℕ) (es : List Entry) → value_of k es ≡ none → key_place k at es ≡ no_place fine
unfolding key_place value_of
key_nowhere k at [] h = refl
key_nowhere k at (entry l i ∷ es) h = go (value_of k es) (value_in k i) h
  where
    go : (o p : Option (List ℕ)) → or_else o p ≡ none → (if is_some o then key_place k (at + size l) es else if is_some p then value_place at i else no_place fine) ≡ no_place fine
    go none none h = refl
    go none (some v) h = cc
    go (some u) p h = cc

-- of a key: its value, and where that stands
abbrev SameKey : List ℕ → ℕ → List Entry → List Entry → Type 0
SameKey k at es fs = (value_of k es ≡ value_of k fs) × (key_place k at es ≡ key_place k at fs)

module _ (k : List ℕ) where
  key_under : (version at : ℕ) (gs : List Given) (es : List Entry) (gs' : List Given) (r : List Line) → Fine version gs es gs' r → names_follow gs ≡ true → SameKey k at es []
  unfolding value_of key_place
  key_under version at gs es gs' r f n = let h = no_value_under version gs' r k gs es f n in (h, key_nowhere k at es h)

  key_before : (at : ℕ) (l : Line) (i : Item) (es fs : List Entry) → is_file_name i ≡ false → SameKey k (at + size l) es fs → SameKey k at (entry l i ∷ es) (entry l i ∷ fs)
  key_before at l i es fs h p = (value_more k l i es fs p.0, key_more k at l i es fs p.0 p.1)

  fine_key : (version at : ℕ) (gs : List Given) (es : List Entry) (gs' : List Given) (r : List Line) → Fine version gs es gs' r → SameKey k at es (before_names es)
  fine_key = fine_before (SameKey k) (λ at. (refl, refl)) key_under key_before

-- of a field: where its descriptor stands
abbrev SameField : ℕ → ℕ → List Entry → List Entry → Type 0
SameField g at es fs = field_place g at es ≡ field_place g at fs

field_under : (g version at : ℕ) (gs : List Given) (es : List Entry) (gs' : List Given) (r : List Line) → Fine version gs es gs' r → names_follow gs ≡ true → SameField g at es []
unfolding field_place
field_under g version at gs es gs' r f n = no_field_under version gs' r g at gs es f n

-- of lines from any place in a header on: the value of a key, its place, and a field's are those of the lines before the names
module _ (version : ℕ) (gs : List Given) (es : List Entry) (gs' : List Given) (r : List Line) (f : Fine version gs es gs' r) where
  pub fine_value_before : (k : List ℕ) → value_of k es ≡ value_of k (before_names es)
  fine_value_before k = (fine_key k version 0 gs es gs' r f).0

  pub fine_key_before : (k : List ℕ) (at : ℕ) → key_place k at es ≡ key_place k at (before_names es)
  fine_key_before k at = (fine_key k version at gs es gs' r f).1

  pub fine_field_before : (g at : ℕ) → field_place g at es ≡ field_place g at (before_names es)
  fine_field_before g at = fine_before (SameField g) (λ at. refl) (field_under g) (λ at l i es fs h p. field_more g at l i es fs p) version at gs es gs' r f

-- of an accepted header
module _ (file : List ℕ) {es : List Entry} {gs : List Given} {r : List Line} (e : header file ≡ accepted es gs r) where
  header_key : (k : List ℕ) → SameKey k 0 es (before_names es)
  header_key k = header_before (SameKey k) (λ at. (refl, refl)) (key_under k) (key_before k) file e

  pub value_before : (k : List ℕ) → value_of k es ≡ value_of k (before_names es)
  value_before k = (header_key k).0

  pub has_key_before : (k : List ℕ) → has_key k es ≡ has_key k (before_names es)
  has_key_before k = ap is_some (value_before k)

  pub key_place_before : (k : List ℕ) → key_place k 0 es ≡ key_place k 0 (before_names es)
  key_place_before k = (header_key k).1

  pub field_place_before : (g : ℕ) → field_place g 0 es ≡ field_place g 0 (before_names es)
  field_place_before g = header_before (SameField g) (λ at. refl) (field_under g) (λ at l i es fs h p. field_more g at l i es fs p) file e

-- ---- each line before the names is what its text says

-- What holds of no lines, and of a line that is judged where no names follow with others of which it holds, holds of the lines before the names.
-- The empty line closes the header under LIST too; it is then judged as after no fields.
module _ (P : List Entry → Type 0) (nothing : P [])
    (more : (version : ℕ) (gs : List Given) (l : Line) (i : Item) (es : List Entry) → judge version gs (text l) ≡ right i → names_follow gs ≡ false → P es → P (entry l i ∷ es)) where
  pub fine_by_text : (version : ℕ) (gs : List Given) (es : List Entry) (gs' : List Given) (r : List Line) → Fine version gs es gs' r → P (before_names es)
  unfolding before_names
  fine_by_text version gs [] gs' r f = nothing
  fine_by_text version gs (entry l i ∷ es) gs' r f =
      go (is_file_name i) refl (names_follow gs) refl
      (fine_cases version gs l i es gs' r (λ es gs'. P (before_names es)) f (λ s c k. nothing) (λ s c g. fine_by_text version (after_item i gs) es gs' r g))
    where
      go : (x : Bool) → is_file_name i ≡ x → (y : Bool) → names_follow gs ≡ y → P (before_names es) → P (if x then [] else entry l i ∷ before_names es)
      go true h y n p = nothing
      go false h false n p = more version gs l i (before_names es) f.0 n p
      go false h true n p =
          under_cases version gs (text l) (λ i. is_file_name i ≡ false → P (entry l i ∷ before_names es)) f.0 n
          (λ e q. more version [] l closing (before_names es) (keeps_judge version [] (text l) closing e) no_names p) (λ e q. absurd (false≢true (sym q))) h

-- what a line with the text t says is the item: its pair, its field
pub record Says (t : List ℕ) (i : Item) : Type 0 where
  pub says_pair : pair_texts (kind_of t) ≡ escaped_pair (pair_of i)
  pub says_field : field_in (field_texts (kind_of t)) ≡ given_of i

abbrev pub AllSay : List Entry → Type 0
AllSay [] = Unit {0}
AllSay (entry l i ∷ es) = Says (text l) i × AllSay es

pub fine_says : (version : ℕ) (gs : List Given) (es : List Entry) (gs' : List Given) (r : List Line) → Fine version gs es gs' r → AllSay (before_names es)
fine_says =
    fine_by_text AllSay tt (λ version gs l i es j n p. (record { says_pair = line_pair version gs (text l) n j; says_field = line_field version gs (text l) n j }, p))

-- ---- right after LIST comes a name

-- so lines after LIST, before any name, have none of them before the names
pub list_begins : (version : ℕ) (gs : List Given) (es : List Entry) (gs' : List Given) (r : List Line) → Fine version gs es gs' r → names_follow gs ≡ true → file_names gs ≡ [] → before_names es ≡ []
unfolding before_names list_empty
list_begins version gs [] gs' r f n z = refl
list_begins version gs (entry l i ∷ es) gs' r f n z =
    under_cases version gs (text l) (λ i. FineBy (closes i) gs es gs' (Fine version (after_item i gs) es gs' r) → before_names (entry l i ∷ es) ≡ []) f.0 n
    (λ e g. absurd (false≢true (sym g.1.filled ∙ rw (n, z)))) (λ e g. refl) f.1

-- ---- the names are lines

-- the texts of the lines that are names
unfoldable name_texts : List Entry → List (List ℕ)
name_texts [] = []
name_texts (entry l i ∷ es) = if is_file_name i then text l ∷ name_texts es else name_texts es

name_more : (version : ℕ) (gs : List Given) (l : Line) (i : Item) (es : List Entry) → Keeps version gs (text l) i
    → file_names (after_item i gs) ++ name_texts es ≡ file_names gs ++ name_texts (entry l i ∷ es)
unfolding file_names name_texts
name_more version gs l (magic v) es k = refl
name_more version gs l comment es k = refl
name_more version gs l (field f d) es k = refl
name_more version gs l (pair x v) es k = refl
name_more version gs l (file_name u) es k = rw (k.whole, append_assoc)
name_more version gs l closing es k = refl

-- the names at the end of a header are those given before its lines, and those of its lines
fine_names : (version : ℕ) (gs : List Given) (es : List Entry) (gs' : List Given) (r : List Line) → Fine version gs es gs' r → file_names gs' ≡ file_names gs ++ name_texts es
unfolding name_texts
fine_names version gs [] gs' r f = rw f.3 (sym (append-nil (file_names gs)))
fine_names version gs (entry l i ∷ es) gs' r f =
    fine_cases version gs l i es gs' r (λ es gs'. file_names gs' ≡ file_names gs ++ name_texts (entry l i ∷ es)) f
    (λ k c q. sym (append-nil (file_names (after_item i gs))) ∙ name_more version gs l i [] k)
    (λ k c g. fine_names version (after_item i gs) es gs' r g ∙ name_more version gs l i es k)

-- the n-th name is the text of the n-th line after so many
abbrev NamesAt : ℕ → List Entry → Type 0
NamesAt before es =
    (n : ℕ) → n < length (name_texts es) → (get_or (name_texts es) n [] ≡ text (get_or (lines_of es) (before + n) (line [] eof))) × (before + n < length es)

-- the same under LIST, after no line
abbrev NamesFirst : List Entry → Type 0
NamesFirst es = (n : ℕ) → n < length (name_texts es) → (get_or (name_texts es) n [] ≡ text (get_or (lines_of es) n (line [] eof))) × (n < length es)

names_under : (version : ℕ) (gs : List Given) (es : List Entry) (gs' : List Given) (r : List Line) → Fine version gs es gs' r → names_follow gs ≡ true → NamesFirst es
unfolding name_texts
names_under version gs es gs' r =
    fine_under version gs' r (λ at es. NamesFirst es) (λ at n h. absurd (omega arith)) (λ at l e n h. absurd (omega arith)) (λ at l es e p. one l es p) 0 gs es
  where
    one : (l : Line) (es : List Entry) → NamesFirst es → NamesFirst (entry l (file_name (text l)) ∷ es)
    one l es p zero h = (refl, omega arith)
    one l es p (suc n) h = let q = p n (omega arith) in (q.0, omega arith)

-- one line more before them
names_after : (l : Line) (i : Item) (es fs : List Entry) → is_file_name i ≡ false → NamesAt (length fs) es → NamesAt (length (entry l i ∷ fs)) (entry l i ∷ es)
unfolding name_texts
names_after l i es fs h p = rw h (λ n k. let q = p n k in (rw suc-add q.0, omega arith))

-- the n-th name of an accepted header is the text of the n-th line after that of LIST, and that line is one of the header's
pub names_are_lines : (file : List ℕ) {es : List Entry} {gs : List Given} {r : List Line} → header file ≡ accepted es gs r → (n : ℕ) → n < length (file_names gs)
    → (get_or (file_names gs) n [] ≡ text (get_or (lines file) (field_lines es + n) (line [] eof))) × (field_lines es + n < length es)
unfolding name_texts file_names
names_are_lines file {es} {gs} {r} e n h =
    let x = header_sound file e in
    let q : file_names gs ≡ name_texts es = fine_names x.version [] x.rest gs r x.fine ∙ sym (ap name_texts x.entries) in
    let p =
    header_before (λ at es fs. NamesAt (length fs) es) (λ at n h. absurd (omega arith)) (λ version at gs es gs' r f m n h. rw zero-add (names_under version gs es gs' r f m n h)) (λ at l i es fs h p. names_after l i es fs h p) file e n (rw q at h) in
    (rw (q, x.split, get_or-append (lines_of es) r (line [] eof) (field_lines es + n) (rw length-map p.1)) p.0, p.1)

-- ---- how many files there are

-- what the descriptor t of a data file says: a pattern has at least one number, and names follow LIST and no other form
abbrev pub Counts : List ℕ → Option DataFile → Type 0
Counts t none = Unit {0}
Counts t (some (one_file u)) = is_list t ≡ false
Counts t (some (numbered_files p k axes)) = (1 ≤ count_numbered k) × (is_list t ≡ false)
Counts t (some (listed_files axes)) = is_list t ≡ true

abbrev SomeNumber : Option Numbering → Type 0
SomeNumber none = Unit {0}
SomeNumber (some k) = 1 ≤ count_numbered k

with_some_lem : (first : ℕ) (falls : Bool) (step count : ℕ) → SomeNumber (with_some first falls step count)
with_some_lem first falls step count = go (eqb count 0) refl
  where
    go : (x : Bool) → eqb count 0 ≡ x → SomeNumber (if x then none else some (numbering first falls step count))
    go true e = tt
    go false e = omega (arith, eqb-false count 0 e)

some_number : (first last : List ℕ) (o : Option (Bool × ℕ)) → SomeNumber (numbering_said first last o)
some_number first last none = tt
some_number first last (some (falls, step)) = go (number_in 0 max_file_number first && number_in 0 max_file_number last)
  where
    count : ℕ
    count = count_numbers falls (value_of_number first) (value_of_number last) step

    go : (x : Bool) → SomeNumber (if x then with_some (value_of_number first) falls step count else none)
    go true = with_some_lem (value_of_number first) falls step count
    go false = tt

numbered_counts : (t : List ℕ) (p : Option Pattern) (k : Option Numbering) (axes : Option (Option ℕ)) → is_list t ≡ false → SomeNumber k → Counts t (numbered p k axes)
numbered_counts t none k axes l h = tt
numbered_counts t (some p) none axes l h = tt
numbered_counts t (some p) (some k) none l h = tt
numbered_counts t (some p) (some k) (some axes) l h = (h, l)

pattern_counts : (t : List ℕ) (ws : List (List ℕ)) → is_list t ≡ false → Counts t (pattern_said ws)
pattern_counts t [] l = tt
pattern_counts t (p ∷ []) l = tt
pattern_counts t (p ∷ first ∷ []) l = tt
pattern_counts t (p ∷ first ∷ last ∷ []) l = tt
pattern_counts t (p ∷ first ∷ last ∷ step ∷ more) l =
    numbered_counts t (pattern_of p) (numbering_said first last (step_said step)) (axes_said more) l (some_number first last (step_said step))

pub said_counts : (t : List ℕ) → Counts t (data_file_said t)
unfolding data_file_said
said_counts t = go (is_list t) refl (has_percent t) (is_empty t)
  where
    list : is_list t ≡ true → (o : Option (Option ℕ)) → Counts t (listed o)
    list h none = tt
    list h (some axes) = h

    go : (x : Bool) → is_list t ≡ x → (y z : Bool)
        → Counts t (if x then listed (axes_said (words (drop 4 t))) else if y then pattern_said (words t) else if z then none else some (one_file t))
    go true h y z = list h (axes_said (words (drop 4 t)))
    go false h true z = pattern_counts t (words t) h
    go false h false true = tt
    go false h false false = h

-- where not asked how many axes a file covers there is one file
one_unasked : (o : Option DataFile) (names : ℕ) → cover_said o ≡ none → files_said o names ≡ 1
one_unasked none names h = refl
one_unasked (some (one_file t)) names h = refl
one_unasked (some (numbered_files p k axes)) names h = cc
one_unasked (some (listed_files axes)) names h = cc

pub one_file_lem : (gs : List Given) → cover_of gs ≡ none → file_count_of gs ≡ 1
unfolding file_count_of
one_file_lem gs h = one_unasked (data_file_of gs) (length (file_names gs)) h

-- ---- products of sizes

-- where every size is at least 1: fewer factors give no more, and the product is at least 1
pub product_drop : (c : ℕ) (ns : List ℕ) → Each (λ (n : ℕ). 1 ≤ n) ns → product (drop c ns) ≤ product ns
unfolding product
product_drop zero ns h = omega arith
product_drop (suc c) [] h = omega arith
product_drop (suc c) (n ∷ ns) h = omega (arith, product_drop c ns h.1, mul-le-mul_right {m = 1} {n = n} (product ns) h.0)

pub product_positive : (ns : List ℕ) → Each (λ (n : ℕ). 1 ≤ n) ns → 1 ≤ product ns
unfolding product
product_positive [] h = omega arith
product_positive (n ∷ ns) h = omega (arith, product_positive ns h.1, mul-le-mul_right {m = 1} {n = n} (product ns) h.0)

-- the product of the first factors, and of the others
pub product_split : (c : ℕ) (ns : List ℕ) → product ns ≡ product (take c ns) * product (drop c ns)
unfolding product
product_split zero ns = sym (one-mul (product ns))
product_split (suc c) [] = refl
product_split (suc c) (n ∷ ns) = rw (product_split c ns, mul_assoc)

-- the last factor
product_last : (m : ℕ) (ns : List ℕ) → length ns ≡ suc m → product ns ≡ product (take m ns) * get_or ns m 0
unfolding product
product_last m ns h =
    let l : m < length ns = omega arith in
    product_split m ns ∙ rw (drop-cons ns m 0 l, drop_of_length-le ns {i = suc m} (omega arith), mul-one)

-- Where k files cover c of n axes as they should, k divides the number of samples: equal shares are not a rule of their own.
pub files_divide : (n : ℕ) (ns : List ℕ) (k c : ℕ) → length ns ≡ n → 1 ≤ c → c ≤ n → (c < n → k ≡ product (drop c ns)) → (c ≡ n → get_or ns (n - 1) 0 % k ≡ 0) → product ns % k ≡ 0
files_divide n ns k c h least most slices slabs = go (ltb c n) refl
  where
    go : (x : Bool) → ltb c n ≡ x → product ns % k ≡ 0
    go true e = rw (slices (ltb-true c n e), product_split c ns) (mul-mod_left (product (take c ns)) (product (drop c ns)))
    go false e =
        let q : c ≡ n = omega (arith, ltb-false c n e) in
        let d = dvd-mul_left_of_dvd k (dvd_of_mod-eq-zero k (slabs q)) (product (take (n - 1) ns)) in
        rw (product_last (n - 1) ns (omega arith)) (mod-eq-zero_of_dvd k d)

-- ---- the files of an accepted header

-- a sample has a byte or more
pub sample_some : (t : ℕ) → 1 ≤ sample_bytes t
unfolding every_below type_at
sample_some t = go (ltb t (length types)) refl
  where
    go : (x : Bool) → ltb t (length types) ≡ x → 1 ≤ sample_bytes t
    go true e = leb-true 1 (sample_bytes t) (every_below_lem (λ i. leb 1 (sample_bytes i)) (length types) refl t (ltb-true t (length types) e))
    go false e = rw (get_or-eq_default types (sample_type "int8" 1 signed []) (ltb-false t (length types) e)) (omega arith)

numbers_some : (ws : List (List ℕ)) → numbers_in 1 max_size ws ≡ true → Each (λ (n : ℕ). 1 ≤ n) (map value_of_number ws)
unfolding numbers_in
numbers_some [] h = tt
numbers_some (w ∷ ws) h = (
  (within_range 1 max_size (number w) (and_left (number_in 1 max_size w) (numbers_in 1 max_size ws) h)).0,
  numbers_some ws (and_right (number_in 1 max_size w) (numbers_in 1 max_size ws) h),
)

module _ (file : List ℕ) {es : List Entry} {gs : List Given} {r : List Line} (e : header file ≡ accepted es gs r) where
  -- there is a size for each axis, and it is at least 1
  sizes_fine : (o : Option (List ℕ)) → descriptor_of sizes gs ≡ o → is_some o ≡ true
      → (length (meaning [] sizes_said o) ≡ dimension_of gs) × Each (λ (n : ℕ). 1 ≤ n) (meaning [] sizes_said o)
  unfolding may_describe
  sizes_fine none q h = absurd (false≢true h)
  sizes_fine (some t) q h =
      let d = (header_described file e sizes t q).described in
      let many = eqb (length (words t)) (dimension_of gs) in
      (length-map (words t) value_of_number ∙ eqb-true (length (words t)) (dimension_of gs) (and_left many (numbers_in 1 max_size (words t)) d), numbers_some (words t) (and_right many (numbers_in 1 max_size (words t)) d))

  pub sizes_many : length (sizes_of gs) ≡ dimension_of gs
  sizes_many = (sizes_fine (descriptor_of sizes gs) refl (accepted_keeps file e).needed.has_sizes).0

  pub sizes_some : Each (λ (n : ℕ). 1 ≤ n) (sizes_of gs)
  sizes_some = (sizes_fine (descriptor_of sizes gs) refl (accepted_keeps file e).needed.has_sizes).1

  -- there is a sample, and there are at most so many
  pub product_some : 1 ≤ product (sizes_of gs)
  product_some = product_positive (sizes_of gs) sizes_some

  pub product_few : product (sizes_of gs) ≤ max_extent
  product_few =
      omega (arith, (accepted_keeps file e).extent_bytes, mul-le-mul_left (product (sizes_of gs)) (sample_some (type_of gs)), mul-one (product (sizes_of gs)))

  -- there is at least one file
  pub files_some : 1 ≤ file_count_of gs
  unfolding file_count_of names_follow
  files_some = go (descriptor_of data_file gs) refl
    where
      names : ℕ
      names = length (file_names gs)

      said : (t : List ℕ) → (is_list t ≡ true → 1 ≤ names) → (d : Option DataFile) → Counts t d → 1 ≤ files_said d names
      said t h none c = omega arith
      said t h (some (one_file u)) c = omega arith
      said t h (some (numbered_files p k axes)) c = c.0
      said t h (some (listed_files axes)) c = h c

      go : (o : Option (List ℕ)) → descriptor_of data_file gs ≡ o → 1 ≤ files_said (meaning none data_file_said o) names
      go none q = omega arith
      go (some t) q = said t (λ l. (accepted_keeps file e).list_filled (rw q l)) (data_file_said t) (said_counts t)

  -- each file has an equal share of the samples
  pub shares_fit : product (sizes_of gs) % file_count_of gs ≡ 0
  shares_fit = go (cover_of gs) refl
    where
      go : (o : Option (Option ℕ)) → cover_of gs ≡ o → product (sizes_of gs) % file_count_of gs ≡ 0
      go none q = rw (one_file_lem gs q) (mod-one (product (sizes_of gs)))
      go (some axes) q = ((accepted_keeps file e).files_cover axes q).shares

  -- there are no more files than samples, so their number fits 32 bits
  pub files_within : file_count_of gs ≤ product (sizes_of gs)
  files_within = le_of_dvd product_some (dvd_of_mod-eq-zero (file_count_of gs) shares_fit)

  pub files_few : file_count_of gs ≤ max_extent
  files_few = omega (arith, files_within, product_few)

  -- a share has a sample, and all shares together are the samples
  pub share_whole : share (product (sizes_of gs)) (file_count_of gs) * file_count_of gs ≡ product (sizes_of gs)
  share_whole = omega (arith, shares_fit, mod-add-div' (product (sizes_of gs)) (file_count_of gs))

  pub share_some : 1 ≤ share (product (sizes_of gs)) (file_count_of gs)
  share_some = go (share (product (sizes_of gs)) (file_count_of gs)) share_whole
    where
      go : (n : ℕ) → n * file_count_of gs ≡ product (sizes_of gs) → 1 ≤ n
      go zero h = absurd (omega (arith, zero-mul (file_count_of gs), product_some))
      go (suc n) h = omega arith
